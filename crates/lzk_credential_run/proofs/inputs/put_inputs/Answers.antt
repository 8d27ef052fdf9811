use Rattle.std.proofs.Common.{refl, List, map, ap, ◌∙◌}
use Rattle.lzk_goldilocks.specs.Elements.{number}
use Rattle.lzk_goldilocks.specs.declared.element.Gold.{Gold}
use Rattle.lzk_cmd_files.specs.Seen.{seen}
use Rattle.lzk_credential_run.specs.Given.{PutsInputs}
use Rattle.lzk_policy_texts.specs.Numbers.{number_lines}
use Rattle.lzk_credential_run.proofs.InputEnds.{no_memory, inputs_put}
use Rattle.lzk_credential_run.proofs.inputs.put_inputs.Goals as goal

pub returns-in_err-first : goal.returns-in_err-first
returns-in_err-first g c =
    no_memory (PutsInputs c.args.outputs.now.public.now c.args.outputs.now.private.now c.args.inputs.now) c.args.outputs.now.public.now (seen g.S.Shelf c.args.shelf.now) (seen g.S.Shelf c.args.shelf.now) _ refl c.from_residual.ensures.1

pub returns-in_err-second : goal.returns-in_err-second
returns-in_err-second g c =
    no_memory (PutsInputs c.args.outputs.now.public.now c.args.outputs.now.private.now c.args.inputs.now) c.args.outputs.now.public.now (seen g.S.Shelf c.args.shelf.now) (seen g.S.Shelf c.args.shelf.now) _ refl c.from_residual-in_err-second.ensures.1

pub returns : goal.returns
returns g c =
    inputs_put c.args.outputs.now.public.now c.args.outputs.now.private.now c.args.inputs.now c.as_bytes.result.now c.as_bytes-2.result.now (seen g.S.Shelf c.args.shelf.now) (seen g.S.Shelf c.put_both.new.shelf) c.put_both.result
    (c.as_bytes.ensures.value ∙ c.in_ok-first.ensures ∙ ap (λ (xs : List Gold). number_lines (map number xs)) c.public.ensures)
    (c.as_bytes-2.ensures.value ∙ c.in_ok-second.ensures ∙ ap (λ (xs : List Gold). number_lines (map number xs)) c.private.ensures)
    c.put_both.ensures
