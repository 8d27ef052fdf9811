use Rattle.lzk_cmd_files.specs.Decoded.{number_files}
use Rattle.lzk_cmd_files.specs.Seen.{seen}
use Rattle.lzk_cmd_files.proofs.Steps.{no_bytes, decoded}
use Rattle.std.proofs.lemmas.Result.{IfOk-from_err}
use Rattle.lzk_cmd_files.proofs.numbers.read_elements.Goals as goal

pub returns-in_err-text-clause-gives : goal.returns-in_err-text-clause-gives
returns-in_err-text-clause-gives g c =
    no_bytes (number_files g.F.Field.coding.size g.F.Field.coding.number c.args.count) (λ v. v.items) c.args.name.now (seen g.S.Shelf c.args.shelf.now) (seen g.S.Shelf c.read_file.new.shelf) _ c.in_err-text.field-0.0 c.in_err-text.ensures.gives c.from_residual.ensures.1

pub returns-clause-gives : goal.returns-clause-gives
returns-clause-gives g c =
    decoded (number_files g.F.Field.coding.size g.F.Field.coding.number c.args.count) (λ v. v.items) c.args.name.now (seen g.S.Shelf c.args.shelf.now) (seen g.S.Shelf c.read_file.new.shelf) _ c.in_ok-text.text.items c.deref.result.now c.deref.ensures.value c.in_ok-text.ensures.gives c.elements_of.ensures.decodes

pub returns-in_err-text-clause-reads : goal.returns-in_err-text-clause-reads
returns-in_err-text-clause-reads g c = c.read_file.ensures.reads

pub returns-in_err-text-clause-count : goal.returns-in_err-text-clause-count
returns-in_err-text-clause-count g c = IfOk-from_err _ _ c.from_residual.ensures.0

pub returns-clause-reads : goal.returns-clause-reads
returns-clause-reads g c = c.read_file.ensures.reads

pub returns-clause-count : goal.returns-clause-count
returns-clause-count g c = c.elements_of.ensures.count
