use Rattle.std.proofs.lemmas.Result.{IfOk-from_err}
use Rattle.std.proofs.Common.{◌≡◌, length, refl, subst, ◌∙◌, arith}
use Rattle.std.specs.Prelude.{IfOk, Vec}
use Rattle.std.specs.declared.alloc.Global.{Global}
use Rattle.lzk_cmd_files.specs.Decoded.{number_files}
use Rattle.lzk_cmd_files.specs.Seen.{seen}
use Rattle.lzk_cmd_files.specs.Walks.{Decodes}
use Rattle.lzk_cmd_batch.proofs.Gathers.{items_with}
use Rattle.lzk_cmd_files.proofs.Inputs.{items_of}
use Rattle.lzk_cmd_files.proofs.Steps.{no_bytes}
use Rattle.lzk_cmd_batch.specs.Batched.{among}
use Rattle.lzk_cmd_batch.proofs.Keeping.{over, refused, counted}
use Rattle.lzk_cmd_batch.proofs.totals.read_publics.Goals as goal

pub returns-in_err-elements-clause-gives : goal.returns-in_err-elements-clause-gives
returns-in_err-elements-clause-gives g c =
    refused (number_files g.F.Field.coding.size g.F.Field.coding.number c.args.count) items_with c.args.name.now (seen g.S.Shelf c.args.shelf.now) (seen g.S.Shelf c.read_file.new.shelf) c.args.taken _ items_of c.in_ok-text.text.items c.deref.result.now c.len.result c.in_ok-taken.taken
    c.in_err-elements.field-0.0 c.deref.ensures.value (c.len.ensures ∙ c.in_ok-text.text.ok.0) c.in_ok-text.ensures.gives c.in_ok-taken.ensures (subst (Decodes (number_files g.F.Field.coding.size g.F.Field.coding.number c.args.count) items_of c.args.name.now c.deref.result.now) c.in_err-elements.was c.elements_of-decoded.ensures.decodes) c.from_residual-in_err-elements.ensures.1

pub returns-in_err-text-clause-count : goal.returns-in_err-text-clause-count
returns-in_err-text-clause-count g c = IfOk-from_err _ _ c.from_residual.ensures.0

pub returns-in_err-text-clause-reads : goal.returns-in_err-text-clause-reads
returns-in_err-text-clause-reads g c = c.read_file.ensures.reads

pub returns-in_err-taken-clause-count : goal.returns-in_err-taken-clause-count
returns-in_err-taken-clause-count g c = IfOk-from_err _ _ c.from_residual-in_err-taken.ensures.0

pub returns-in_err-taken-clause-reads : goal.returns-in_err-taken-clause-reads
returns-in_err-taken-clause-reads g c = c.read_file.ensures.reads

pub returns-in_err-elements-clause-count : goal.returns-in_err-elements-clause-count
returns-in_err-elements-clause-count g c = IfOk-from_err _ _ c.from_residual-in_err-elements.ensures.0

pub returns-in_err-elements-clause-reads : goal.returns-in_err-elements-clause-reads
returns-in_err-elements-clause-reads g c = c.read_file.ensures.reads

pub returns-clause-reads : goal.returns-clause-reads
returns-clause-reads g c = c.read_file.ensures.reads

pub returns-clause-count : goal.returns-clause-count
returns-clause-count g c = subst (λ r. IfOk r (λ (v : Vec _ Global). length v.items ≡ c.args.count)) c.in_ok-elements.was c.elements_of-decoded.ensures.count

pub count_in-requires-clause-taken : goal.count_in-requires-clause-taken
count_in-requires-clause-taken g c = c.requires.taken

pub count_in-requires-clause-bytes : goal.count_in-requires-clause-bytes
count_in-requires-clause-bytes g c = omega (arith, c.len.ensures, c.in_ok-text.text.ok.0, c.in_ok-text.ensures.fits)

pub returns-in_err-text-clause-gives : goal.returns-in_err-text-clause-gives
returns-in_err-text-clause-gives g c =
    no_bytes (among c.args.taken (number_files g.F.Field.coding.size g.F.Field.coding.number c.args.count)) items_with c.args.name.now (seen g.S.Shelf c.args.shelf.now) (seen g.S.Shelf c.read_file.new.shelf) _ c.in_err-text.field-0.0 c.in_err-text.ensures.gives c.from_residual.ensures.1

pub returns-in_err-taken-clause-gives : goal.returns-in_err-taken-clause-gives
returns-in_err-taken-clause-gives g c =
    over (number_files g.F.Field.coding.size g.F.Field.coding.number c.args.count) items_with c.args.name.now (seen g.S.Shelf c.args.shelf.now) (seen g.S.Shelf c.read_file.new.shelf) c.args.taken _ c.in_ok-text.text.items c.len.result c.in_err-taken.field-0.0
    (c.len.ensures ∙ c.in_ok-text.text.ok.0) c.in_ok-text.ensures.gives c.in_err-taken.ensures c.from_residual-in_err-taken.ensures.1

pub returns-clause-gives : goal.returns-clause-gives
returns-clause-gives g c =
    let text = c.in_ok-text.text in
    let all = c.in_ok-taken.taken in
    counted (number_files g.F.Field.coding.size g.F.Field.coding.number c.args.count) items_with c.args.name.now (seen g.S.Shelf c.args.shelf.now) (seen g.S.Shelf c.read_file.new.shelf) c.args.taken (c.in_ok-elements.elements, all) text.items c.deref.result.now c.len.result all
    c.deref.ensures.value (c.len.ensures ∙ text.ok.0) c.in_ok-text.ensures.gives c.in_ok-taken.ensures (subst (Decodes (number_files g.F.Field.coding.size g.F.Field.coding.number c.args.count) items_of c.args.name.now c.deref.result.now) c.in_ok-elements.was c.elements_of-decoded.ensures.decodes) refl
