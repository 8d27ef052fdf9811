use Rattle.std.proofs.Common.{◌≡◌, ◌+◌, ◌∷◌, ap, sym, ◌∙◌, arith, length}
use Rattle.std.proofs.lemmas.List.{take_at, length-take-le}
use Rattle.lzk_field.proofs.ByteForms.{length-bytes_of}
use Rattle.lzk_transcript.specs.Tape.{appended}
use Rattle.lzk_transcript.proofs.Entries.{element_entry_is}
use Rattle.lzk_transcript.proofs.tape.Tape.elem.Goals as goal

pub returns : goal.returns
returns g c =
    c.append.ensures
    ∙ ap (λ bs. appended bs c.args.self.now) (element_entry_is g.F.Field.coding.bytes c.BYTES-2.result (g.F.Field.coding.number c.args.e) c.to_le.new.out _ (c.BYTES-2.ensures ∙ g.F.Field.coded_bytes) c.to_le.ensures.bytes)

pub overflow_add-BYTES : goal.overflow_add-BYTES
overflow_add-BYTES g c = omega (arith, c.BYTES.ensures ∙ g.F.Field.coded_bytes, g.F.Field.laws.numbers.few_bytes)

pub slice_bounds-to_le-count : goal.slice_bounds-to_le-count
slice_bounds-to_le-count g c = omega arith

pub slice_bounds-entry-end : goal.slice_bounds-entry-end
slice_bounds-entry-end g c = omega (arith, c.BYTES.ensures ∙ g.F.Field.coded_bytes, g.F.Field.laws.numbers.few_bytes)

pub overflow_add-entry : goal.overflow_add-entry
overflow_add-entry g c = omega (arith, c.BYTES-2.ensures ∙ g.F.Field.coded_bytes, g.F.Field.laws.numbers.few_bytes)

pub to_le-requires : goal.to_le-requires
to_le-requires g c =
    let w = c.BYTES.ensures ∙ g.F.Field.coded_bytes in
    length-take-le _ _ (omega (arith, w, g.F.Field.laws.numbers.few_bytes)) ∙ omega (arith, w)

pub slice_bounds-append-end : goal.slice_bounds-append-end
slice_bounds-append-end g c =
    let f = g.F.Field in
    let ys = c.to_le.new.out in
    let many : length (1 ∷ ys) ≡ 1 + c.BYTES-2.result = omega (arith, ap length c.to_le.ensures.bytes, length-bytes_of f.coding.bytes (f.coding.number c.args.e), c.BYTES-2.ensures ∙ f.coded_bytes) in
    sym (ap length (take_at (1 ∷ ys) _ (1 + c.BYTES-2.result) many) ∙ many)
