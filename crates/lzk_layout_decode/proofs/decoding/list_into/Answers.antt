use Rattle.std.proofs.Common.{◌∙◌, ap, length}
use Rattle.lzk_layout.proofs.FieldLaws.{refill_whole}
use Rattle.lzk_layout_decode.proofs.decoding.list_into.Goals as goal

pub returns-clause-read : goal.returns-clause-read
returns-clause-read g c =
    let value = c.as_mut_slice.ensures.value in
    let whole = refill_whole (length c.args.list.now) c.args.list.now c.elements_into.new.out (c.elements_into.auto.out ∙ ap length value) in
    rw (whole, ← value) c.elements_into.ensures

pub returns-clause-length : goal.returns-clause-length
returns-clause-length g c =
    let long = c.elements_into.auto.out ∙ ap length c.as_mut_slice.ensures.value in
    ap length (refill_whole (length c.args.list.now) c.args.list.now c.elements_into.new.out long) ∙ long
