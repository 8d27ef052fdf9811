use Rattle.std.proofs.Common.{◌<◌, map, take, length, arith, ◌∙◌, ap}
use Rattle.std.proofs.lemmas.List.{take_all, take_more_set, map_push}
use Rattle.std.proofs.lemmas.Result.{err_from_is_err_and}
use Rattle.lzk_layout.specs.Proofs.{element_field}
use Rattle.lzk_layout.specs.Fields.{shape, element}
use Rattle.lzk_layout.proofs.FieldLaws.{goes_on_same, ends_same, is_done_same}
use Rattle.lzk_layout_decode.proofs.reading.elements_into.Goals as goal

pub returns-in_err-x : goal.returns-in_err-x
returns-in_err-x g c =
    let p = err_from_is_err_and c.from_residual.result c.from_residual.ensures.1 in
    rw (p.1, p.2) (ends_same (shape g.F.Field.coding.bytes g.F.Field.coding.size) element (length c.args.out.now) c.loop-i.i _ _ c.loop-i.rest.now c.in_err-x.field-0.0 c.loop-i-test.true c.loop-i.invariant c.in_err-x.ensures)

pub loop-i-preserved : goal.loop-i-preserved
loop-i-preserved g c =
    let field = element_field g.F.Field.coding.bytes g.F.Field.coding.number in
    let inside : c.loop-i.i < length c.loop-i.out = omega arith in
    let more = ap (map field) (take_more_set c.loop-i.out c.loop-i.i c.in_ok-x.x inside) ∙ map_push field (take c.loop-i.i c.loop-i.out) c.in_ok-x.x in
    rw more
    (goes_on_same (shape g.F.Field.coding.bytes g.F.Field.coding.size) element (length c.args.out.now) c.loop-i.i _ _ c.loop-i.rest.now (field c.in_ok-x.x) c.in_ok-x.after.now c.loop-i-test.true c.loop-i.invariant c.in_ok-x.ensures)

pub returns : goal.returns
returns g c =
    let all = take_all c.loop-i.i c.loop-i.out (omega arith) in
    rw all at (is_done_same (shape g.F.Field.coding.bytes g.F.Field.coding.size) element (length c.args.out.now) c.loop-i.i _ _ c.loop-i.rest.now c.loop-i-test.false c.loop-i.invariant)
