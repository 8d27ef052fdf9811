use Rattle.std.proofs.Common.{◌∙◌, length, ap, sym, arith, subst}
use Rattle.lzk_sumcheck_rounds.specs.Orders.{IsOrderOf, places}
use Rattle.lzk_sumcheck.proofs.LayerShapes.{terms_is, terms_few}
use Rattle.std.proofs.lemmas.Result.{IfOk-from_err}
use Rattle.lzk_sumcheck_rounds.proofs.order.order_at.Goals as goal

pub sorted_places-requires-clause-few : goal.sorted_places-requires-clause-few
sorted_places-requires-clause-few g c κs within =
    omega (arith, ap length c.as_slice.ensures, terms_few c.args.circuit.now c.args.l c.layer.result.now c.layer.ensures g.F.Field.ops c.valid_laws.ensures)

pub returns : goal.returns
returns g c =
    subst (λ ts. IsOrderOf ts c.in_ok-list.list.items) (c.as_slice.ensures ∙ terms_is c.args.circuit.now c.args.l c.layer.result.now c.layer.ensures)
    (subst (IsOrderOf c.as_slice.result.now) (sym (c.in_ok-list.ensures ∙ ap places c.deref.ensures.value)) c.in_ok-sorted.ensures)

pub layer-requires-after_bounds : goal.layer-requires-after_bounds
layer-requires-after_bounds g c κs within = c.requires

pub returns-in_err-sorted : goal.returns-in_err-sorted
returns-in_err-sorted g c = IfOk-from_err _ _ c.from_residual.ensures.0
