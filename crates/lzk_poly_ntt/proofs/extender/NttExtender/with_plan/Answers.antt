use Rattle.std.proofs.Common.{◌≡◌, ◌<◌, refl, sym, ap, ◌∙◌, arith, length, take}
use Rattle.std.proofs.lemmas.List.{get_or-take, length-take-le}
use Rattle.std.proofs.lemmas.Result.{IfOk-from_err}
use Rattle.lzk_poly.specs.Extension.{Reach}
use Rattle.lzk_poly_ntt.proofs.extender.NttExtender.with_plan.Goals as goal

pub overflow_cast-plan : goal.overflow_cast-plan
overflow_cast-plan g c = omega (arith, c.requires.plan.order, c.requires.plan.limit)

pub overflow_cast-plan-2 : goal.overflow_cast-plan-2
overflow_cast-plan-2 g c = omega (arith, c.requires.plan.limit)

pub new-requires-clause-some : goal.new-requires-clause-some
new-requires-clause-some g c κs within = c.requires.plan.given

pub new-requires-clause-order : goal.new-requires-clause-order
new-requires-clause-order g c κs within = c.requires.plan.order

pub new-requires-clause-limit : goal.new-requires-clause-limit
new-requires-clause-limit g c κs within = c.requires.plan.limit

pub slice_bounds-cut-end : goal.slice_bounds-cut-end
slice_bounds-cut-end g c =
    let reached : c.in_ok-weights.weights.upto ≡ c.args.plan.upto = ap (λ (w : Reach). w.upto) c.in_ok-weights.ensures in
    sym (length-take-le c.args.plan.upto c.inverses.result.now (omega (arith, reached, c.inverses.ensures.enough)))

pub invariant_of-cut : goal.invariant_of-cut
invariant_of-cut g c =
    let o = g.F.Field.ops in
    let point = g.F.Field.coding.element in
    let upto = c.args.plan.upto in
    let table = c.inverses.result.now in
    let reached : c.in_ok-weights.weights.upto ≡ upto = ap (λ (w : Reach). w.upto) c.in_ok-weights.ensures in
    let long : length (take upto table) ≡ upto = length-take-le upto table (omega (arith, reached, c.inverses.ensures.enough)) in
    record {
      table = λ k p h.
          let below : k < upto = omega (arith, h, long) in
          ap (o.times (point k)) (get_or-take upto table k o.zero below) ∙ c.inverses.ensures.table k p (omega (arith, below, reached, c.inverses.ensures.enough));
      points = long;
      planned = c.requires.plan;
      two = c.requires.two;
    }

pub returns-in_err-spectra : goal.returns-in_err-spectra
returns-in_err-spectra g c = IfOk-from_err _ _ c.from_residual-in_err-spectra.ensures.0

pub same-transform : goal.same-transform
same-transform g c = refl

pub same-weights : goal.same-weights
same-weights g c = refl

pub invariant_of-kernels : goal.invariant_of-kernels
invariant_of-kernels g c = record {
  ready = record { planned = c.requires.plan; even = c.requires.even; inverse_size = c.in_ok-spectra.ensures.inverse_size; kernels = c.in_ok-spectra.ensures.kernels };
}

pub invariant_of-result : goal.invariant_of-result
invariant_of-result g c = (sym (ap (λ (w : Reach). w.count) c.in_ok-weights.ensures), sym (ap (λ (w : Reach). w.upto) c.in_ok-weights.ensures))

pub returns : goal.returns
returns g c = c.in_ok-weights.ensures
