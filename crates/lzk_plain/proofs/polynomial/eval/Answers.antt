use Rattle.std.proofs.Common.{◌≡◌, ◌+◌, ◌-◌, drop, sym, ap, ◌∙◌, arith, slice_index_or}
use Rattle.std.proofs.lemmas.List.{at_drop_more, at_drop_all}
use Rattle.lzk_poly.specs.Polynomial.{eval}
use Rattle.lzk_poly.proofs.Polynomials.{eval-power_sum}
use Rattle.lzk_plain.proofs.polynomial.eval.Goals as goal

pub loop-i-init : goal.loop-i-init
loop-i-init g c = c.zero-value.ensures ∙ sym (at_drop_all (λ xs. eval g.F.Field.ops xs c.args.t) c.args.coeffs.now _ (omega arith))

pub loop-i-preserved : goal.loop-i-preserved
loop-i-preserved g c =
    let o = g.F.Field.ops in
    let xs = c.args.coeffs.now in
    let i = c.loop-i.i - 1 in
    let again : i + 1 ≡ c.loop-i.i = omega arith in
    let step = c.add-value.ensures ∙ ap (o.plus c.index-coeffs-i.result) (c.mul.ensures ∙ ap (o.times c.args.t) c.loop-i.invariant) in
    step ∙ ap (λ x. o.plus x (o.times c.args.t (eval o (drop c.loop-i.i xs) c.args.t))) c.index-coeffs-i.is
    ∙ ap (λ k. o.plus (slice_index_or xs i c.index-coeffs-i.result) (o.times c.args.t (eval o (drop k xs) c.args.t))) (sym again)
    ∙ sym (at_drop_more (λ ys. eval o ys c.args.t) xs i c.index-coeffs-i.result (omega arith))

pub returns-clause-steps : goal.returns-clause-steps
returns-clause-steps g c = let e : c.loop-i.i ≡ 0 = omega arith in rw e at c.loop-i.invariant

pub returns-clause-value : goal.returns-clause-value
returns-clause-value g c = let e : c.loop-i.i ≡ 0 = omega arith in (rw e at c.loop-i.invariant) ∙ eval-power_sum g.F.Field.ops g.F.Field.laws.ring c.args.coeffs.now c.args.t

pub returns-clause-same : goal.returns-clause-same
returns-clause-same g c = λ cs x. sym (eval-power_sum g.F.Field.ops g.F.Field.laws.ring cs x)
