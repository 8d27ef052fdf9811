use Rattle.std.proofs.Common.{◌≡◌, ◌*◌, ◌-◌, ◌^◌, ◌%◌, length, ap, ◌∙◌, sym, arith}
use Rattle.std.proofs.Math.Nat.{mod-eq_of_lt}
use Rattle.std.proofs.lemmas.Nat.{pow_below}
use Rattle.lzk_field.specs.Sums.{sum_below}
use Rattle.lzk_sumcheck.specs.Layers.{layer_of_terms}
use Rattle.lzk_sumcheck.specs.Points.{point}
use Rattle.lzk_sumcheck.specs.Rounds.{at}
use Rattle.lzk_sumcheck.proofs.PointLaws.{round-sum}
use Rattle.lzk_plain.proofs.plain.plain_sum.Goals as goal

pub overflow_sub-z-end : goal.overflow_sub-z-end
overflow_sub-z-end g c = omega (arith, c.requires.free)

pub overflow_sub-z-end-2 : goal.overflow_sub-z-end-2
overflow_sub-z-end-2 g c = omega (arith, c.requires.free)

pub overflow_shl-z-end : goal.overflow_shl-z-end
overflow_shl-z-end g c = omega (arith, c.requires.few)

pub loop-z-init : goal.loop-z-init
loop-z-init g c = c.zero-total.ensures

pub invariant_of-on : goal.invariant_of-on
invariant_of-on g c = record { few = c.requires.few; free = c.requires.free }

pub coefficient_part-coefficient-requires-after_bounds : goal.coefficient_part-coefficient-requires-after_bounds
coefficient_part-coefficient-requires-after_bounds g c κs within = c.requires.terms

pub tilde_part-first-requires-after_bounds : goal.tilde_part-first-requires-after_bounds
tilde_part-first-requires-after_bounds g c κs within = c.requires.size

pub tilde_part-second-requires-after_bounds : goal.tilde_part-second-requires-after_bounds
tilde_part-second-requires-after_bounds g c κs within = c.requires.size

pub returns : goal.returns
returns g c =
    let m = g.F.Field in
    let o = m.ops in
    let s = layer_of_terms o c.args.terms.now c.args.beta c.args.weights.now c.args.values.now c.args.bits in
    let k = 2 * c.args.bits - length c.args.bound.now - 1 in
    let whole : (1 * 2 ^ k) % 2 ^ 64 ≡ 1 * 2 ^ k = mod-eq_of_lt (omega (arith, pow_below k 64 (omega arith))) in
    let ended : c.loop-z.z ≡ 2 ^ k = omega (arith, whole) in
    c.loop-z.invariant ∙ ap (λ n. sum_below o n (λ y. at o s (point o c.args.bits c.args.bound.now c.args.t y))) ended ∙ sym (round-sum o m.laws.ring s c.args.bound.now c.args.t c.requires.free)
