use Rattle.std.proofs.Common.{rules, ◌≡◌, ℕ, ◌+◌, ◌*◌, ◌-◌, ◌/◌, ◌%◌, ◌^◌, ◌<◌, ap, ◌∙◌, bit_xor, arith}
use Rattle.lzk_gf128.specs.Bodies.{numbered, in_wide}
use Rattle.lzk_gf128.proofs.Basis.{high_small, high_bound-digit, high_bound-byte}
use Rattle.lzk_gf128.specs.Product.{product}
use Rattle.lzk_gf128.proofs.Multiples.{both-starts, both-byte, both-halves}
use Rattle.lzk_gf128.proofs.arith.Wide.product.Goals as goal

pub loop-i-init : goal.loop-i-init
loop-i-init c = record { above_room = omega arith; below_room = omega arith; above = both-starts c.args.a (c.args.b % 2 ^ 64) (c.args.b / 2 ^ 64) 32; below = both-starts c.args.a (c.args.b % 2 ^ 64) (c.args.b / 2 ^ 64) 0 }

pub multiples_on-above-requires-clause-small : goal.multiples_on-above-requires-clause-small
multiples_on-above-requires-clause-small c = high_small c.loop-i.above.high (8 * c.loop-i.i) 124 c.loop-i.invariant.above_room (omega (arith, c.loop-i-test.true))

pub multiples_on-below-requires-clause-small : goal.multiples_on-below-requires-clause-small
multiples_on-below-requires-clause-small c = high_small c.loop-i.below.high (8 * c.loop-i.i) 124 c.loop-i.invariant.below_room (omega (arith, c.loop-i-test.true))

pub multiples_on-above-requires-in-loop-i-clause-small : goal.multiples_on-above-requires-in-loop-i-clause-small
multiples_on-above-requires-in-loop-i-clause-small c =
    high_small _ (8 * c.loop-i.i + 4) 124 (high_bound-digit (8 * c.loop-i.i) _ (c.multiples_on-above.ensures.room (8 * c.loop-i.i) (omega (arith, c.loop-i-test.true)) c.loop-i.invariant.above_room)) (omega (arith, c.loop-i-test.true))

pub multiples_on-below-requires-in-loop-i-clause-small : goal.multiples_on-below-requires-in-loop-i-clause-small
multiples_on-below-requires-in-loop-i-clause-small c =
    high_small _ (8 * c.loop-i.i + 4) 124 (high_bound-digit (8 * c.loop-i.i) _ (c.multiples_on-below.ensures.room (8 * c.loop-i.i) (omega (arith, c.loop-i-test.true)) c.loop-i.invariant.below_room)) (omega (arith, c.loop-i-test.true))

pub loop-i-preserved : goal.loop-i-preserved
loop-i-preserved c =
    let i = c.loop-i.i in
    let a = c.args.a in
    let x = c.args.b % 2 ^ 64 in
    let y = c.args.b / 2 ^ 64 in
    let low = c.of-table.result.low in
    let high = c.of-table.result.high in
    let x_odd = c.digits-x_odd.result in
    let y_odd = c.digits-y_odd.result in
    let x_even = c.digits-x_even.result in
    let y_even = c.digits-y_even.result in
    let below_4 : i < 4 = c.loop-i-test.true in
    let multiples : (j : ℕ) → j < 16 → numbered low high j ≡ product 4 a j = λ j h. c.of-table.ensures j h ∙ c.multiples.ensures j h in
    record {
      above_room = high_bound-byte i _ (c.multiples_on-above-in-loop-i.ensures.room (8 * i + 4) (omega (arith, below_4)) (high_bound-digit (8 * i) _ (c.multiples_on-above.ensures.room (8 * i) (omega (arith, below_4)) c.loop-i.invariant.above_room)));
      below_room = high_bound-byte i _ (c.multiples_on-below-in-loop-i.ensures.room (8 * i + 4) (omega (arith, below_4)) (high_bound-digit (8 * i) _ (c.multiples_on-below.ensures.room (8 * i) (omega (arith, below_4)) c.loop-i.invariant.below_room)));
      above = both-byte i (3 - i + 4) a x y 32 low high x_odd y_odd x_even y_even _ _ _ below_4 (omega (arith, below_4)) (omega (arith, below_4)) multiples c.digits-x_odd.ensures c.digits-y_odd.ensures c.digits-x_even.ensures c.digits-y_even.ensures c.loop-i.invariant.above c.multiples_on-above.ensures.value c.multiples_on-above-in-loop-i.ensures.value;
      below = both-byte i (3 - i) a x y 0 low high x_odd y_odd x_even y_even _ _ _ below_4 (omega (arith, below_4)) (omega (arith, below_4)) multiples c.digits-x_odd.ensures c.digits-y_odd.ensures c.digits-x_even.ensures c.digits-y_even.ensures c.loop-i.invariant.below c.multiples_on-below.ensures.value c.multiples_on-below-in-loop-i.ensures.value;
    }

pub half_on-requires : goal.half_on-requires
half_on-requires c = high_small c.loop-i.above.high (8 * c.loop-i.i) 96 c.loop-i.invariant.above_room (omega (arith, c.loop-i.auto.i-end))

pub returns : goal.returns
returns c =
    let ended : 2 * c.loop-i.i ≡ 8 = omega (arith, c.loop-i-test.false, c.loop-i.auto.i-end) in
    c.plus.ensures
    ∙ ap (bit_xor (in_wide c.loop-i.below)) c.half_on.ensures
    ∙ both-halves c.args.a c.args.b (2 * c.loop-i.i) _ _ (search rules) ended c.loop-i.invariant.below c.loop-i.invariant.above
