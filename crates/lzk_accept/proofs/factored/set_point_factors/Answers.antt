use Rattle.std.proofs.Common.{◌≡◌, ◌+◌, ◌-◌, ◌*◌, ◌%◌, ◌<◌, ◌^◌, ◌++◌, cond, nat_lt, length, drop, sym, ap, ◌∙◌, subst, arith}
use Rattle.std.proofs.lemmas.List.{take-append-drop}
use Rattle.std.proofs.lemmas.Nat.{pow-add}
use Rattle.std.proofs.Math.Nat.{div-le_self}
use Rattle.std.proofs.Math.Pow.{pow_mono}
use Rattle.lzk_field.specs.Sums.{entry}
use Rattle.lzk_mle.specs.Multilinear.{eq}
use Rattle.lzk_accept.proofs.FactorLaws.{row_end, products_at}
use Rattle.lzk_accept.proofs.ShapeLaws.{power_small}
use Rattle.lzk_accept.proofs.factored.set_point_factors.Goals as goal

pub split_at-requires : goal.split_at-requires
split_at-requires g c = c.args.taken.now.within

pub power_of-width-requires : goal.power_of-width-requires
power_of-width-requires g c = omega (arith, c.args.taken.now.within, c.args.taken.now.few)

pub eq_table-requires-clause-few : goal.eq_table-requires-clause-few
eq_table-requires-clause-few g c κs within = omega (arith, c.split_at.ensures.front_len, c.args.taken.now.within, c.args.taken.now.few)

pub eq_table-requires-clause-size : goal.eq_table-requires-clause-size
eq_table-requires-clause-size g c κs within = c.split_at_mut-low_table.ensures.front_len ∙ c.power_of-width.ensures ∙ ap (λ n. 2 ^ n) (sym c.split_at.ensures.front_len)

pub power_of-requires : goal.power_of-requires
power_of-requires g c = omega (arith, c.split_at.ensures.back_len, c.args.taken.now.few)

pub eq_table-requires-2-clause-few : goal.eq_table-requires-2-clause-few
eq_table-requires-2-clause-few g c κs within = omega (arith, c.split_at.ensures.back_len, c.args.taken.now.few)

pub eq_table-requires-2-clause-size : goal.eq_table-requires-2-clause-size
eq_table-requires-2-clause-size g c κs within = c.split_at_mut-high_table.ensures.front_len ∙ c.power_of.ensures

pub split_at_mut-low_table-requires : goal.split_at_mut-low_table-requires
split_at_mut-low_table-requires g c = omega (arith, c.power_of-width.ensures, pow_mono {i = c.args.taken.now.bits} {j = length c.args.taken.now.r.now} c.args.taken.now.within, c.requires.room.first)

pub split_at_mut-high_table-requires : goal.split_at_mut-high_table-requires
split_at_mut-high_table-requires g c =
    let highs = c.split_at.result.1.now in
    omega (arith, c.power_of.ensures, pow_mono {i = length highs} {j = length c.args.taken.now.r.now} (omega (arith, c.split_at.ensures.back_len)), c.requires.room.second)

pub set_row_factors-requires-clause-few : goal.set_row_factors-requires-clause-few
set_row_factors-requires-clause-few g c κs within =
    let w = c.power_of-width.result in
    omega (arith, div-le_self c.args.taken.now.first w, c.args.taken.now.numbers, power_small (length c.args.taken.now.r.now) c.args.taken.now.few)

pub set_row_factors-requires-clause-room : goal.set_row_factors-requires-clause-room
set_row_factors-requires-clause-room g c κs within = c.requires.factors.of_rows

pub set_place_factors-requires-clause-room : goal.set_place_factors-requires-clause-room
set_place_factors-requires-clause-room g c κs within =
    omega (arith, c.eq_table.ensures.length, c.split_at_mut-low_table.ensures.front_len, c.power_of-width.ensures, c.requires.factors.of_places)

pub returns : goal.returns
returns g c i s hi hs =
    let o = g.F.Field.ops in
    let r = c.args.taken.now.r.now in
    let by = c.args.by in
    let first = c.args.taken.now.first in
    let rows = c.args.taken.now.rows in
    let parts = c.split_at.ensures in
    let lows = c.split_at.result.0.now in
    let highs = c.split_at.result.1.now in
    let w = c.power_of-width.result in
    let power : w ≡ 2 ^ c.args.taken.now.bits = c.power_of-width.ensures in
    let low = c.eq_table.new.out in
    let high = c.eq_table-2.new.out in
    let R = c.set_row_factors.new.factors in
    let P = c.set_place_factors.new.factors in
    let ew : w ≡ 2 ^ length lows = power ∙ ap (λ n. 2 ^ n) (sym parts.front_len) in
    let size : length low ≡ w = c.eq_table.ensures.length ∙ c.split_at_mut-low_table.ensures.front_len in
    let hsize : length high ≡ 2 ^ length highs = c.eq_table-2.ensures.length ∙ c.split_at_mut-high_table.ensures.front_len ∙ c.power_of.ensures in
    let long : length r ≡ length highs + c.args.taken.now.bits = omega (arith, parts.back_len) in
    let total : 2 ^ length r ≡ 2 ^ length highs * w = ap (λ n. 2 ^ n) long ∙ pow-add 2 (length highs) c.args.taken.now.bits ∙ ap (λ n. 2 ^ length highs * n) (sym power) in
    let small : s < w = omega (arith, hs, power) in
    let count : rows * w ≡ rows * 2 ^ c.args.taken.now.bits = ap (λ n. rows * n) power in
    let inside : first + (i * w + s) < 2 ^ length highs * w = omega (arith, row_end w rows i s hi small, count, c.args.taken.now.numbers, total) in
    let next = subst (λ n. entry o P (n + s) ≡ cond (nat_lt (first % w + s) n) o.zero (entry o low (first % w + s - n))) size (c.set_place_factors.ensures.next s (omega (arith, size, small))) in
    let here = products_at o g.F.Field.laws.ring lows highs low high by w first i s (entry o R i) (entry o R (rows + i)) (entry o P s) (entry o P (w + s)) ew size
    (λ k h. c.eq_table.ensures.entries k (omega (arith, size, h))) (λ k h. c.eq_table-2.ensures.entries k (omega (arith, hsize, h))) inside small
    (c.set_row_factors.ensures.here i hi) (c.set_row_factors.ensures.next i hi) (c.set_place_factors.ensures.here s (omega (arith, size, small))) next in
    let whole : r ≡ lows ++ highs = sym (take-append-drop c.args.taken.now.bits r) ∙ ap (λ xs. xs ++ drop c.args.taken.now.bits r) (sym parts.front) ∙ ap (λ xs. lows ++ xs) (sym parts.back) in
    let there = subst (λ xs. o.plus (o.times (entry o R i) (entry o P s)) (o.times (entry o R (rows + i)) (entry o P (w + s))) ≡ o.times by (eq o (first + (i * w + s)) xs)) (sym whole) here in
    subst (λ n. o.plus (o.times (entry o R i) (entry o P s)) (o.times (entry o R (rows + i)) (entry o P (n + s))) ≡ o.times by (eq o (first + (i * n + s)) r)) power there
