use Rattle.std.proofs.Common.{◌≡◌, ℕ, ◌+◌, ◌<◌, length, take, drop, refl, ap, ◌∙◌, arith}
use Rattle.std.proofs.lemmas.List.{get_or_default}
use Rattle.lzk_field.specs.Sums.{entry, minus}
use Rattle.lzk_poly_ntt.proofs.Levels.{entry-part, entry-front, entry-back, level_down}
use Rattle.lzk_poly_ntt.proofs.Lowest.{forward_four}
use Rattle.lzk_poly_ntt.proofs.Pieces.{length_part}
use Rattle.lzk_poly_ntt.proofs.halves.forward_eight.Goals as goal

pub forward_butterflies-requires-clause-lengths : goal.forward_butterflies-requires-clause-lengths
forward_butterflies-requires-clause-lengths g c κs within = (
  omega (arith, c.requires.levels.0, c.split_at_mut-low.ensures.front_len, c.split_at_mut-low.ensures.back_len),
  omega (arith, length_part c.args.twiddles.now 4 4 (omega (arith, c.requires.levels.0, c.requires.levels.1)), c.split_at_mut-low.ensures.front_len),
)

pub returns : goal.returns
returns g c =
    let o = g.F.Field.ops in
    let r = g.F.Field.laws.ring in
    let values = c.args.values.now in
    let ts = c.args.twiddles.now in
    let low = c.forward_butterflies.new.low in
    let high = c.forward_butterflies.new.high in
    let turn = c.index-twiddles-3.result in
    let is : turn ≡ entry o ts 3 = c.index-twiddles-3.is ∙ get_or_default ts 3 turn o.zero (omega (arith, c.requires.levels.0, c.requires.levels.1)) in
    let front : length c.split_at_mut-low.result.0.now ≡ 4 = c.split_at_mut-low.ensures.front_len in
    let back : length c.split_at_mut-low.result.1.now ≡ 4 = omega (arith, c.requires.levels.0, c.split_at_mut-low.ensures.back_len) in
    let low_at : (i : ℕ) → i < 4 → entry o c.split_at_mut-low.result.0.now i ≡ entry o values i = λ i l. entry-front o values c.split_at_mut-low.result.0.now 4 i c.split_at_mut-low.ensures.front l in
    let high_at : (i : ℕ) → entry o c.split_at_mut-low.result.1.now i ≡ entry o values (4 + i) = λ i. entry-back o values c.split_at_mut-low.result.1.now 4 i c.split_at_mut-low.ensures.back in
    λ w root twiddles.
    level_down o r 3 8 4 w values ts low high c.forward_four.new.values c.forward_four-2.new.values refl refl (omega (arith, front)) (omega (arith, back)) root twiddles
    (λ i l. c.forward_butterflies.ensures.sums i (omega (arith, front)) ∙ ap (λ v. o.plus v (entry o c.split_at_mut-low.result.1.now i)) (low_at i l) ∙ ap (o.plus (entry o values i)) (high_at i))
    (λ i l.
    let power = entry o (take 4 (drop 4 ts)) i in
    c.forward_butterflies.ensures.twiddled i (omega (arith, back))
    ∙ ap (λ v. o.times (minus o v (entry o c.split_at_mut-low.result.1.now i)) power) (low_at i l)
    ∙ ap (λ v. o.times (minus o (entry o values i) v) power) (high_at i)
    ∙ ap (o.times (minus o (entry o values i) (entry o values (4 + i)))) (entry-part o ts 4 4 i l))
    (λ v low_root low_twiddles j l. let e = c.forward_four.ensures in forward_four o r 2 v turn low ts c.forward_four.new.values refl low_root low_twiddles is e.first e.second e.third e.fourth j l)
    (λ v low_root low_twiddles j l. let e = c.forward_four-2.ensures in forward_four o r 2 v turn high ts c.forward_four-2.new.values refl low_root low_twiddles is e.first e.second e.third e.fourth j l)
