use Rattle.std.proofs.Common.{◌≡◌, length, refl, ap, ◌∙◌, arith}
use Rattle.std.proofs.lemmas.List.{get_or_default}
use Rattle.lzk_field.specs.Sums.{entry, minus}
use Rattle.lzk_poly_ntt.proofs.Levels.{entry-part, entry-front, entry-back, level_up}
use Rattle.lzk_poly_ntt.proofs.Lowest.{backward_four}
use Rattle.lzk_poly_ntt.proofs.Pieces.{length_part}
use Rattle.lzk_poly_ntt.proofs.halves.backward_eight.Goals as goal

pub backward_butterflies-requires-clause-lengths : goal.backward_butterflies-requires-clause-lengths
backward_butterflies-requires-clause-lengths g c κs within = (
  omega (arith, c.requires.levels.0, c.split_at_mut-low.ensures.front_len, c.split_at_mut-low.ensures.back_len),
  omega (arith, length_part c.args.twiddles.now 4 4 (omega (arith, c.requires.levels.0, c.requires.levels.1)), c.split_at_mut-low.ensures.front_len),
)

pub returns : goal.returns
returns g c =
    let o = g.F.Field.ops in
    let r = g.F.Field.laws.ring in
    let values = c.args.values.now in
    let ts = c.args.twiddles.now in
    let old_low = c.split_at_mut-low.result.0.now in
    let old_high = c.split_at_mut-low.result.1.now in
    let low = c.backward_four.new.values in
    let high = c.backward_four-2.new.values in
    let turn = c.index-twiddles-3.result in
    let is : turn ≡ entry o ts 3 = c.index-twiddles-3.is ∙ get_or_default ts 3 turn o.zero (omega (arith, c.requires.levels.0, c.requires.levels.1)) in
    let front : length old_low ≡ 4 = c.split_at_mut-low.ensures.front_len in
    let back : length old_high ≡ 4 = omega (arith, c.requires.levels.0, c.split_at_mut-low.ensures.back_len) in
    λ w v x root inverse twiddles known.
    level_up o r 3 4 w v x values ts low high old_low old_high c.backward_butterflies.new.low c.backward_butterflies.new.high refl refl (omega (arith, front)) (omega (arith, back)) root inverse twiddles
    (λ j l. known j (omega (arith, c.requires.levels.0)))
    (λ i l. entry-front o values old_low 4 i c.split_at_mut-low.ensures.front l)
    (λ i l. entry-back o values old_high 4 i c.split_at_mut-low.ensures.back)
    (λ u z y low_root low_inverse low_twiddles low_known i l. let e = c.backward_four.ensures in backward_four o r 2 u z turn y old_low ts low refl low_root low_inverse low_twiddles is low_known e.first e.second e.third e.fourth i l)
    (λ u z y low_root low_inverse low_twiddles low_known i l. let e = c.backward_four-2.ensures in backward_four o r 2 u z turn y old_high ts high refl low_root low_inverse low_twiddles is low_known e.first e.second e.third e.fourth i l)
    (λ i l. c.backward_butterflies.ensures.sums i (omega (arith, front)) ∙ ap (λ u. o.plus (entry o low i) (o.times (entry o high i) u)) (entry-part o ts 4 4 i l))
    (λ i l. c.backward_butterflies.ensures.differences i (omega (arith, back)) ∙ ap (λ u. minus o (entry o low i) (o.times (entry o high i) u)) (entry-part o ts 4 4 i l))
