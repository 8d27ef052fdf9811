use Rattle.std.proofs.Common.{◌≡◌, ℕ, ◌+◌, ◌-◌, ◌/◌, ◌^◌, length, ap, sym, subst, ◌∙◌, arith}
use Rattle.lzk_poly_ntt.specs.Transform.{doubled, spectrum, AreTwiddles, IsRoot}
use Rattle.std.proofs.lemmas.List.{get_or_default}
use Rattle.lzk_field.specs.Sums.{entry, minus}
use Rattle.lzk_poly_ntt.proofs.Levels.{backward_single, halves, entry-part, entry-front, entry-back, level_up}
use Rattle.lzk_poly_ntt.proofs.Lowest.{backward_two, backward_four}
use Rattle.lzk_poly_ntt.proofs.Pieces.{length_part}
use Rattle.lzk_poly_ntt.proofs.halves.+backward.Goals as goal

pub backward-requires-clause-levels : goal.backward-requires-clause-levels
backward-requires-clause-levels g t c κs within =
    let half = halves c.args.bits (length c.args.values.now) c.requires.levels.0 (omega arith) in (
      omega (arith, half.1, c.split_at_mut-low.ensures.front_len),
      omega (arith, c.requires.levels.1, c.split_at_mut-low.ensures.front_len),
    )

pub backward-requires-2-clause-levels : goal.backward-requires-2-clause-levels
backward-requires-2-clause-levels g t c κs within =
    let half = halves c.args.bits (length c.args.values.now) c.requires.levels.0 (omega arith) in (
      omega (arith, half.1, half.2, c.split_at_mut-low.ensures.back_len),
      omega (arith, c.requires.levels.1, c.split_at_mut-low.ensures.back_len),
    )

pub backward_butterflies-requires-clause-lengths : goal.backward_butterflies-requires-clause-lengths
backward_butterflies-requires-clause-lengths g t c κs within =
    let h = length c.args.values.now / 2 in
    let half = halves c.args.bits (length c.args.values.now) c.requires.levels.0 (omega arith) in (
      omega (arith, half.2, c.split_at_mut-low.ensures.front_len, c.split_at_mut-low.ensures.back_len),
      omega (arith, length_part c.args.twiddles.now h (h + h - h) (omega (arith, half.2, c.requires.levels.1)), c.split_at_mut-low.ensures.front_len),
    )

pub returns : goal.returns
returns g t c =
    let o = g.F.Field.ops in
    let values = c.args.values.now in
    let ts = c.args.twiddles.now in
    let bits = c.args.bits in
    let size = length values in
    let h = size / 2 in
    let parts = halves bits size c.requires.levels.0 (omega arith) in
    let front : length c.split_at_mut-low.result.0.now ≡ h = omega (arith, c.split_at_mut-low.ensures.front_len) in
    let back : length c.split_at_mut-low.result.1.now ≡ h = omega (arith, parts.2, c.split_at_mut-low.ensures.back_len) in
    λ w v x root inverse twiddles known.
    level_up o g.F.Field.laws.ring bits h w v x values ts c.backward.new.values c.backward-2.new.values c.split_at_mut-low.result.0.now c.split_at_mut-low.result.1.now c.backward_butterflies.new.low c.backward_butterflies.new.high parts.0 parts.1 (omega (arith, front)) (omega (arith, back)) root inverse twiddles
    (λ j l. known j (omega (arith, parts.2)))
    (λ i l. entry-front o values c.split_at_mut-low.result.0.now h i c.split_at_mut-low.ensures.front l)
    (λ i l. entry-back o values c.split_at_mut-low.result.1.now h i c.split_at_mut-low.ensures.back)
    (λ u z y low_root low_inverse low_twiddles low_known i l. c.backward.ensures u z y low_root low_inverse low_twiddles (λ j m. low_known j (omega (arith, front))) i (omega (arith, front)))
    (λ u z y low_root low_inverse low_twiddles low_known i l. c.backward-2.ensures u z y low_root low_inverse low_twiddles (λ j m. low_known j (omega (arith, back))) i (omega (arith, back)))
    (λ i l. c.backward_butterflies.ensures.sums i (omega (arith, front)) ∙ ap (λ u. o.plus (entry o c.backward.new.values i) (o.times (entry o c.backward-2.new.values i) u)) (entry-part o ts h (h + h - h) i (omega arith)))
    (λ i l. c.backward_butterflies.ensures.differences i (omega (arith, back)) ∙ ap (λ u. minus o (entry o c.backward.new.values i) (o.times (entry o c.backward-2.new.values i) u)) (entry-part o ts h (h + h - h) i (omega arith)))

pub returns-then-bits-eq2 : goal.returns-then-bits-eq2
returns-then-bits-eq2 g t c =
    let o = g.F.Field.ops in
    let ts = c.args.twiddles.now in
    let e = c.backward_four.ensures in
    let four : length c.args.values.now ≡ 4 = c.requires.levels.0 ∙ ap (λ n. 2 ^ n) c.if-bits-eq2.true in
    let turn : c.index-twiddles-3.result ≡ entry o ts 3 = c.index-twiddles-3.is ∙ get_or_default ts 3 c.index-twiddles-3.result o.zero (omega (arith, four, c.requires.levels.1)) in
    λ w v x root inverse twiddles known i h. backward_four o g.F.Field.laws.ring c.args.bits w v c.index-twiddles-3.result x c.args.values.now ts c.backward_four.new.values c.if-bits-eq2.true root inverse twiddles turn
    (λ j l. known j (omega (arith, c.requires.levels.0))) e.first e.second e.third e.fourth i (omega (arith, c.requires.levels.0))

pub returns-then-bits-eq1 : goal.returns-then-bits-eq1
returns-then-bits-eq1 g t c =
    λ w v x root inverse twiddles known i h. backward_two g.F.Field.ops g.F.Field.laws.ring c.args.bits w x c.args.values.now c.butterfly.new.values c.if-bits-eq1.true root (λ j l. known j (omega (arith, c.requires.levels.0))) c.butterfly.ensures.sum c.butterfly.ensures.difference i (omega (arith, c.requires.levels.0))

pub returns-then-bits-eq0 : goal.returns-then-bits-eq0
returns-then-bits-eq0 g t c =
    λ w v x root inverse twiddles known i h. backward_single g.F.Field.ops g.F.Field.laws.ring c.args.bits w x c.args.values.now (omega arith) (λ j l. known j (omega (arith, c.requires.levels.0))) i (omega (arith, c.requires.levels.0))

pub returns-then-bits-eq3 : goal.returns-then-bits-eq3
returns-then-bits-eq3 g t c =
    let o = g.F.Field.ops in
    let three = c.if-bits-eq3.true in
    let ts = c.args.twiddles.now in
    λ w v x root inverse twiddles known i h.
    c.backward_eight.ensures w v x (subst (λ (b : ℕ). IsRoot o b w) three root) inverse (subst (λ (b : ℕ). AreTwiddles o b v ts) three twiddles) (λ j l. known j l ∙ ap (λ b. spectrum o b w x j) three) i h
    ∙ ap (λ b. o.times (doubled o b) (x i)) (sym three)

pub backward_eight-requires-clause-levels : goal.backward_eight-requires-clause-levels
backward_eight-requires-clause-levels g t c κs within = (c.requires.levels.0 ∙ ap (λ b. 2 ^ b) c.if-bits-eq3.true, c.requires.levels.1)

pub backward_four-requires-after_bounds : goal.backward_four-requires-after_bounds
backward_four-requires-after_bounds g t c = λ κs le. c.requires.levels.0 ∙ ap (λ b. 2 ^ b) c.if-bits-eq2.true

pub butterfly-requires-after_bounds : goal.butterfly-requires-after_bounds
butterfly-requires-after_bounds g t c = λ κs le. c.requires.levels.0 ∙ ap (λ b. 2 ^ b) c.if-bits-eq1.true

pub bounds-twiddles-3 : goal.bounds-twiddles-3
bounds-twiddles-3 g t c =
    let four : length c.args.values.now ≡ 4 = c.requires.levels.0 ∙ ap (λ n. 2 ^ n) c.if-bits-eq2.true in
    omega (arith, four, c.requires.levels.1)

pub overflow_sub-bits : goal.overflow_sub-bits
overflow_sub-bits g t c = omega (arith, c.if-bits-eq0.false)

pub overflow_sub-bits-2 : goal.overflow_sub-bits-2
overflow_sub-bits-2 g t c = omega (arith, c.if-bits-eq0.false)

pub offset_bounds-twiddles-half : goal.offset_bounds-twiddles-half
offset_bounds-twiddles-half g t c = omega (arith, c.requires.levels.1)
