use Rattle.std.proofs.Common.{◌≡◌, ℕ, ◌+◌, ◌-◌, ◌/◌, ◌^◌, ◌<◌, length, take, drop, ap, sym, subst, ◌∙◌, arith}
use Rattle.lzk_poly_ntt.specs.Transform.{spectrum, AreTwiddles, IsRoot}
use Rattle.std.proofs.lemmas.List.{get_or_default}
use Rattle.lzk_field.specs.Sums.{entry, minus}
use Rattle.lzk_poly_ntt.proofs.Levels.{halves, entry-part, entry-front, entry-back, forward_single, level_down}
use Rattle.lzk_poly_ntt.proofs.Lowest.{forward_two, forward_four}
use Rattle.lzk_poly_ntt.proofs.Pieces.{length_part}
use Rattle.lzk_poly_ntt.proofs.halves.+forward.Goals as goal

pub forward-requires-clause-levels : goal.forward-requires-clause-levels
forward-requires-clause-levels g t c κs within =
    let half = halves c.args.bits (length c.args.values.now) c.requires.levels.0 (omega arith) in (
      omega (arith, half.1, c.split_at_mut-low.ensures.front_len),
      omega (arith, c.requires.levels.1, c.split_at_mut-low.ensures.front_len),
    )

pub forward-requires-2-clause-levels : goal.forward-requires-2-clause-levels
forward-requires-2-clause-levels g t c κs within =
    let half = halves c.args.bits (length c.args.values.now) c.requires.levels.0 (omega arith) in (
      omega (arith, half.1, half.2, c.split_at_mut-low.ensures.back_len),
      omega (arith, c.requires.levels.1, c.split_at_mut-low.ensures.back_len),
    )

pub forward_butterflies-requires-clause-lengths : goal.forward_butterflies-requires-clause-lengths
forward_butterflies-requires-clause-lengths g t c κs within =
    let h = length c.args.values.now / 2 in
    let half = halves c.args.bits (length c.args.values.now) c.requires.levels.0 (omega arith) in (
      omega (arith, half.2, c.split_at_mut-low.ensures.front_len, c.split_at_mut-low.ensures.back_len),
      omega (arith, length_part c.args.twiddles.now h (h + h - h) (omega (arith, half.2, c.requires.levels.1)), c.split_at_mut-low.ensures.front_len),
    )

pub returns : goal.returns
returns g t c =
    let o = g.F.Field.ops in
    let values = c.args.values.now in
    let ts = c.args.twiddles.now in
    let bits = c.args.bits in
    let size = length values in
    let h = size / 2 in
    let parts = halves bits size c.requires.levels.0 (omega arith) in
    let front : length c.split_at_mut-low.result.0.now ≡ h = omega (arith, c.split_at_mut-low.ensures.front_len) in
    let back : length c.split_at_mut-low.result.1.now ≡ h = omega (arith, parts.2, c.split_at_mut-low.ensures.back_len) in
    let low_at : (i : ℕ) → i < h → entry o c.split_at_mut-low.result.0.now i ≡ entry o values i = λ i l. entry-front o values c.split_at_mut-low.result.0.now h i c.split_at_mut-low.ensures.front l in
    let high_at : (i : ℕ) → entry o c.split_at_mut-low.result.1.now i ≡ entry o values (h + i) = λ i. entry-back o values c.split_at_mut-low.result.1.now h i c.split_at_mut-low.ensures.back in
    λ w root twiddles.
    level_down o g.F.Field.laws.ring bits size h w values ts c.forward_butterflies.new.low c.forward_butterflies.new.high c.forward.new.values c.forward-2.new.values parts.0 parts.1 (omega (arith, front)) (omega (arith, back)) root twiddles
    (λ i l. c.forward_butterflies.ensures.sums i (omega (arith, front)) ∙ ap (λ v. o.plus v (entry o c.split_at_mut-low.result.1.now i)) (low_at i l) ∙ ap (o.plus (entry o values i)) (high_at i))
    (λ i l.
    let power = entry o (take (h + h - h) (drop h ts)) i in
    c.forward_butterflies.ensures.twiddled i (omega (arith, back))
    ∙ ap (λ v. o.times (minus o v (entry o c.split_at_mut-low.result.1.now i)) power) (low_at i l)
    ∙ ap (λ v. o.times (minus o (entry o values i) v) power) (high_at i)
    ∙ ap (o.times (minus o (entry o values i) (entry o values (h + i)))) (entry-part o ts h (h + h - h) i (omega arith)))
    (λ v low_root low_twiddles j l. c.forward.ensures v low_root low_twiddles j (omega (arith, front)))
    (λ v low_root low_twiddles j l. c.forward-2.ensures v low_root low_twiddles j (omega (arith, back)))

pub returns-then-bits-eq2 : goal.returns-then-bits-eq2
returns-then-bits-eq2 g t c =
    let o = g.F.Field.ops in
    let ts = c.args.twiddles.now in
    let e = c.forward_four.ensures in
    let four : length c.args.values.now ≡ 4 = c.requires.levels.0 ∙ ap (λ n. 2 ^ n) c.if-bits-eq2.true in
    let turn : c.index-twiddles-3.result ≡ entry o ts 3 = c.index-twiddles-3.is ∙ get_or_default ts 3 c.index-twiddles-3.result o.zero (omega (arith, four, c.requires.levels.1)) in
    λ w root twiddles j h. forward_four o g.F.Field.laws.ring c.args.bits w c.index-twiddles-3.result c.args.values.now ts c.forward_four.new.values c.if-bits-eq2.true root twiddles turn e.first e.second e.third e.fourth j (omega (arith, c.requires.levels.0))

pub returns-then-bits-eq1 : goal.returns-then-bits-eq1
returns-then-bits-eq1 g t c =
    λ w root twiddles j h. forward_two g.F.Field.ops g.F.Field.laws.ring c.args.bits w c.args.values.now c.butterfly.new.values c.if-bits-eq1.true root c.butterfly.ensures.sum c.butterfly.ensures.difference j (omega (arith, c.requires.levels.0))

pub returns-then-bits-eq0 : goal.returns-then-bits-eq0
returns-then-bits-eq0 g t c =
    λ w root twiddles j h. forward_single g.F.Field.ops g.F.Field.laws.ring c.args.bits w c.args.values.now j (omega arith) (omega (arith, c.requires.levels.0))

pub returns-then-bits-eq3 : goal.returns-then-bits-eq3
returns-then-bits-eq3 g t c =
    let o = g.F.Field.ops in
    let three = c.if-bits-eq3.true in
    let ts = c.args.twiddles.now in
    λ w root twiddles j h.
    c.forward_eight.ensures w (subst (λ (b : ℕ). IsRoot o b w) three root) (subst (λ (b : ℕ). AreTwiddles o b w ts) three twiddles) j h
    ∙ ap (λ b. spectrum o b w (λ i. entry o c.args.values.now i) j) (sym three)

pub forward_eight-requires-clause-levels : goal.forward_eight-requires-clause-levels
forward_eight-requires-clause-levels g t c κs within = (c.requires.levels.0 ∙ ap (λ b. 2 ^ b) c.if-bits-eq3.true, c.requires.levels.1)

pub forward_four-requires-after_bounds : goal.forward_four-requires-after_bounds
forward_four-requires-after_bounds g t c = λ κs le. c.requires.levels.0 ∙ ap (λ b. 2 ^ b) c.if-bits-eq2.true

pub butterfly-requires-after_bounds : goal.butterfly-requires-after_bounds
butterfly-requires-after_bounds g t c = λ κs le. c.requires.levels.0 ∙ ap (λ b. 2 ^ b) c.if-bits-eq1.true

pub bounds-twiddles-3 : goal.bounds-twiddles-3
bounds-twiddles-3 g t c =
    let four : length c.args.values.now ≡ 4 = c.requires.levels.0 ∙ ap (λ n. 2 ^ n) c.if-bits-eq2.true in
    omega (arith, four, c.requires.levels.1)

pub overflow_sub-bits : goal.overflow_sub-bits
overflow_sub-bits g t c = omega (arith, c.if-bits-eq0.false)

pub overflow_sub-bits-2 : goal.overflow_sub-bits-2
overflow_sub-bits-2 g t c = omega (arith, c.if-bits-eq0.false)

pub offset_bounds-twiddles-half : goal.offset_bounds-twiddles-half
offset_bounds-twiddles-half g t c = omega (arith, c.requires.levels.1)
