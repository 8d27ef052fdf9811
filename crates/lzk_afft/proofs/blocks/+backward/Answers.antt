use Rattle.std.proofs.Common.{◌≡◌, ℕ, ◌+◌, ◌-◌, ◌/◌, ◌^◌, ◌<◌, length, refl, sym, ap, ◌∙◌, arith}
use Rattle.std.proofs.lemmas.List.{get_or_default}
use Rattle.lzk_field.specs.Sums.{entry}
use Rattle.lzk_afft.proofs.Levels.{halves, node_within, low_factors, high_factors, entry-front, entry-back, level_up_whole, level_up_part, rest_whole, rest_part, single}
use Rattle.lzk_afft.proofs.Rooms.{node_in}
use Rattle.lzk_afft.proofs.Splits.{positive}
use Rattle.lzk_afft.proofs.blocks.+backward.Goals as goal
use Rattle.lzk_afft.proofs.blocks.+backward.Goals.{then-bits-eq0-via-then-bits-eq0, then-bits-eq0-via-else-bits-eq0+then-known-eq0}

pub returns-then-bits-eq0-clause-values : goal.returns-then-bits-eq0-clause-values
returns-then-bits-eq0-clause-values g t c =
    let o = g.F.Field.ops in
    let values = c.args.values.now in
    λ at block j h.
    elim c.then-bits-eq0.branch [
      | then-bits-eq0-via-then-bits-eq0 w ↦
          let one : length values ≡ 1 = c.requires.factors.0 ∙ ap (λ n. 2 ^ n) w.if-bits-eq0.true in
          let first : j ≡ 0 = omega (arith, one, c.requires.known) in
          single g.F.Field.laws c.args.bits (entry o values) (g.F.Field.coding.element (at + j)) w.if-bits-eq0.true ∙ ap (entry o values) (sym first)
      | then-bits-eq0-via-else-bits-eq0+then-known-eq0 w ↦ absurd (omega (arith, w.if-known-eq0.true))
    ]

pub offset_bounds-twiddles-node : goal.offset_bounds-twiddles-node
offset_bounds-twiddles-node g t c =
    let size = length c.args.values.now in
    let half = halves c.args.bits size c.requires.factors.0 (omega (arith, c.if-bits-eq0.false)) in
    let l = node_within c.args.node size (length c.args.twiddles.now) (omega (arith, half.1, half.2, positive (c.args.bits - 1))) c.requires.factors.1 in omega (arith, l)

pub bounds-twiddles-node : goal.bounds-twiddles-node
bounds-twiddles-node g t c =
    let size = length c.args.values.now in
    let half = halves c.args.bits size c.requires.factors.0 (omega (arith, c.if-bits-eq0.false)) in
    node_within c.args.node size (length c.args.twiddles.now) (omega (arith, half.1, half.2, positive (c.args.bits - 1))) c.requires.factors.1

pub add_multiples-requires-clause-halves : goal.add_multiples-requires-clause-halves
add_multiples-requires-clause-halves g t c κs within =
    let size = length c.args.values.now in
    let half = halves c.args.bits size c.requires.factors.0 (omega (arith, c.if-bits-eq0.false)) in
    omega (arith, half.2, c.split_at_mut-low.ensures.front_len, c.split_at_mut-low.ensures.back_len)

pub backward-requires-clause-factors : goal.backward-requires-clause-factors
backward-requires-clause-factors g t c κs within = low_factors c.args.bits c.args.node c.args.values.now c.add_multiples.new.low c.args.twiddles.now c.requires.factors (omega (arith, c.if-bits-eq0.false)) (omega (arith, c.split_at_mut-low.ensures.front_len))

pub subtract_multiples-requires-clause-halves : goal.subtract_multiples-requires-clause-halves
subtract_multiples-requires-clause-halves g t c κs within =
    let size = length c.args.values.now in
    let half = halves c.args.bits size c.requires.factors.0 (omega (arith, c.if-bits-eq0.false)) in
    omega (arith, half.2, c.split_at_mut-low.ensures.front_len, c.split_at_mut-low.ensures.back_len)

pub backward-requires-else-known-half-clause-factors : goal.backward-requires-else-known-half-clause-factors
backward-requires-else-known-half-clause-factors g t c κs within = low_factors c.args.bits c.args.node c.args.values.now c.split_at_mut-low.result.0.now c.args.twiddles.now c.requires.factors (omega (arith, c.if-bits-eq0.false)) (omega (arith, c.split_at_mut-low.ensures.front_len))

pub add_entries-requires-clause-halves : goal.add_entries-requires-clause-halves
add_entries-requires-clause-halves g t c κs within =
    let size = length c.args.values.now in
    let half = halves c.args.bits size c.requires.factors.0 (omega (arith, c.if-bits-eq0.false)) in
    omega (arith, half.2, c.split_at_mut-low.ensures.front_len, c.split_at_mut-low.ensures.back_len)

pub backward-requires-else-known-half-2-clause-factors : goal.backward-requires-else-known-half-2-clause-factors
backward-requires-else-known-half-2-clause-factors g t c κs within = high_factors c.args.bits c.args.node c.args.values.now c.add_entries.new.high c.args.twiddles.now c.requires.factors (omega (arith, c.if-bits-eq0.false)) (omega (arith, c.split_at_mut-low.ensures.back_len))

pub backward_butterflies-requires-clause-halves : goal.backward_butterflies-requires-clause-halves
backward_butterflies-requires-clause-halves g t c κs within =
    let size = length c.args.values.now in
    let half = halves c.args.bits size c.requires.factors.0 (omega (arith, c.if-bits-eq0.false)) in
    omega (arith, half.2, c.split_at_mut-low.ensures.front_len, c.split_at_mut-low.ensures.back_len)

pub returns-then-known-half-clause-values : goal.returns-then-known-half-clause-values
returns-then-known-half-clause-values g t c =
    let o = g.F.Field.ops in
    let values = c.args.values.now in
    let size = length values in
    let h = size / 2 in
    let parts = halves c.args.bits size c.requires.factors.0 (omega (arith, c.if-bits-eq0.false)) in
    let old_low = c.split_at_mut-low.result.0.now in
    let old_high = c.split_at_mut-low.result.1.now in
    let twiddle = c.index-twiddles-node.result in
    let front : length old_low ≡ h = omega (arith, c.split_at_mut-low.ensures.front_len) in
    let back : length old_high ≡ h = omega (arith, parts.2, c.split_at_mut-low.ensures.back_len) in
    let low_at : (i : ℕ) → i < h → entry o old_low i ≡ entry o values i = λ i l. entry-front o values old_low h i c.split_at_mut-low.ensures.front l in
    let high_at : (i : ℕ) → entry o old_high i ≡ entry o values (h + i) = λ i. entry-back o values old_high h i c.split_at_mut-low.ensures.back in
    let inside : c.args.node < length c.args.twiddles.now = node_within c.args.node size (length c.args.twiddles.now) (omega (arith, parts.1, parts.2, positive (c.args.bits - 1))) c.requires.factors.1 in
    let is : twiddle ≡ entry o c.args.twiddles.now c.args.node = c.index-twiddles-node.is ∙ get_or_default c.args.twiddles.now c.args.node twiddle o.zero inside in
    λ at block.
    level_up_part g.F.Field.laws c.args.bits h c.args.known at c.args.node twiddle values c.args.twiddles.now old_low old_high c.add_multiples.new.low c.backward.new.values c.subtract_multiples.new.low parts.0 parts.1 (omega (arith, c.if-known-half.true)) (omega (arith, front)) block is
    low_at
    (λ i l. c.add_multiples.ensures.before i l)
    (λ a low_block j l. c.backward.ensures.values a low_block j l)
    (λ i l. c.subtract_multiples.ensures i (omega (arith, front)))

pub returns-then-known-half-clause-rest : goal.returns-then-known-half-clause-rest
returns-then-known-half-clause-rest g t c =
    let o = g.F.Field.ops in
    let values = c.args.values.now in
    let size = length values in
    let h = size / 2 in
    let parts = halves c.args.bits size c.requires.factors.0 (omega (arith, c.if-bits-eq0.false)) in
    let old_low = c.split_at_mut-low.result.0.now in
    let old_high = c.split_at_mut-low.result.1.now in
    let twiddle = c.index-twiddles-node.result in
    let front : length old_low ≡ h = omega (arith, c.split_at_mut-low.ensures.front_len) in
    let back : length old_high ≡ h = omega (arith, parts.2, c.split_at_mut-low.ensures.back_len) in
    let low_at : (i : ℕ) → i < h → entry o old_low i ≡ entry o values i = λ i l. entry-front o values old_low h i c.split_at_mut-low.ensures.front l in
    let high_at : (i : ℕ) → entry o old_high i ≡ entry o values (h + i) = λ i. entry-back o values old_high h i c.split_at_mut-low.ensures.back in
    λ j k m.
    rest_part o g.F.Field.laws.ring h c.args.known twiddle values old_low old_high c.add_multiples.new.low c.backward.new.values c.subtract_multiples.new.low (omega (arith, c.if-known-half.true)) (omega (arith, front))
    low_at (λ i l. high_at i)
    (λ i p l. c.add_multiples.ensures.after i p (omega (arith, front)))
    (λ i p l. c.backward.ensures.rest i p (omega (arith, front)))
    (λ i l. c.subtract_multiples.ensures i (omega (arith, front)))
    j k (omega (arith, parts.2))

pub returns-else-known-half-clause-values : goal.returns-else-known-half-clause-values
returns-else-known-half-clause-values g t c =
    let o = g.F.Field.ops in
    let values = c.args.values.now in
    let size = length values in
    let h = size / 2 in
    let parts = halves c.args.bits size c.requires.factors.0 (omega (arith, c.if-bits-eq0.false)) in
    let old_low = c.split_at_mut-low.result.0.now in
    let old_high = c.split_at_mut-low.result.1.now in
    let twiddle = c.index-twiddles-node.result in
    let front : length old_low ≡ h = omega (arith, c.split_at_mut-low.ensures.front_len) in
    let back : length old_high ≡ h = omega (arith, parts.2, c.split_at_mut-low.ensures.back_len) in
    let low_at : (i : ℕ) → i < h → entry o old_low i ≡ entry o values i = λ i l. entry-front o values old_low h i c.split_at_mut-low.ensures.front l in
    let high_at : (i : ℕ) → entry o old_high i ≡ entry o values (h + i) = λ i. entry-back o values old_high h i c.split_at_mut-low.ensures.back in
    let inside : c.args.node < length c.args.twiddles.now = node_within c.args.node size (length c.args.twiddles.now) (omega (arith, parts.1, parts.2, positive (c.args.bits - 1))) c.requires.factors.1 in
    let is : twiddle ≡ entry o c.args.twiddles.now c.args.node = c.index-twiddles-node.is ∙ get_or_default c.args.twiddles.now c.args.node twiddle o.zero inside in
    λ at block.
    level_up_whole g.F.Field.laws c.args.bits h c.args.known at c.args.node twiddle values c.args.twiddles.now old_low old_high c.backward-else-known-half.new.values c.add_entries.new.high c.backward-else-known-half-2.new.values c.backward_butterflies.new.low c.backward_butterflies.new.high parts.0 parts.1 (omega (arith, c.if-known-half.false)) (omega (arith, c.requires.known, parts.2)) (omega (arith, back)) (omega (arith, front)) block is
    low_at (λ i l. high_at i)
    (λ a low_block j l. c.backward-else-known-half.ensures.values a low_block j l)
    (λ i l. c.add_entries.ensures.before i l)
    (λ a high_block j l. c.backward-else-known-half-2.ensures.values a high_block j l)
    (λ i l. c.backward_butterflies.ensures.upper i (omega (arith, back)))
    (λ i l. c.backward_butterflies.ensures.lower i (omega (arith, front)))

pub returns-else-known-half-clause-rest : goal.returns-else-known-half-clause-rest
returns-else-known-half-clause-rest g t c =
    let o = g.F.Field.ops in
    let values = c.args.values.now in
    let size = length values in
    let h = size / 2 in
    let parts = halves c.args.bits size c.requires.factors.0 (omega (arith, c.if-bits-eq0.false)) in
    let old_low = c.split_at_mut-low.result.0.now in
    let old_high = c.split_at_mut-low.result.1.now in
    let twiddle = c.index-twiddles-node.result in
    let front : length old_low ≡ h = omega (arith, c.split_at_mut-low.ensures.front_len) in
    let back : length old_high ≡ h = omega (arith, parts.2, c.split_at_mut-low.ensures.back_len) in
    let low_at : (i : ℕ) → i < h → entry o old_low i ≡ entry o values i = λ i l. entry-front o values old_low h i c.split_at_mut-low.ensures.front l in
    let high_at : (i : ℕ) → entry o old_high i ≡ entry o values (h + i) = λ i. entry-back o values old_high h i c.split_at_mut-low.ensures.back in
    λ j k m.
    rest_whole o g.F.Field.laws.ring h c.args.known values old_high c.backward-else-known-half.new.values c.add_entries.new.high c.backward-else-known-half-2.new.values c.backward_butterflies.new.low c.backward_butterflies.new.high (omega (arith, c.if-known-half.false)) (omega (arith, back)) (omega (arith, front))
    (λ i l. high_at i)
    (λ i p l. c.add_entries.ensures.after i p (omega (arith, back)))
    (λ i p l. c.backward-else-known-half-2.ensures.rest i p (omega (arith, back)))
    (λ i l. c.backward_butterflies.ensures.upper i (omega (arith, back)))
    j k (omega (arith, parts.2))

pub returns-then-bits-eq0-clause-rest : goal.returns-then-bits-eq0-clause-rest
returns-then-bits-eq0-clause-rest g t c = λ j p h. refl

pub backward-requires-clause-known : goal.backward-requires-clause-known
backward-requires-clause-known g t c κs within = omega (arith, c.if-known-half.true, c.add_multiples.auto.low, c.split_at_mut-low.ensures.front_len)

pub backward-requires-else-known-half-clause-known : goal.backward-requires-else-known-half-clause-known
backward-requires-else-known-half-clause-known g t c κs within = omega (arith, c.split_at_mut-low.ensures.front_len)

pub backward-requires-else-known-half-2-clause-known : goal.backward-requires-else-known-half-2-clause-known
backward-requires-else-known-half-2-clause-known g t c κs within = omega (arith, c.requires.known, c.add_entries.auto.high, c.split_at_mut-low.ensures.back_len)

pub overflow_mul-node : goal.overflow_mul-node
overflow_mul-node g t c =
    let l = node_in c.args.bits c.args.node c.args.values.now c.args.twiddles.now c.requires.factors (omega (arith, c.if-bits-eq0.false)) in
    omega (arith, l, c.requires.factors.2)

pub overflow_mul-node-else-known-half : goal.overflow_mul-node-else-known-half
overflow_mul-node-else-known-half g t c =
    let l = node_in c.args.bits c.args.node c.args.values.now c.args.twiddles.now c.requires.factors (omega (arith, c.if-bits-eq0.false)) in
    omega (arith, l, c.requires.factors.2)

pub overflow_mul-node-else-known-half-2 : goal.overflow_mul-node-else-known-half-2
overflow_mul-node-else-known-half-2 g t c =
    let l = node_in c.args.bits c.args.node c.args.values.now c.args.twiddles.now c.requires.factors (omega (arith, c.if-bits-eq0.false)) in
    omega (arith, l, c.requires.factors.2)

pub overflow_add-node : goal.overflow_add-node
overflow_add-node g t c =
    let l = node_in c.args.bits c.args.node c.args.values.now c.args.twiddles.now c.requires.factors (omega (arith, c.if-bits-eq0.false)) in
    omega (arith, l, c.requires.factors.2)

pub overflow_sub-bits : goal.overflow_sub-bits
overflow_sub-bits g t c = omega (arith, c.if-bits-eq0.false)

pub overflow_sub-bits-else-known-half : goal.overflow_sub-bits-else-known-half
overflow_sub-bits-else-known-half g t c = omega (arith, c.if-bits-eq0.false)

pub overflow_sub-bits-else-known-half-2 : goal.overflow_sub-bits-else-known-half-2
overflow_sub-bits-else-known-half-2 g t c = omega (arith, c.if-bits-eq0.false)
