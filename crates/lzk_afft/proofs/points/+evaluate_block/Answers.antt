use Rattle.std.proofs.Common.{◌≡◌, ℕ, ◌+◌, ◌-◌, ◌/◌, ◌<◌, ◌^◌, List, length, refl, sym, ap, ◌∙◌, arith, subst}
use Rattle.std.proofs.lemmas.List.{get_or_default}
use Rattle.lzk_field.specs.Sums.{entry}
use Rattle.lzk_field.proofs.EntryLaws.{entries_joined}
use Rattle.lzk_afft.specs.Basis.{basis_sum}
use Rattle.lzk_afft.specs.Blocks.{HasFactors}
use Rattle.lzk_afft.proofs.Levels.{halves, low_factors, high_factors, entry-front, entry-back, level_at_low, level_at_high}
use Rattle.lzk_afft.proofs.Rooms.{several, restored, empty_none, filled_some, node_in, lower_inside, upper_inside, lower_skip, lower_reached, upper_place, upper_reached}
use Rattle.lzk_afft.proofs.points.+evaluate_block.Goals as goal

pub forward-requires-clause-factors : goal.forward-requires-clause-factors
forward-requires-clause-factors g t c κs within = subst (λ (xs : List g.row.F.Denot). HasFactors c.args.bits c.args.node xs c.args.twiddles.now) (sym c.copy_from_slice.ensures.after) c.requires.factors

pub forward_butterflies-requires-clause-halves : goal.forward_butterflies-requires-clause-halves
forward_butterflies-requires-clause-halves g t c κs within =
    let some = filled_some c.is_empty.result (length c.args.out.now) c.is_empty.ensures c.if-is_empty.false in
    let more : 0 < c.args.bits = several c.args.bits (length c.args.room.now) (length c.args.out.now) c.requires.factors.0 some (omega (arith, c.requires.inside)) c.if-out-room.false in
    let parts = halves c.args.bits (length c.args.room.now) c.requires.factors.0 more in
    omega (arith, parts.2, c.split_at_mut-low.ensures.front_len, c.split_at_mut-low.ensures.back_len)

pub evaluate_block-requires-clause-factors : goal.evaluate_block-requires-clause-factors
evaluate_block-requires-clause-factors g t c κs within =
    let some = filled_some c.is_empty.result (length c.args.out.now) c.is_empty.ensures c.if-is_empty.false in
    let more : 0 < c.args.bits = several c.args.bits (length c.args.room.now) (length c.args.out.now) c.requires.factors.0 some (omega (arith, c.requires.inside)) c.if-out-room.false in
    low_factors c.args.bits c.args.node c.args.room.now c.forward_butterflies.new.low c.args.twiddles.now c.requires.factors more (omega (arith, c.split_at_mut-low.ensures.front_len))

pub evaluate_block-requires-2-clause-factors : goal.evaluate_block-requires-2-clause-factors
evaluate_block-requires-2-clause-factors g t c κs within =
    let some = filled_some c.is_empty.result (length c.args.out.now) c.is_empty.ensures c.if-is_empty.false in
    let more : 0 < c.args.bits = several c.args.bits (length c.args.room.now) (length c.args.out.now) c.requires.factors.0 some (omega (arith, c.requires.inside)) c.if-out-room.false in
    high_factors c.args.bits c.args.node c.args.room.now c.forward_butterflies.new.high c.args.twiddles.now c.requires.factors more (omega (arith, c.split_at_mut-low.ensures.back_len))

pub backward_butterflies-requires-clause-halves : goal.backward_butterflies-requires-clause-halves
backward_butterflies-requires-clause-halves g t c κs within =
    let some = filled_some c.is_empty.result (length c.args.out.now) c.is_empty.ensures c.if-is_empty.false in
    let more : 0 < c.args.bits = several c.args.bits (length c.args.room.now) (length c.args.out.now) c.requires.factors.0 some (omega (arith, c.requires.inside)) c.if-out-room.false in
    let parts = halves c.args.bits (length c.args.room.now) c.requires.factors.0 more in
    omega (arith, parts.2, c.split_at_mut-low.ensures.front_len, c.split_at_mut-low.ensures.back_len)

pub returns-clause-same : goal.returns-clause-same
returns-clause-same g t c =
    let o = g.F.Field.ops in
    let room = c.args.room.now in
    let size = length room in
    let h = size / 2 in
    let some = filled_some c.is_empty.result (length c.args.out.now) c.is_empty.ensures c.if-is_empty.false in
    let more : 0 < c.args.bits = several c.args.bits size (length c.args.out.now) c.requires.factors.0 some (omega (arith, c.requires.inside)) c.if-out-room.false in
    let parts = halves c.args.bits size c.requires.factors.0 more in
    let fl = c.split_at_mut-low.ensures.front_len in
    let bl = c.split_at_mut-low.ensures.back_len in
    let old_low = c.split_at_mut-low.result.0.now in
    let old_high = c.split_at_mut-low.result.1.now in
    let twiddle = c.index-twiddles-node.result in
    let low_at : (i : ℕ) → i < h → entry o old_low i ≡ entry o room i = λ i l. entry-front o room old_low h i c.split_at_mut-low.ensures.front l in
    let high_at : (i : ℕ) → i < h → entry o old_high i ≡ entry o room (h + i) = λ i l. entry-back o room old_high h i c.split_at_mut-low.ensures.back in
    let front : length old_low ≡ h = omega (arith, fl) in
    let back : length old_high ≡ h = omega (arith, parts.2, bl) in
    restored o g.F.Field.laws.ring h twiddle room old_low old_high c.forward_butterflies.new.low c.forward_butterflies.new.high c.evaluate_block.new.room c.evaluate_block-2.new.room c.backward_butterflies.new.low c.backward_butterflies.new.high (omega (arith, front)) (omega (arith, back))
    low_at high_at
    (λ i l. c.forward_butterflies.ensures.lower i (omega (arith, front)))
    (λ i l. c.forward_butterflies.ensures.upper i (omega (arith, back)))
    (λ i l. c.evaluate_block.ensures.same i (omega (arith, front)))
    (λ i l. c.evaluate_block-2.ensures.same i (omega (arith, back)))
    (λ i l. c.backward_butterflies.ensures.upper i (omega (arith, back)))
    (λ i l. c.backward_butterflies.ensures.lower i (omega (arith, front)))

pub returns-clause-values : goal.returns-clause-values
returns-clause-values g t c =
    let o = g.F.Field.ops in
    let room = c.args.room.now in
    let size = length room in
    let h = size / 2 in
    let some = filled_some c.is_empty.result (length c.args.out.now) c.is_empty.ensures c.if-is_empty.false in
    let more : 0 < c.args.bits = several c.args.bits size (length c.args.out.now) c.requires.factors.0 some (omega (arith, c.requires.inside)) c.if-out-room.false in
    let parts = halves c.args.bits size c.requires.factors.0 more in
    let fl = c.split_at_mut-low.ensures.front_len in
    let bl = c.split_at_mut-low.ensures.back_len in
    let old_low = c.split_at_mut-low.result.0.now in
    let old_high = c.split_at_mut-low.result.1.now in
    let twiddle = c.index-twiddles-node.result in
    let low_at : (i : ℕ) → i < h → entry o old_low i ≡ entry o room i = λ i l. entry-front o room old_low h i c.split_at_mut-low.ensures.front l in
    let high_at : (i : ℕ) → i < h → entry o old_high i ≡ entry o room (h + i) = λ i l. entry-back o room old_high h i c.split_at_mut-low.ensures.back in
    let front : length old_low ≡ h = omega (arith, fl) in
    let back : length old_high ≡ h = omega (arith, parts.2, bl) in
    let twiddles = c.args.twiddles.now in
    let node = node_in c.args.bits c.args.node room twiddles c.requires.factors more in
    let is : twiddle ≡ entry o twiddles c.args.node = c.index-twiddles-node.is ∙ get_or_default twiddles c.args.node twiddle o.zero node in
    let element = g.F.Field.coding.element in
    λ at block.
    let low_value = level_at_low g.F.Field.laws c.args.bits h at c.args.node twiddle room twiddles c.forward_butterflies.new.low parts.0 parts.1 block is
    (λ i l. c.forward_butterflies.ensures.lower i (omega (arith, front)) ∙ ap (λ v. o.plus v (o.times twiddle (entry o old_high i))) (low_at i l) ∙ ap (λ v. o.plus (entry o room i) (o.times twiddle v)) (high_at i l)) in
    let high_value = level_at_high g.F.Field.laws c.args.bits h at c.args.node twiddle room twiddles c.forward_butterflies.new.high parts.0 parts.1 block is
    (λ i l. c.forward_butterflies.ensures.upper i (omega (arith, back)) ∙ ap (λ v. o.plus (o.plus v (o.times twiddle (entry o old_high i))) (entry o old_high i)) (low_at i l) ∙ ap (λ v. o.plus (o.plus (entry o room i) (o.times twiddle v)) v) (high_at i l)) in
    entries_joined o (λ k y. y ≡ basis_sum o element (entry o room) (2 ^ c.args.bits) (element (at + (c.args.skip + k)))) c.evaluate_block.new.out c.evaluate_block-2.new.out
    (λ k l.
    let early : k < c.min-before.result = subst (λ (n : ℕ). k < n) (c.evaluate_block.auto.out ∙ c.split_at_mut-first.ensures.front_len) l in
    let inner = lower_inside (length c.args.out.now) h c.args.skip c.min.result c.min-before.result c.min.ensures c.min-before.ensures in
    let skipped : c.min-2.result ≡ c.args.skip = lower_skip k (length c.args.out.now) h c.args.skip c.min.result c.min-before.result c.min-2.result c.min.ensures c.min-before.ensures c.min-2.ensures early in
    c.evaluate_block.ensures.values at low_value.0 k l
    ∙ low_value.1 (c.min-2.result + k) (lower_reached k h c.min.result c.min-before.result c.min-2.result inner (c.min-2.ensures ∙ sym c.min.ensures) early)
    ∙ ap (λ n. basis_sum o element (entry o room) (2 ^ c.args.bits) (element (at + (n + k)))) skipped)
    (λ k l.
    let count : c.min-before.result ≡ length c.evaluate_block.new.out = sym (c.evaluate_block.auto.out ∙ c.split_at_mut-first.ensures.front_len) in
    let late : k < length c.args.out.now - c.min-before.result = omega (arith, l, c.evaluate_block-2.auto.out, c.split_at_mut-first.ensures.back_len) in
    let place : at + h + (c.max.result - h + k) ≡ at + (c.args.skip + (length c.evaluate_block.new.out + k)) =
    upper_place at k (length c.args.out.now) h c.args.skip c.min.result c.min-before.result c.max.result c.min.ensures c.min-before.ensures c.max.ensures late ∙ ap (λ n. at + (c.args.skip + (n + k))) count in
    let most = upper_inside size (length c.args.out.now) h c.args.skip c.min.result c.min-before.result c.max.result c.min.ensures c.min-before.ensures c.max.ensures c.requires.inside in
    c.evaluate_block-2.ensures.values (at + h) high_value.0 k l
    ∙ high_value.1 (c.max.result - h + k) (upper_reached k size (length c.args.out.now) h c.min-before.result c.max.result most late parts.2)
    ∙ ap (λ n. basis_sum o element (entry o room) (2 ^ c.args.bits) (element n)) place)

pub returns-then-is_empty-clause-values : goal.returns-then-is_empty-clause-values
returns-then-is_empty-clause-values g t c = λ at block k h. absurd (omega (arith, h, empty_none c.is_empty.result (length c.args.out.now) c.is_empty.ensures c.if-is_empty.true))

pub returns-then-is_empty-clause-same : goal.returns-then-is_empty-clause-same
returns-then-is_empty-clause-same g t c = λ k h. refl

pub returns-then-out-room-clause-values : goal.returns-then-out-room-clause-values
returns-then-out-room-clause-values g t c =
    let o = g.F.Field.ops in
    let element = g.F.Field.coding.element in
    let n = 2 ^ c.args.bits in
    let none : 0 ≡ c.args.skip = omega (arith, c.requires.inside, c.if-out-room.true) in
    λ at block k h.
    c.forward.ensures at block k h
    ∙ ap (λ xs. basis_sum o element (entry o xs) n (element (at + k))) c.copy_from_slice.ensures.after
    ∙ ap (λ s. basis_sum o element (entry o c.args.room.now) n (element (at + s))) (let start : k ≡ 0 + k = omega arith in start ∙ ap (λ s. s + k) none)

pub returns-then-out-room-clause-same : goal.returns-then-out-room-clause-same
returns-then-out-room-clause-same g t c = λ k h. refl

pub overflow_sub-half : goal.overflow_sub-half
overflow_sub-half g t c = omega (arith, c.min.ensures)

pub bounds-twiddles-node : goal.bounds-twiddles-node
bounds-twiddles-node g t c =
    let some = filled_some c.is_empty.result (length c.args.out.now) c.is_empty.ensures c.if-is_empty.false in
    let more = several c.args.bits (length c.args.room.now) (length c.args.out.now) c.requires.factors.0 some (omega (arith, c.requires.inside)) c.if-out-room.false in
    node_in c.args.bits c.args.node c.args.room.now c.args.twiddles.now c.requires.factors more

pub offset_bounds-twiddles-node : goal.offset_bounds-twiddles-node
offset_bounds-twiddles-node g t c =
    let some = filled_some c.is_empty.result (length c.args.out.now) c.is_empty.ensures c.if-is_empty.false in
    let more = several c.args.bits (length c.args.room.now) (length c.args.out.now) c.requires.factors.0 some (omega (arith, c.requires.inside)) c.if-out-room.false in
    let l = node_in c.args.bits c.args.node c.args.room.now c.args.twiddles.now c.requires.factors more in
    omega (arith, l)

pub overflow_mul-node : goal.overflow_mul-node
overflow_mul-node g t c =
    let some = filled_some c.is_empty.result (length c.args.out.now) c.is_empty.ensures c.if-is_empty.false in
    let more = several c.args.bits (length c.args.room.now) (length c.args.out.now) c.requires.factors.0 some (omega (arith, c.requires.inside)) c.if-out-room.false in
    let l = node_in c.args.bits c.args.node c.args.room.now c.args.twiddles.now c.requires.factors more in
    omega (arith, l, c.requires.factors.2)

pub overflow_mul-node-2 : goal.overflow_mul-node-2
overflow_mul-node-2 g t c =
    let some = filled_some c.is_empty.result (length c.args.out.now) c.is_empty.ensures c.if-is_empty.false in
    let more = several c.args.bits (length c.args.room.now) (length c.args.out.now) c.requires.factors.0 some (omega (arith, c.requires.inside)) c.if-out-room.false in
    let l = node_in c.args.bits c.args.node c.args.room.now c.args.twiddles.now c.requires.factors more in
    omega (arith, l, c.requires.factors.2)

pub overflow_add-node : goal.overflow_add-node
overflow_add-node g t c =
    let some = filled_some c.is_empty.result (length c.args.out.now) c.is_empty.ensures c.if-is_empty.false in
    let more = several c.args.bits (length c.args.room.now) (length c.args.out.now) c.requires.factors.0 some (omega (arith, c.requires.inside)) c.if-out-room.false in
    let l = node_in c.args.bits c.args.node c.args.room.now c.args.twiddles.now c.requires.factors more in
    omega (arith, l, c.requires.factors.2)

pub evaluate_block-requires-clause-inside : goal.evaluate_block-requires-clause-inside
evaluate_block-requires-clause-inside g t c κs within =
    let l = lower_inside (length c.args.out.now) (length c.args.room.now / 2) c.args.skip c.min.result c.min-before.result c.min.ensures c.min-before.ensures in
    omega (arith, l, c.min.ensures, c.min-2.ensures, c.split_at_mut-first.ensures.front_len, c.forward_butterflies.auto.low, c.split_at_mut-low.ensures.front_len)

pub evaluate_block-requires-2-clause-inside : goal.evaluate_block-requires-2-clause-inside
evaluate_block-requires-2-clause-inside g t c κs within =
    let l = upper_inside (length c.args.room.now) (length c.args.out.now) (length c.args.room.now / 2) c.args.skip c.min.result c.min-before.result c.max.result c.min.ensures c.min-before.ensures c.max.ensures c.requires.inside in
    omega (arith, l, c.split_at_mut-first.ensures.back_len, c.forward_butterflies.auto.high, c.split_at_mut-low.ensures.back_len)

pub split_at_mut-first-requires : goal.split_at_mut-first-requires
split_at_mut-first-requires g t c = omega (arith, c.min-before.ensures)

pub overflow_sub-max : goal.overflow_sub-max
overflow_sub-max g t c = omega (arith, c.max.ensures)

pub overflow_sub-bits : goal.overflow_sub-bits
overflow_sub-bits g t c =
    let some = filled_some c.is_empty.result (length c.args.out.now) c.is_empty.ensures c.if-is_empty.false in
    several c.args.bits (length c.args.room.now) (length c.args.out.now) c.requires.factors.0 some (omega (arith, c.requires.inside)) c.if-out-room.false

pub overflow_sub-bits-2 : goal.overflow_sub-bits-2
overflow_sub-bits-2 g t c =
    let some = filled_some c.is_empty.result (length c.args.out.now) c.is_empty.ensures c.if-is_empty.false in
    several c.args.bits (length c.args.room.now) (length c.args.out.now) c.requires.factors.0 some (omega (arith, c.requires.inside)) c.if-out-room.false
