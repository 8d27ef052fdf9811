use Rattle.std.proofs.Common.{◌≡◌, ℕ, ◌+◌, ◌-◌, ◌*◌, ◌/◌, ◌%◌, ◌<◌, ◌≤◌, ◌^◌, length, refl, sym, ap, ◌∙◌, arith, subst}
use Rattle.std.proofs.Math.Nat.{div-mul-le_self}
use Rattle.std.proofs.lemmas.Nat.{one_shl}
use Rattle.lzk_field.specs.Sums.{entry}
use Rattle.lzk_field.proofs.EntryLaws.{entries_joined}
use Rattle.lzk_afft.specs.Basis.{basis_sum}
use Rattle.lzk_afft.specs.Blocks.{IsBlock}
use Rattle.lzk_afft.proofs.Rooms.{block_within, node_room, block_at, full_few, empty_none, filled_some, rest_small}
use Rattle.lzk_afft.proofs.Splits.{basis_sum-ext, positive}
use Rattle.lzk_afft.proofs.points.+evaluate.Goals as goal

pub evaluate_block-requires-clause-factors : goal.evaluate_block-requires-clause-factors
evaluate_block-requires-clause-factors g t c κs within =
    let size = length c.args.room.now in
    let bits = c.args.bits in
    let depth = c.args.depth in
    let some = filled_some c.is_empty.result (length c.args.out.now) c.is_empty.ensures c.if-is_empty.false in
    let block : c.args.from / size < 2 ^ (depth - bits) = block_within bits depth c.args.from size c.requires.order c.requires.whole (omega (arith, c.requires.reached)) in
    let room = node_room bits depth (c.args.from / size) size c.requires.order c.requires.whole block in
    let power : 1 * 2 ^ (depth - bits) % 18446744073709551616 ≡ 2 ^ (depth - bits) = one_shl (depth - bits) 64 (omega (arith, c.requires.block.few)) in
    let reached : (1 * 2 ^ (depth - bits) % 18446744073709551616 + c.args.from / size + 1) * size ≤ 2 * length c.args.twiddles.now =
    subst (λ (n : ℕ). (n + c.args.from / size + 1) * size ≤ 2 * length c.args.twiddles.now) (sym power) (omega (arith, room, c.requires.twiddles)) in
    (c.requires.whole, reached, full_few depth c.args.twiddles.now c.requires.block.few c.requires.twiddles)

pub returns-clause-values : goal.returns-clause-values
returns-clause-values g t c =
    let o = g.F.Field.ops in
    let laws = g.F.Field.laws in
    let element = g.F.Field.coding.element in
    let room = c.args.room.now in
    let size = length room in
    let bits = c.args.bits in
    let depth = c.args.depth in
    let from = c.args.from in
    let index = from / size in
    let some = filled_some c.is_empty.result (length c.args.out.now) c.is_empty.ensures c.if-is_empty.false in
    let block : index < 2 ^ (depth - bits) = block_within bits depth from size c.requires.order c.requires.whole (omega (arith, c.requires.reached)) in
    let power : 1 * 2 ^ (depth - bits) % 18446744073709551616 ≡ 2 ^ (depth - bits) = one_shl (depth - bits) 64 (omega (arith, c.requires.block.few)) in
    let here : IsBlock o element bits (index * 2 ^ bits) (1 * 2 ^ (depth - bits) % 18446744073709551616 + index) c.args.twiddles.now =
    subst (λ (n : ℕ). IsBlock o element bits (index * 2 ^ bits) (n + index) c.args.twiddles.now) (sym power) (block_at laws bits depth index c.args.twiddles.now c.requires.order c.requires.block block) in
    let start : index * size ≤ from = div-mul-le_self from size in
    let same : index * size ≡ index * 2 ^ bits = ap (λ n. index * n) c.requires.whole in
    entries_joined o (λ k y. y ≡ basis_sum o element (entry o room) (2 ^ bits) (element (from + k))) c.evaluate_block.new.out c.evaluate.new.out
    (λ k h. let place : index * 2 ^ bits + (from - index * size + k) ≡ from + k = omega (arith, start, same) in
    c.evaluate_block.ensures.values (index * 2 ^ bits) here k h ∙ ap (λ n. basis_sum o element (entry o room) (2 ^ bits) (element n)) place)
    (λ k h.
    let count = length c.split_at_mut-first.result.0.now in
    let place : from + length c.evaluate_block.new.out + k ≡ from + (length c.evaluate_block.new.out + k) = omega arith in
    c.evaluate.ensures.values k h
    ∙ basis_sum-ext o laws.ring element (entry o c.evaluate_block.new.room) (entry o room) (2 ^ bits) _ (λ j l. c.evaluate_block.ensures.same j (omega (arith, l, c.requires.whole, c.evaluate_block.auto.room)))
    ∙ ap (λ n. basis_sum o element (entry o room) (2 ^ bits) (element n)) (omega (arith, c.evaluate_block.auto.out, c.split_at_mut-first.ensures.front_len)))

pub returns-clause-same : goal.returns-clause-same
returns-clause-same g t c = λ k h. c.evaluate.ensures.same k h ∙ c.evaluate_block.ensures.same k (omega (arith, h, c.evaluate.auto.room))

pub returns-then-is_empty-clause-values : goal.returns-then-is_empty-clause-values
returns-then-is_empty-clause-values g t c = λ k h. absurd (omega (arith, h, empty_none c.is_empty.result (length c.args.out.now) c.is_empty.ensures c.if-is_empty.true))

pub returns-then-is_empty-clause-same : goal.returns-then-is_empty-clause-same
returns-then-is_empty-clause-same g t c = λ k h. refl

pub overflow_mul-skip : goal.overflow_mul-skip
overflow_mul-skip g t c =
    omega (arith, div-mul-le_self c.args.from (length c.args.room.now), c.requires.reached, c.requires.twiddles, full_few c.args.depth c.args.twiddles.now c.requires.block.few c.requires.twiddles)

pub overflow_sub-skip : goal.overflow_sub-skip
overflow_sub-skip g t c = div-mul-le_self c.args.from (length c.args.room.now)

pub evaluate_block-requires-clause-inside : goal.evaluate_block-requires-clause-inside
evaluate_block-requires-clause-inside g t c κs within =
    let small = rest_small c.args.from (length c.args.room.now) (omega (arith, c.requires.whole, positive c.args.bits)) in
    omega (arith, small, c.min-count.ensures, c.split_at_mut-first.ensures.front_len)

pub evaluate-requires-clause-reached : goal.evaluate-requires-clause-reached
evaluate-requires-clause-reached g t c κs within = omega (arith, c.requires.reached, c.min-count.ensures, c.split_at_mut-first.ensures.back_len)

pub evaluate-requires-clause-whole : goal.evaluate-requires-clause-whole
evaluate-requires-clause-whole g t c κs within = c.evaluate_block.auto.room ∙ c.requires.whole

pub overflow_sub-size : goal.overflow_sub-size
overflow_sub-size g t c =
    let small = rest_small c.args.from (length c.args.room.now) (omega (arith, c.requires.whole, positive c.args.bits)) in
    omega (arith, small)

pub split_at_mut-first-requires : goal.split_at_mut-first-requires
split_at_mut-first-requires g t c = omega (arith, c.min-count.ensures)
