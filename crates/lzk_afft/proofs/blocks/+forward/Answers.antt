use Rattle.std.proofs.Common.{◌≡◌, ℕ, ◌+◌, ◌-◌, ◌/◌, ◌^◌, ◌<◌, length, sym, ap, ◌∙◌, arith}
use Rattle.std.proofs.lemmas.List.{get_or_default}
use Rattle.lzk_field.specs.Sums.{entry}
use Rattle.lzk_afft.proofs.Levels.{halves, node_within, low_factors, high_factors, entry-front, entry-back, level_down, single}
use Rattle.lzk_afft.proofs.Rooms.{node_in}
use Rattle.lzk_afft.proofs.Splits.{positive}
use Rattle.lzk_afft.proofs.blocks.+forward.Goals as goal

pub returns-then-bits-eq0 : goal.returns-then-bits-eq0
returns-then-bits-eq0 g t c =
    let o = g.F.Field.ops in
    let values = c.args.values.now in
    let one : length values ≡ 1 = c.requires.factors.0 ∙ ap (λ n. 2 ^ n) c.if-bits-eq0.true in
    λ at block j h. let first : j ≡ 0 = omega (arith, one) in
    ap (entry o values) first ∙ sym (single g.F.Field.laws c.args.bits (entry o values) (g.F.Field.coding.element (at + j)) c.if-bits-eq0.true)

pub offset_bounds-twiddles-node : goal.offset_bounds-twiddles-node
offset_bounds-twiddles-node g t c =
    let size = length c.args.values.now in
    let half = halves c.args.bits size c.requires.factors.0 (omega (arith, c.if-bits-eq0.false)) in
    let l = node_within c.args.node size (length c.args.twiddles.now) (omega (arith, half.1, half.2, positive (c.args.bits - 1))) c.requires.factors.1 in omega (arith, l)

pub bounds-twiddles-node : goal.bounds-twiddles-node
bounds-twiddles-node g t c =
    let size = length c.args.values.now in
    let half = halves c.args.bits size c.requires.factors.0 (omega (arith, c.if-bits-eq0.false)) in
    node_within c.args.node size (length c.args.twiddles.now) (omega (arith, half.1, half.2, positive (c.args.bits - 1))) c.requires.factors.1

pub forward_butterflies-requires-clause-halves : goal.forward_butterflies-requires-clause-halves
forward_butterflies-requires-clause-halves g t c κs within = let half = halves c.args.bits (length c.args.values.now) c.requires.factors.0 (omega (arith, c.if-bits-eq0.false)) in omega (arith, half.2, c.split_at_mut-low.ensures.front_len, c.split_at_mut-low.ensures.back_len)

pub forward-requires-clause-factors : goal.forward-requires-clause-factors
forward-requires-clause-factors g t c κs within = low_factors c.args.bits c.args.node c.args.values.now c.forward_butterflies.new.low c.args.twiddles.now c.requires.factors (omega (arith, c.if-bits-eq0.false)) (omega (arith, c.split_at_mut-low.ensures.front_len))

pub forward-requires-2-clause-factors : goal.forward-requires-2-clause-factors
forward-requires-2-clause-factors g t c κs within = high_factors c.args.bits c.args.node c.args.values.now c.forward_butterflies.new.high c.args.twiddles.now c.requires.factors (omega (arith, c.if-bits-eq0.false)) (omega (arith, c.split_at_mut-low.ensures.back_len))

pub returns : goal.returns
returns g t c =
    let o = g.F.Field.ops in
    let values = c.args.values.now in
    let size = length values in
    let h = size / 2 in
    let parts = halves c.args.bits size c.requires.factors.0 (omega (arith, c.if-bits-eq0.false)) in
    let old_low = c.split_at_mut-low.result.0.now in
    let old_high = c.split_at_mut-low.result.1.now in
    let twiddle = c.index-twiddles-node.result in
    let inside : c.args.node < length c.args.twiddles.now = node_within c.args.node size (length c.args.twiddles.now) (omega (arith, parts.1, parts.2, positive (c.args.bits - 1))) c.requires.factors.1 in
    let front : length old_low ≡ h = omega (arith, c.split_at_mut-low.ensures.front_len) in
    let back : length old_high ≡ h = omega (arith, parts.2, c.split_at_mut-low.ensures.back_len) in
    let low_at : (i : ℕ) → i < h → entry o old_low i ≡ entry o values i = λ i l. entry-front o values old_low h i c.split_at_mut-low.ensures.front l in
    let high_at : (i : ℕ) → entry o old_high i ≡ entry o values (h + i) = λ i. entry-back o values old_high h i c.split_at_mut-low.ensures.back in
    λ at block.
    level_down g.F.Field.laws c.args.bits h at c.args.node twiddle values c.args.twiddles.now c.forward_butterflies.new.low c.forward_butterflies.new.high c.forward.new.values c.forward-2.new.values parts.0 parts.1 (omega (arith, front)) (omega (arith, back)) block
    (c.index-twiddles-node.is ∙ get_or_default c.args.twiddles.now c.args.node twiddle o.zero inside)
    (λ i l. c.forward_butterflies.ensures.lower i (omega (arith, front)) ∙ ap (λ v. o.plus v (o.times twiddle (entry o old_high i))) (low_at i l) ∙ ap (λ v. o.plus (entry o values i) (o.times twiddle v)) (high_at i))
    (λ i l. c.forward_butterflies.ensures.upper i (omega (arith, back)) ∙ ap (λ v. o.plus (o.plus v (o.times twiddle (entry o old_high i))) (entry o old_high i)) (low_at i l) ∙ ap (λ v. o.plus (o.plus (entry o values i) (o.times twiddle v)) v) (high_at i))
    (λ a low_block j l. c.forward.ensures a low_block j (omega (arith, front)))
    (λ a high_block j l. c.forward-2.ensures a high_block j (omega (arith, back)))

pub overflow_mul-node : goal.overflow_mul-node
overflow_mul-node g t c =
    let l = node_in c.args.bits c.args.node c.args.values.now c.args.twiddles.now c.requires.factors (omega (arith, c.if-bits-eq0.false)) in
    omega (arith, l, c.requires.factors.2)

pub overflow_mul-node-2 : goal.overflow_mul-node-2
overflow_mul-node-2 g t c =
    let l = node_in c.args.bits c.args.node c.args.values.now c.args.twiddles.now c.requires.factors (omega (arith, c.if-bits-eq0.false)) in
    omega (arith, l, c.requires.factors.2)

pub overflow_add-node : goal.overflow_add-node
overflow_add-node g t c =
    let l = node_in c.args.bits c.args.node c.args.values.now c.args.twiddles.now c.requires.factors (omega (arith, c.if-bits-eq0.false)) in
    omega (arith, l, c.requires.factors.2)
