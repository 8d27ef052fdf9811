use Rattle.std.proofs.Common.{◌≡◌, ℕ, ◌+◌, ◌-◌, ◌/◌, ◌≤◌, suc, length, ap, ◌∙◌, arith, sym, subst}
use Rattle.lzk_field.specs.Sums.{entry}
use Rattle.lzk_poly.specs.Products.{spread, IsAligned, IsBinary}
use Rattle.lzk_poly.proofs.BinaryProducts.{fill_high, fill_low, fill_whole, halves, high_block, low_block}
use Rattle.lzk_field.proofs.Numbering.{zero_element}
use Rattle.lzk_field.proofs.EntryLaws.{entries_joined}
use Rattle.lzk_poly.proofs.binary.+fill.Goals as goal

pub returns-then-count-eq0 : goal.returns-then-count-eq0
returns-then-count-eq0 g t c =
    let m = g.F.Field in
    let o = m.ops in
    let scale = c.args.scale in
    let none : 0 ≡ c.args.count = omega (arith, c.if-count-eq0.true) in
    λ h running inverted i l. c.set_all.ensures i l ∙ sym (m.laws.ring.times_one scale) ∙ ap (λ n. o.times scale (spread o h m.coding.element n (m.coding.element (c.args.base + i)))) none

pub returns-then-count-size : goal.returns-then-count-size
returns-then-count-size g t c =
    let m = g.F.Field in
    let a = c.args in
    let b = c.requires.block in
    λ h running inverted i l.
    c.set_all-then-count-size.ensures i l
    ∙ fill_whole m.ops m.laws.ring m.coding.element h a.bits a.base a.count (length a.out.now) i a.scale c.with_block.result (zero_element m.laws.numbers) c.requires.whole b.binary b.aligned c.if-count-size.true
    (omega (arith, l, c.set_all-then-count-size.auto.out)) (c.with_block.ensures (λ k. h (m.coding.element k)) running inverted)

pub returns-then-count-half : goal.returns-then-count-half
returns-then-count-half g t c =
    let m = g.F.Field in
    let o = m.ops in
    let a = c.args in
    let low = c.fill.new.out in
    let high = c.fill-then-count-half.new.out in
    let half = length a.out.now / 2 in
    let front : length low ≡ half = c.fill.auto.out ∙ c.split_at_mut-low.ensures.front_len in
    λ h running inverted.
    entries_joined o (λ i y. y ≡ o.times a.scale (spread o h m.coding.element a.count (m.coding.element (a.base + i)))) low high
    (c.fill.ensures h running inverted)
    (λ i l. let place : a.base + half + i ≡ a.base + (length low + i) = omega (arith, front) in
    c.fill-then-count-half.ensures h running inverted i l ∙ ap (λ k. o.times a.scale (spread o h m.coding.element a.count (m.coding.element k))) place)

pub returns-else-count-half : goal.returns-else-count-half
returns-else-count-half g t c =
    let m = g.F.Field in
    let o = m.ops in
    let a = c.args in
    let bits = a.bits in
    let base = a.base in
    let size = length a.out.now in
    let half = size / 2 in
    let low = c.fill-else-count-half.new.out in
    let high = c.fill-else-count-half-2.new.out in
    let parts = halves bits size c.requires.whole (omega (arith, c.if-count-eq0.false, c.if-count-size.false, c.requires.few)) in
    let binary : IsBinary o m.coding.element (suc (bits - 1)) = subst (IsBinary o m.coding.element) (sym parts.0) c.requires.block.binary in
    let aligned : IsAligned o m.coding.element (suc (bits - 1)) base = subst (λ (n : ℕ). IsAligned o m.coding.element n base) (sym parts.0) c.requires.block.aligned in
    let front : length low ≡ half = c.fill-else-count-half.auto.out ∙ c.split_at_mut-low.ensures.front_len in
    let back : length high ≡ half = omega (arith, parts.2, c.fill-else-count-half-2.auto.out, c.split_at_mut-low.ensures.back_len) in
    let over : half ≤ a.count = omega (arith, c.if-count-half.false) in
    let within : a.count ≤ half + half = omega (arith, parts.2, c.requires.few) in
    λ h running inverted.
    entries_joined o (λ i y. y ≡ o.times a.scale (spread o h m.coding.element a.count (m.coding.element (base + i)))) low high
    (λ i l. fill_low o m.laws.ring m.coding.element h (bits - 1) base a.count half i a.scale c.with_block-near.result (entry o low i) (zero_element m.laws.numbers) parts.1 binary aligned over within (omega (arith, front, l))
    (c.with_block-near.ensures (λ k. h (m.coding.element k)) running inverted) (c.fill-else-count-half.ensures h running inverted i l))
    (λ i l. let place : base + half + i ≡ base + (length low + i) = omega (arith, front) in
    fill_high o m.laws.ring m.coding.element h (bits - 1) base a.count half i a.scale c.with_block-far.result (entry o high i) (zero_element m.laws.numbers) parts.1 binary aligned over within (omega (arith, back, l))
    (c.with_block-far.ensures (λ k. h (m.coding.element k)) running inverted) (c.fill-else-count-half-2.ensures h running inverted i l)
    ∙ ap (λ k. o.times a.scale (spread o h m.coding.element a.count (m.coding.element k))) place)

pub split_at_mut-low-requires : goal.split_at_mut-low-requires
split_at_mut-low-requires g t c = omega arith

pub fill-requires-clause-block : goal.fill-requires-clause-block
fill-requires-clause-block g t c κs within = let m = g.F.Field in low_block m.ops m.laws.ring m.coding.element c.args.bits c.args.base (length c.args.table.now.running.now) (length c.args.out.now) c.requires.whole (omega (arith, c.if-count-eq0.false, c.if-count-size.false, c.requires.few)) c.requires.block

pub fill-requires-then-count-half-clause-block : goal.fill-requires-then-count-half-clause-block
fill-requires-then-count-half-clause-block g t c κs within = let m = g.F.Field in high_block m.ops m.laws.ring m.coding.element c.args.bits c.args.base (length c.args.table.now.running.now) (length c.args.out.now) c.requires.whole (omega (arith, c.if-count-eq0.false, c.if-count-size.false, c.requires.few)) c.requires.block

pub fill-requires-else-count-half-clause-block : goal.fill-requires-else-count-half-clause-block
fill-requires-else-count-half-clause-block g t c κs within = let m = g.F.Field in high_block m.ops m.laws.ring m.coding.element c.args.bits c.args.base (length c.args.table.now.running.now) (length c.args.out.now) c.requires.whole (omega (arith, c.if-count-eq0.false, c.if-count-size.false, c.requires.few)) c.requires.block

pub fill-requires-else-count-half-2-clause-block : goal.fill-requires-else-count-half-2-clause-block
fill-requires-else-count-half-2-clause-block g t c κs within = let m = g.F.Field in low_block m.ops m.laws.ring m.coding.element c.args.bits c.args.base (length c.args.table.now.running.now) (length c.args.out.now) c.requires.whole (omega (arith, c.if-count-eq0.false, c.if-count-size.false, c.requires.few)) c.requires.block

pub fill-requires-clause-whole : goal.fill-requires-clause-whole
fill-requires-clause-whole g t c κs within = c.split_at_mut-low.ensures.front_len ∙ (halves c.args.bits (length c.args.out.now) c.requires.whole (omega (arith, c.if-count-eq0.false, c.if-count-size.false, c.requires.few))).1

pub fill-requires-else-count-half-clause-whole : goal.fill-requires-else-count-half-clause-whole
fill-requires-else-count-half-clause-whole g t c κs within = c.split_at_mut-low.ensures.front_len ∙ (halves c.args.bits (length c.args.out.now) c.requires.whole (omega (arith, c.if-count-eq0.false, c.if-count-size.false, c.requires.few))).1

pub fill-requires-then-count-half-clause-whole : goal.fill-requires-then-count-half-clause-whole
fill-requires-then-count-half-clause-whole g t c κs within = let parts = halves c.args.bits (length c.args.out.now) c.requires.whole (omega (arith, c.if-count-eq0.false, c.if-count-size.false, c.requires.few)) in omega (arith, parts.1, parts.2, c.split_at_mut-low.ensures.back_len)

pub fill-requires-else-count-half-2-clause-whole : goal.fill-requires-else-count-half-2-clause-whole
fill-requires-else-count-half-2-clause-whole g t c κs within = let parts = halves c.args.bits (length c.args.out.now) c.requires.whole (omega (arith, c.if-count-eq0.false, c.if-count-size.false, c.requires.few)) in omega (arith, parts.1, parts.2, c.split_at_mut-low.ensures.back_len)

pub fill-requires-clause-few : goal.fill-requires-clause-few
fill-requires-clause-few g t c κs within = omega (arith, c.if-count-half.true, c.split_at_mut-low.ensures.front_len)

pub fill-requires-then-count-half-clause-few : goal.fill-requires-then-count-half-clause-few
fill-requires-then-count-half-clause-few g t c κs within = omega (arith, c.if-count-half.true, (halves c.args.bits (length c.args.out.now) c.requires.whole (omega (arith, c.if-count-eq0.false, c.if-count-size.false, c.requires.few))).2, c.split_at_mut-low.ensures.back_len)

pub fill-requires-else-count-half-clause-few : goal.fill-requires-else-count-half-clause-few
fill-requires-else-count-half-clause-few g t c κs within = omega (arith, c.requires.few, (halves c.args.bits (length c.args.out.now) c.requires.whole (omega (arith, c.if-count-eq0.false, c.if-count-size.false, c.requires.few))).2, c.split_at_mut-low.ensures.front_len)

pub fill-requires-else-count-half-2-clause-few : goal.fill-requires-else-count-half-2-clause-few
fill-requires-else-count-half-2-clause-few g t c κs within = omega (arith, c.requires.few, (halves c.args.bits (length c.args.out.now) c.requires.whole (omega (arith, c.if-count-eq0.false, c.if-count-size.false, c.requires.few))).2, c.split_at_mut-low.ensures.back_len)

pub overflow_sub-count : goal.overflow_sub-count
overflow_sub-count g t c = omega (arith, c.if-count-half.false)

pub overflow_sub-count-else-count-half : goal.overflow_sub-count-else-count-half
overflow_sub-count-else-count-half g t c = omega (arith, c.if-count-half.false)
