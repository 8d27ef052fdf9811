use Rattle.std.proofs.Common.{◌≡◌, ℕ, ◌+◌, ◌-◌, ◌/◌, ◌<◌, ◌^◌, length, take, sym, ap, ◌∙◌, arith, slice_set, get_or-set_same}
use Rattle.std.proofs.Math.ListN.{length-set}
use Rattle.lzk_afft.proofs.Rooms.{empty_none, filled_some}
use Rattle.lzk_afft.proofs.Splits.{positive}
use Rattle.std.proofs.lemmas.List.{get_or_default, get_or-take, length-take-le}
use Rattle.lzk_field.specs.Sums.{entry}
use Rattle.lzk_field.proofs.EntryLaws.{entries_joined}
use Rattle.lzk_afft.proofs.Levels.{halves}
use Rattle.lzk_afft.proofs.twiddles.+fill_sums.Goals as goal

pub returns : goal.returns
returns g t c =
    let o = g.F.Field.ops in
    let images = c.args.images.now in
    let n = length images in
    let size = length c.args.row.now in
    let half = size / 2 in
    let low = c.fill_sums.new.row in
    let high = c.shifted.new.high in
    let last = n - 1 in
    let by = c.index-images-last.result in
    let some = filled_some c.is_empty.result n c.is_empty.ensures c.if-is_empty.false in
    let parts = halves n size c.requires.whole some in
    let front : length low ≡ half = omega (arith, c.split_at_mut-low.ensures.front_len, c.fill_sums.auto.row) in
    let back : length high ≡ half = omega (arith, parts.2, c.split_at_mut-low.ensures.back_len, c.shifted.auto.high) in
    let short : length (take last images) ≡ last = length-take-le last images (omega (arith, some)) in
    λ h none bits are.
    let low_is : (i : ℕ) → i < half → entry o low i ≡ h i =
    λ i l. c.fill_sums.ensures h none (λ j k p q. bits j k (omega (arith, short)) q) (λ j p. get_or-take last images j o.zero (omega (arith, short)) ∙ are j (omega (arith, short))) i (omega (arith, front)) in
    entries_joined o (λ i y. y ≡ h i) low high
    (λ i l. low_is i (omega (arith, front)))
    (λ i l.
    let there : i < half = omega (arith, back) in
    let power : 2 ^ last ≡ length low = omega (arith, front, parts.1) in
    c.shifted.ensures i l ∙ ap (o.plus by) (low_is i there)
    ∙ ap (λ v. o.plus v (h i)) (c.index-images-last.is ∙ get_or_default images last by o.zero (omega (arith, some)) ∙ are last (omega (arith, some)))
    ∙ sym (bits last i (omega (arith, some)) (omega (arith, there, parts.1))) ∙ ap (λ m. h (m + i)) power)

pub returns-then-is_empty : goal.returns-then-is_empty
returns-then-is_empty g t c =
    let o = g.F.Field.ops in
    let row = c.args.row.now in
    let zero = c.zero.result in
    let one : length row ≡ 1 = c.requires.whole ∙ ap (λ n. 2 ^ n) (empty_none c.is_empty.result (length c.args.images.now) c.is_empty.ensures c.if-is_empty.true) in
    λ h none bits are i l.
    let first : i ≡ 0 = omega (arith, l, one, length-set row 0 zero) in
    ap (entry o (slice_set row 0 zero)) first ∙ get_or-set_same row 0 zero o.zero (omega (arith, one)) ∙ c.zero.ensures ∙ sym none ∙ ap h (sym first)

pub bounds-row-0 : goal.bounds-row-0
bounds-row-0 g t c = omega (arith, c.requires.whole, positive (length c.args.images.now))

pub fill_sums-requires-clause-whole : goal.fill_sums-requires-clause-whole
fill_sums-requires-clause-whole g t c κs within =
    let images = c.args.images.now in
    let n = length images in
    let some = filled_some c.is_empty.result n c.is_empty.ensures c.if-is_empty.false in
    let parts = halves n (length c.args.row.now) c.requires.whole some in
    let short : length (take (n - 1) images) ≡ n - 1 = length-take-le (n - 1) images (omega (arith, some)) in
    c.split_at_mut-low.ensures.front_len ∙ parts.1 ∙ ap (λ k. 2 ^ k) (sym short)

pub shifted-requires-after_bounds : goal.shifted-requires-after_bounds
shifted-requires-after_bounds g t c = λ κs le.
    let n = length c.args.images.now in
    let some = filled_some c.is_empty.result n c.is_empty.ensures c.if-is_empty.false in
    let parts = halves n (length c.args.row.now) c.requires.whole some in
    omega (arith, parts.2, c.fill_sums.auto.row, c.split_at_mut-low.ensures.front_len, c.split_at_mut-low.ensures.back_len)
