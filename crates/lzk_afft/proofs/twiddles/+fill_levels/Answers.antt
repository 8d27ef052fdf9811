use Rattle.std.proofs.Common.{◌≡◌, ℕ, ◌+◌, ◌-◌, ◌*◌, ◌/◌, ◌^◌, length, take, sym, ap, ◌∙◌, arith}
use Rattle.std.proofs.lemmas.List.{get_or-take, length-take-le}
use Rattle.std.proofs.lemmas.Nat.{pow-add}
use Rattle.lzk_field.proofs.Numbering.{zero_element}
use Rattle.lzk_afft.specs.Basis.{normalized}
use Rattle.lzk_afft.proofs.Levels.{halves}
use Rattle.lzk_afft.proofs.Splits.{positive}
use Rattle.lzk_afft.proofs.Subspaces.{normalized_zero}
use Rattle.lzk_afft.proofs.TwiddleLaws.{levels_joined, normalized-bits}
use Rattle.lzk_afft.proofs.twiddles.+fill_levels.Goals as goal

pub normalize-requires-clause-images : goal.normalize-requires-clause-images
normalize-requires-clause-images g t c κs within = (omega (arith, c.requires.images, c.requires.order, c.if-from-depth.false), c.requires.are_images)

pub next_images-requires-clause-images : goal.next_images-requires-clause-images
next_images-requires-clause-images g t c κs within = (omega (arith, c.requires.images, c.requires.order, c.if-from-depth.false), c.requires.are_images)

pub fill_sums-requires-clause-whole : goal.fill_sums-requires-clause-whole
fill_sums-requires-clause-whole g t c κs within =
    let rest = c.args.depth - c.args.from - 1 in
    let scaled = c.normalize.new.scaled in
    let size = length c.args.twiddles.now in
    let half = halves (c.args.depth - c.args.from) size c.requires.whole (omega (arith, c.requires.order, c.if-from-depth.false)) in
    let short : length (take rest scaled) ≡ rest = length-take-le rest scaled (omega (arith, c.normalize.auto.scaled, c.requires.scaled)) in
    omega (arith, half.1, half.2, c.split_at_mut-low.ensures.back_len, ap (λ n. 2 ^ n) short)

pub fill_levels-requires-clause-whole : goal.fill_levels-requires-clause-whole
fill_levels-requires-clause-whole g t c κs within =
    let size = length c.args.twiddles.now in
    let half = halves (c.args.depth - c.args.from) size c.requires.whole (omega (arith, c.requires.order, c.if-from-depth.false)) in
    let less : c.args.depth - c.args.from - 1 ≡ c.args.depth - (c.args.from + 1) = omega (arith, c.requires.order) in
    omega (arith, half.1, half.2, c.split_at_mut-low.ensures.front_len, ap (λ n. 2 ^ n) less)

pub returns : goal.returns
returns g t c =
    let o = g.F.Field.ops in
    let r = g.F.Field.laws.ring in
    let point = g.F.Field.coding.element in
    let first = zero_element g.F.Field.laws.numbers in
    let depth = c.args.depth in
    let from = c.args.from in
    let rest = depth - from - 1 in
    let scaled = c.normalize.new.scaled in
    let size = length c.args.twiddles.now in
    let parts = halves (depth - from) size c.requires.whole (omega (arith, c.requires.order, c.if-from-depth.false)) in
    let half = size / 2 in
    let short : length (take rest scaled) ≡ rest = length-take-le rest scaled (omega (arith, c.normalize.auto.scaled, c.requires.scaled)) in
    let front : length c.fill_levels.new.twiddles ≡ half = omega (arith, c.split_at_mut-low.ensures.front_len, c.fill_levels.auto.twiddles) in
    let back : length c.fill_sums.new.row ≡ half = omega (arith, parts.2, c.split_at_mut-low.ensures.back_len, c.fill_sums.auto.row) in
    let h : ℕ → _ = λ n. normalized o point from (point (n * 2 ^ (from + 1))) in
    let start : 0 * 2 ^ (from + 1) ≡ 0 = omega arith in
    levels_joined o point depth from half c.fill_levels.new.twiddles c.fill_sums.new.row (omega (arith, c.requires.order, c.if-from-depth.false)) parts.1 front
    c.fill_levels.ensures
    (λ n l. c.fill_sums.ensures h
    (ap (λ m. normalized o point from (point m)) start ∙ normalized_zero o r point from 0 (positive from))
    (λ i k p q. normalized-bits o r point depth from i k first c.requires.subspace.1 (omega (arith, short)) q)
    (λ i p. get_or-take rest scaled i o.zero (omega (arith, short)) ∙ c.normalize.ensures i (omega (arith, short, c.requires.images)) ∙ ap (λ m. normalized o point from (point m)) (pow-add 2 i (from + 1)))
    n (omega (arith, back)))

pub returns-then-from-depth : goal.returns-then-from-depth
returns-then-from-depth g t c = λ b n p q. absurd (omega (arith, p, q, c.if-from-depth.true))

pub fill_levels-requires-clause-are_images : goal.fill_levels-requires-clause-are_images
fill_levels-requires-clause-are_images g t c κs within = c.next_images.ensures

pub normalize-requires-clause-few : goal.normalize-requires-clause-few
normalize-requires-clause-few g t c κs within = omega (arith, c.requires.images, c.requires.subspace.0)

pub normalize-requires-clause-scaled : goal.normalize-requires-clause-scaled
normalize-requires-clause-scaled g t c κs within = c.requires.scaled ∙ sym c.requires.images

pub next_images-requires-clause-binary : goal.next_images-requires-clause-binary
next_images-requires-clause-binary g t c κs within =
    let binary = c.requires.subspace.1 in
    record { twice = binary.twice; splits = λ b k p q. binary.splits b k (omega (arith, p, c.requires.order, c.if-from-depth.false)) q }

pub fill_levels-requires-clause-subspace : goal.fill_levels-requires-clause-subspace
fill_levels-requires-clause-subspace g t c κs within = c.requires.subspace

pub fill_levels-requires-clause-order : goal.fill_levels-requires-clause-order
fill_levels-requires-clause-order g t c κs within = omega (arith, c.requires.order, c.if-from-depth.false)

pub fill_levels-requires-clause-images : goal.fill_levels-requires-clause-images
fill_levels-requires-clause-images g t c κs within = c.next_images.auto.images ∙ c.requires.images

pub fill_levels-requires-clause-scaled : goal.fill_levels-requires-clause-scaled
fill_levels-requires-clause-scaled g t c κs within = c.normalize.auto.scaled ∙ c.requires.scaled
