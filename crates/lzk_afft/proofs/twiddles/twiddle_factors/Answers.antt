use Rattle.std.proofs.Common.{◌≡◌, ℕ, ◌+◌, ◌-◌, ◌*◌, ◌^◌, ◌++◌, List, length, take, drop, sym, ap, ◌∙◌, arith, subst}
use Rattle.std.proofs.lemmas.List.{take-append-le, take_all}
use Rattle.std.proofs.lemmas.Nat.{one_shl}
use Rattle.lzk_afft.specs.Blocks.{AreImages, AreTwiddles}
use Rattle.lzk_afft.proofs.TwiddleLaws.{levels_twiddles}
use Rattle.lzk_afft.proofs.twiddles.twiddle_factors.Goals as goal

pub returns : goal.returns
returns g c =
    let o = g.F.Field.ops in
    let point = g.F.Field.coding.element in
    let depth = c.args.depth in
    let new = c.fill_levels.new.twiddles in
    let items = c.in_ok-twiddles.twiddles.items in
    let len = c.in_ok-twiddles.twiddles.len in
    let all : len ≡ 2 ^ depth = c.in_ok-twiddles.ensures.len ∙ one_shl depth 64 (omega (arith, c.requires.subspace.0)) in
    let size : length new ≡ 2 ^ depth = omega (arith, c.fill_levels.auto.twiddles, c.deref_mut-2.ensures.len, all) in
    let same : take len (new ++ drop (length new) items) ≡ new = take-append-le len new (drop (length new) items) (omega (arith, all, size)) ∙ take_all len new (omega (arith, all, size)) in
    let none : depth - depth ≡ 0 = omega arith in
    let power : 2 ^ (depth - depth) ≡ 1 = ap (λ n. 2 ^ n) none in
    let top : 2 ^ (depth - depth) + 0 ≡ 1 = omega (arith, power) in
    let start : 0 * 2 ^ depth ≡ 0 = omega arith in
    let are_twiddles : AreTwiddles o point depth (0 * 2 ^ depth) (2 ^ (depth - depth) + 0) new = levels_twiddles o g.F.Field.laws.ring point depth new c.fill_levels.ensures depth 0 (omega arith) (omega (arith, power)) in
    subst (λ (xs : List _). (length xs ≡ 2 ^ depth) × AreTwiddles o point depth 0 1 xs) (sym same)
    (size, subst (λ (n : ℕ). AreTwiddles o point depth 0 n new) top (subst (λ (a : ℕ). AreTwiddles o point depth a (2 ^ (depth - depth) + 0) new) start are_twiddles))

pub fill_levels-requires-clause-whole : goal.fill_levels-requires-clause-whole
fill_levels-requires-clause-whole g c κs within =
    let depth = c.args.depth in
    let all = one_shl depth 64 (omega (arith, c.requires.subspace.0)) in
    let whole : depth ≡ depth - 0 = omega arith in
    c.deref_mut-2.ensures.len ∙ c.in_ok-twiddles.ensures.len ∙ all ∙ ap (λ n. 2 ^ n) whole

pub fill_levels-requires-clause-images : goal.fill_levels-requires-clause-images
fill_levels-requires-clause-images g c κs within = c.deref_mut-3.ensures.len ∙ c.in_ok-images.ensures.len

pub fill_levels-requires-clause-scaled : goal.fill_levels-requires-clause-scaled
fill_levels-requires-clause-scaled g c κs within = c.deref_mut-4.ensures.len ∙ c.in_ok-scaled.ensures.len

pub fill_levels-requires-clause-are_images : goal.fill_levels-requires-clause-are_images
fill_levels-requires-clause-are_images g c κs within =
    let new = c.set_points.new.images in
    let items = c.in_ok-images.images.items in
    let len = c.in_ok-images.images.len in
    let size : length new ≡ len = c.set_points.auto.images ∙ c.deref_mut.ensures.len in
    let same : take len (new ++ drop (length new) items) ≡ new = take-append-le len new (drop (length new) items) (omega (arith, size)) ∙ take_all len new (omega (arith, size)) in
    subst (AreImages g.F.Field.ops g.F.Field.coding.element 0) (sym (c.deref_mut-3.ensures.value ∙ same)) c.set_points.ensures

pub fill_levels-requires-clause-subspace : goal.fill_levels-requires-clause-subspace
fill_levels-requires-clause-subspace g c κs within = c.requires.subspace

pub set_points-requires-clause-few : goal.set_points-requires-clause-few
set_points-requires-clause-few g c κs within = omega (arith, c.deref_mut.ensures.len, c.in_ok-images.ensures.len, c.requires.subspace.0)
