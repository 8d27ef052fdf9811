-- A room with coefficients, and zeros after them.
use Rattle.std.specs.Prelude.{[], ◌∷◌, ◌≡◌, ◌≢◌, ◌++◌, ℕ, ◌<◌, ◌≤◌, ◌+◌, ◌-◌, ◌*◌, ◌/◌, ◌%◌, ◌^◌, Bool, true, false, ◌==◌, List, length, min, max, take}
use Rattle.std.proofs.Common.{zero, suc, refl, sym, ap, ◌∙◌, arith, subst}
use Rattle.std.proofs.lemmas.Bool.{eqb-true, eqb-false}
use Rattle.std.proofs.Math.Pow.{pow_mono}
use Rattle.std.proofs.Math.Nat.{div-add-mod, div-lt_iff_lt-mul, mod-lt, mul_comm, mul-le-mul_right}
use Rattle.std.proofs.lemmas.Nat.{pow-add, one_shl}
use Rattle.std.proofs.lemmas.List.{get_or-take, length-take-le}
use Rattle.lzk_field.specs.Ring.{Ops, RingLaws, Laws}
use Rattle.lzk_field.specs.Sums.{entry, minus}
use Rattle.lzk_field.proofs.Solve.{var, ◌⊞◌, ◌⊟◌, ◌⊠◌, solve}
use Rattle.lzk_field.proofs.EntryLaws.{entries_joined}
use Rattle.lzk_poly.specs.Products.{IsBinary}
use Rattle.lzk_field.proofs.Numbering.{zero_element}
use Rattle.lzk_afft.specs.Basis.{basis_sum, AreCoefficients}
use Rattle.lzk_afft.specs.Blocks.{AreTwiddles, HasFactors, IsBlock, IsLeastPower}
use Rattle.lzk_afft.proofs.Levels.{halves, node_within}
use Rattle.lzk_afft.proofs.Splits.{basis_sum-ext, basis_sum-cut, positive}
use Rattle.lzk_afft.proofs.TwiddleLaws.{sub_block}

module _ {A : Type 0} (o : Ops A) (r : RingLaws o) (point : ℕ → A) where
  room_cut : (room : List A) (n size : ℕ) (t : A) → n ≤ size → length room ≡ size → ((j : ℕ) → n ≤ j → j < size → entry o room j ≡ o.zero) → basis_sum o point (entry o (take n room)) (length (take n room)) t ≡ basis_sum o point (entry o room) size t
  room_cut room n size t h e none =
      ap (λ m. basis_sum o point (entry o (take n room)) m t) (length-take-le n room (omega arith))
      ∙ basis_sum-ext o r point (entry o (take n room)) (entry o room) n t (λ k l. get_or-take n room k o.zero l)
      ∙ sym (basis_sum-cut o r point (entry o room) n size t h none)

  pub room_sum : (values room : List A) (size : ℕ) (t : A) → length values ≤ size → length room ≡ size → ((j : ℕ) → length values ≤ j → j < size → entry o room j ≡ o.zero) → basis_sum o point (entry o (take (length values) room)) (length (take (length values) room)) t ≡ basis_sum o point (entry o room) size t
  room_sum values room size t h e none = room_cut room (length values) size t h e none

  pub room_coefficients : (values room : List A) (size : ℕ) → length values ≤ size → length room ≡ size → ((j : ℕ) → length values ≤ j → j < size → entry o room j ≡ o.zero) → ((j : ℕ) → j < length values → basis_sum o point (entry o room) size (point j) ≡ entry o values j) → AreCoefficients o point values (take (length values) room)
  room_coefficients values room size h e none meets = record {
    count = length-take-le (length values) room (omega arith);
    meets = λ i l. room_cut room (length values) size (point i) h e none ∙ meets i l;
  }

module _ {A : Type 0} {o : Ops A} {size : ℕ} {number_of : A → ℕ} {element : ℕ → A} {bytes : ℕ} (laws : Laws o size number_of element bytes) where
  -- the block of all points that twiddle factors are for
  pub whole_block : (depth : ℕ) (twiddles : List A) → depth ≤ 16 → IsBinary o element depth → AreTwiddles o element depth 0 1 twiddles → IsBlock o element depth 0 1 twiddles
  whole_block depth twiddles few binary are_twiddles = record {
    few = few;
    binary = binary;
    aligned = λ k h. ap element (omega arith) ∙ sym (ap (λ v. o.plus v (element k)) (zero_element laws.numbers) ∙ laws.ring.plus_comm _ _ ∙ laws.ring.plus_zero _);
    are_twiddles = are_twiddles;
  }

  -- a block of the size of a transform
  pub block_at : (bits depth c : ℕ) (twiddles : List A) → bits ≤ depth → IsBlock o element depth 0 1 twiddles → c < 2 ^ (depth - bits) → IsBlock o element bits (c * 2 ^ bits) (2 ^ (depth - bits) + c) twiddles
  block_at bits depth c twiddles order whole h =
      let d = depth - bits in
      let place : depth ≡ d + bits = omega arith in
      let node : 1 * 2 ^ d + c ≡ 2 ^ d + c = omega arith in
      let spot : 0 + c * 2 ^ bits ≡ c * 2 ^ bits = omega arith in
      subst (λ (a : ℕ). IsBlock o element bits a (2 ^ d + c) twiddles) spot
      (subst (λ (n : ℕ). IsBlock o element bits (0 + c * 2 ^ bits) n twiddles) node
      (sub_block o laws.ring element d bits 0 1 c twiddles (subst (λ (n : ℕ). IsBlock o element n 0 1 twiddles) place whole) h))

-- which block a point is in
pub block_within : (bits depth from size : ℕ) → bits ≤ depth → size ≡ 2 ^ bits → from < 2 ^ depth → from / size < 2 ^ (depth - bits)
block_within bits depth from size order e h =
    let place : depth ≡ depth - bits + bits = omega arith in
    let whole : 2 ^ depth ≡ 2 ^ (depth - bits) * 2 ^ bits = ap (λ n. 2 ^ n) place ∙ pow-add 2 (depth - bits) bits in
    let some : 0 < size = omega (arith, e, positive bits) in
    (div-lt_iff_lt-mul some).1 (omega (arith, whole, ap (λ n. 2 ^ (depth - bits) * n) e))

pub node_room : (bits depth block size : ℕ) → bits ≤ depth → size ≡ 2 ^ bits → block < 2 ^ (depth - bits) → (2 ^ (depth - bits) + block + 1) * size ≤ 2 * 2 ^ depth
node_room bits depth block size order e h =
    let d = 2 ^ (depth - bits) in
    let place : depth ≡ depth - bits + bits = omega arith in
    let whole : 2 ^ depth ≡ d * 2 ^ bits = ap (λ n. 2 ^ n) place ∙ pow-add 2 (depth - bits) bits in
    let most : d + block + 1 ≤ d + d = omega arith in
    omega (arith, whole, ap (λ n. d * n) e, mul-le-mul_right size most)

pub least_power : (n bits : ℕ) → n ≤ 2 ^ bits → ((b : ℕ) → n ≤ 2 ^ b → bits ≤ b) → IsLeastPower n (2 ^ bits)
least_power n bits enough least = record { bits = bits; power = refl; enough = enough; least = λ b h. pow_mono {i = bits} {j = b} (least b h) }

-- the first block, and its node as the code computes it
first_room : (bits depth size : ℕ) → bits ≤ depth → depth ≤ 16 → size ≡ 2 ^ bits → (1 * 2 ^ (depth - bits) % 18446744073709551616 + 1) * size ≤ 2 * 2 ^ depth
first_room bits depth size order few e =
    let power : 1 * 2 ^ (depth - bits) % 18446744073709551616 ≡ 2 ^ (depth - bits) = one_shl (depth - bits) 64 (omega arith) in
    let none : 2 ^ (depth - bits) + 0 + 1 ≡ 1 * 2 ^ (depth - bits) % 18446744073709551616 + 1 = omega (arith, power) in
    subst (λ (n : ℕ). n * size ≤ 2 * 2 ^ depth) none (node_room bits depth 0 size order e (positive (depth - bits)))

-- a list of all twiddle factors is not too long
pub full_few : {A : Type 0} (depth : ℕ) (twiddles : List A) → depth ≤ 16 → length twiddles ≡ 2 ^ depth → length twiddles ≤ 65536
full_few depth twiddles few full = let most : 2 ^ depth ≤ 2 ^ 16 = pow_mono {i = depth} {j = 16} few in omega (arith, most, full)

pub first_factors : {A : Type 0} (bits depth : ℕ) (room twiddles : List A) → bits ≤ depth → depth ≤ 16 → length room ≡ 2 ^ bits → length twiddles ≡ 2 ^ depth
    → HasFactors bits (1 * 2 ^ (depth - bits) % 18446744073709551616) room twiddles
first_factors bits depth room twiddles order few whole full = (whole, omega (arith, full, first_room bits depth (length room) order few whole), full_few depth twiddles few full)

module _ {A : Type 0} {o : Ops A} {size : ℕ} {number_of : A → ℕ} {element : ℕ → A} {bytes : ℕ} (laws : Laws o size number_of element bytes) where
  pub first_block : (bits depth : ℕ) (twiddles : List A) → bits ≤ depth → depth ≤ 16 → IsBlock o element depth 0 1 twiddles → IsBlock o element bits 0 (1 * 2 ^ (depth - bits) % 18446744073709551616) twiddles
  first_block bits depth twiddles order few whole =
      let power : 1 * 2 ^ (depth - bits) % 18446744073709551616 ≡ 2 ^ (depth - bits) = one_shl (depth - bits) 64 (omega arith) in
      let node : 2 ^ (depth - bits) + 0 ≡ 1 * 2 ^ (depth - bits) % 18446744073709551616 = omega (arith, power) in
      let start : 0 * 2 ^ bits ≡ 0 = omega arith in
      subst (λ (n : ℕ). IsBlock o element bits 0 n twiddles) node
      (subst (λ (a : ℕ). IsBlock o element bits a (2 ^ (depth - bits) + 0) twiddles) start (block_at laws bits depth 0 twiddles order whole (positive (depth - bits))))

-- where some but not all places of a block are written it has more than one
pub several : (bits size n : ℕ) → size ≡ 2 ^ bits → 0 < n → n ≤ size → n ≢ size → 0 < bits
several zero size n e some most differ = absurd (differ (omega (arith, e)))
several (suc bits) size n e some most differ = omega arith

module _ {A : Type 0} (o : Ops A) (r : RingLaws o) where
  -- halves that are split and joined again
  pub restored : (half : ℕ) (twiddle : A) (room low high mid_low mid_high new_low new_high last_low last_high : List A) → length last_low ≡ half → length last_high ≡ half
      → ((i : ℕ) → i < half → entry o low i ≡ entry o room i) → ((i : ℕ) → i < half → entry o high i ≡ entry o room (half + i))
      → ((i : ℕ) → i < half → entry o mid_low i ≡ o.plus (entry o low i) (o.times twiddle (entry o high i)))
      → ((i : ℕ) → i < half → entry o mid_high i ≡ o.plus (o.plus (entry o low i) (o.times twiddle (entry o high i))) (entry o high i))
      → ((i : ℕ) → i < half → entry o new_low i ≡ entry o mid_low i) → ((i : ℕ) → i < half → entry o new_high i ≡ entry o mid_high i)
      → ((i : ℕ) → i < half → entry o last_high i ≡ minus o (entry o new_high i) (entry o new_low i))
      → ((i : ℕ) → i < half → entry o last_low i ≡ minus o (entry o new_low i) (o.times twiddle (entry o last_high i)))
      → (k : ℕ) → k < length (last_low ++ last_high) → entry o (last_low ++ last_high) k ≡ entry o room k
  restored half twiddle room low high mid_low mid_high new_low new_high last_low last_high front back lows highs mids ups same_low same_high lasts firsts =
      let L = var 0 in let H = var 1 in let F = var 2 in
      let low_is : (i : ℕ) → i < half → entry o new_low i ≡ o.plus (entry o low i) (o.times twiddle (entry o high i)) = λ i l. same_low i l ∙ mids i l in
      let high_is : (i : ℕ) → i < half → entry o last_high i ≡ entry o high i =
      λ i l. lasts i l ∙ ap (λ v. minus o v (entry o new_low i)) (same_high i l ∙ ups i l) ∙ ap (minus o (o.plus (o.plus (entry o low i) (o.times twiddle (entry o high i))) (entry o high i))) (low_is i l)
      ∙ solve o r (entry o low i ∷ entry o high i ∷ twiddle ∷ []) (((L ⊞ F ⊠ H) ⊞ H) ⊟ (L ⊞ F ⊠ H)) H refl in
      entries_joined o (λ k y. y ≡ entry o room k) last_low last_high
      (λ i h. let l : i < half = omega arith in
      firsts i l ∙ ap (λ v. minus o v (o.times twiddle (entry o last_high i))) (low_is i l) ∙ ap (λ v. minus o (o.plus (entry o low i) (o.times twiddle (entry o high i))) (o.times twiddle v)) (high_is i l)
      ∙ solve o r (entry o low i ∷ entry o high i ∷ twiddle ∷ []) ((L ⊞ F ⊠ H) ⊟ F ⊠ H) L refl ∙ lows i l)
      (λ i h. let l : i < half = omega arith in high_is i l ∙ highs i l ∙ ap (λ n. entry o room (n + i)) (sym front))

-- what a test for emptiness says
pub empty_none : (r : Bool) (n : ℕ) → r ≡ (n == 0) → r ≡ true → n ≡ 0
empty_none r n e t = eqb-true n 0 (sym e ∙ t)

pub filled_some : (r : Bool) (n : ℕ) → r ≡ (n == 0) → r ≡ false → 0 < n
filled_some r n e f = let differ : n ≡ 0 → ⊥ = eqb-false n 0 (sym e ∙ f) in omega (arith, differ)

-- what is skipped of a block is less than a block
pub rest_small : (from size : ℕ) → 0 < size → from - from / size * size < size
rest_small from size h = omega (arith, div-add-mod from size, mul_comm (from / size) size, mod-lt from {m = size} h)

-- the node of a block of several points is a place of the twiddle factors
pub node_in : {A : Type 0} (bits node : ℕ) (values twiddles : List A) → HasFactors bits node values twiddles → 0 < bits → node < length twiddles
node_in bits node values twiddles factors h =
    let half = halves bits (length values) factors.0 h in
    node_within node (length values) (length twiddles) (omega (arith, half.1, half.2, positive (bits - 1))) factors.1

-- Of so many points after those that are skipped, the ones before lie in the lower half, and the others in the upper.
pub lower_inside : (out half skip lowest before : ℕ) → lowest ≡ min skip half → before ≡ min out (half - lowest) → lowest + before ≤ half
lower_inside out half skip lowest before e f = omega (arith, e, f)

pub upper_inside : (size out half skip lowest before highest : ℕ) → lowest ≡ min skip half → before ≡ min out (half - lowest) → highest ≡ max skip half → skip + out ≤ size → highest - half + (out - before) ≤ size - half
upper_inside size out half skip lowest before highest e f g h = omega (arith, e, f, g, h)

pub lower_skip : (k out half skip lowest before again : ℕ) → lowest ≡ min skip half → before ≡ min out (half - lowest) → again ≡ min skip half → k < before → again ≡ skip
lower_skip k out half skip lowest before again e f g h = omega (arith, e, f, g, h)

pub upper_place : (at k out half skip lowest before highest : ℕ) → lowest ≡ min skip half → before ≡ min out (half - lowest) → highest ≡ max skip half → k < out - before → at + half + (highest - half + k) ≡ at + (skip + (before + k))
upper_place at k out half skip lowest before highest e f g h = omega (arith, e, f, g, h)

-- their places in the halves
pub lower_reached : (k half lowest before again : ℕ) → lowest + before ≤ half → again ≡ lowest → k < before → again + k < half
lower_reached k half lowest before again e f g = omega (arith, e, f, g)

pub upper_reached : (k size out half before highest : ℕ) → highest - half + (out - before) ≤ size - half → k < out - before → size ≡ half + half → highest - half + k < half
upper_reached k size out half before highest e f g = omega (arith, e, f, g)
