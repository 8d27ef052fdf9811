-- One level of a transform, on lists.
use Rattle.std.specs.Prelude.{◌≡◌, ℕ, ◌<◌, ◌≤◌, ◌+◌, ◌-◌, ◌/◌, ◌^◌, List, ◌++◌, length, take, drop}
use Rattle.std.proofs.Common.{zero, suc, sym, ap, ◌∙◌, arith, subst}
use Rattle.std.proofs.lemmas.List.{get_or-take, get_or-drop}
use Rattle.lzk_field.specs.Ring.{Ops, RingLaws}
use Rattle.lzk_field.specs.Sums.{power, minus, entry}
use Rattle.lzk_field.proofs.EntryLaws.{entries_joined}
use Rattle.lzk_poly_ntt.specs.Transform.{spectrum, doubled, AreTwiddles, IsRoot}
use Rattle.lzk_poly_ntt.proofs.RootLaws.{twice_power, root-lower}
use Rattle.lzk_poly_ntt.proofs.Transforms.{sums, twiddled, spectrum-low, spectrum-high, spectrum-ext, spectrum-single, joined_low, joined_high, inverse-square}

pub power_positive : (k : ℕ) → 1 ≤ 2 ^ k
power_positive zero = omega arith
power_positive (suc k) = omega (arith, twice_power k, power_positive k)

-- the halves of a power of two
pub halves : (bits size : ℕ) → size ≡ 2 ^ bits → 0 < bits → (suc (bits - 1) ≡ bits) × (size / 2 ≡ 2 ^ (bits - 1)) × (size ≡ size / 2 + size / 2)
halves zero size e h = absurd (omega arith)
halves (suc b) size e h =
    let double = twice_power b in
    let less : suc b - 1 ≡ b = omega arith in
    let half : size / 2 ≡ 2 ^ b = omega (arith, e, double) in
    (omega arith, half ∙ ap (λ n. 2 ^ n) (sym less), omega (arith, e, double, half))

module _ {A : Type 0} (o : Ops A) where
  -- an entry of a part of a list
  pub entry-part : (xs : List A) (a n k : ℕ) → k < n → entry o (take n (drop a xs)) k ≡ entry o xs (a + k)
  entry-part xs a n k h = get_or-take n (drop a xs) k o.zero h ∙ get_or-drop a xs k o.zero

  pub entry-front : (xs front : List A) (n k : ℕ) → front ≡ take n xs → k < n → entry o front k ≡ entry o xs k
  entry-front xs front n k e h = ap (λ zs. entry o zs k) e ∙ get_or-take n xs k o.zero h

  pub entry-back : (xs rest : List A) (n k : ℕ) → rest ≡ drop n xs → entry o rest k ≡ entry o xs (n + k)
  entry-back xs rest n k e = ap (λ zs. entry o zs k) e ∙ get_or-drop n xs k o.zero

module _ {A : Type 0} (o : Ops A) (r : RingLaws o) where
  open o use {plus, times}

  -- down: from the entries to sums and differences of the halves, and from these the transforms of half the size
  pub level_down : (bits size half : ℕ) (w : A) (values ts low high new_low new_high : List A)
      → suc (bits - 1) ≡ bits → half ≡ 2 ^ (bits - 1) → length new_low ≡ half → length new_high ≡ half
      → IsRoot o bits w → AreTwiddles o bits w ts
      → ((i : ℕ) → i < half → entry o low i ≡ plus (entry o values i) (entry o values (half + i)))
      → ((i : ℕ) → i < half → entry o high i ≡ times (minus o (entry o values i) (entry o values (half + i))) (entry o ts (half + i)))
      → ((v : A) → IsRoot o (bits - 1) v → AreTwiddles o (bits - 1) v ts → (j : ℕ) → j < half → entry o new_low j ≡ spectrum o (bits - 1) v (entry o low) j)
      → ((v : A) → IsRoot o (bits - 1) v → AreTwiddles o (bits - 1) v ts → (j : ℕ) → j < half → entry o new_high j ≡ spectrum o (bits - 1) v (entry o high) j)
      → (j : ℕ) → j < length (new_low ++ new_high) → entry o (new_low ++ new_high) j ≡ spectrum o bits w (entry o values) j
  level_down bits size half w values ts low high new_low new_high again is_half front back root twiddles lows highs first second =
      let k = bits - 1 in
      let x : ℕ → A = entry o values in
      let root_too : IsRoot o (suc k) w = subst (λ (b : ℕ). IsRoot o b w) (sym again) root in
      let twiddles_too : AreTwiddles o (suc k) w ts = subst (λ (b : ℕ). AreTwiddles o b w ts) (sym again) twiddles in
      let lower = root-lower o r k w root_too in
      let place : (i : ℕ) → x (half + i) ≡ x (2 ^ k + i) = λ i. ap (λ n. x (n + i)) is_half in
      entries_joined o (λ j y. y ≡ spectrum o bits w x j) new_low new_high
      (λ j h.
      first (times w w) lower twiddles_too.1 j (omega arith)
      ∙ spectrum-ext o r k (times w w) (entry o low) (sums o r k x) j (λ i l. lows i (omega (arith, is_half)) ∙ ap (plus (x i)) (place i))
      ∙ sym (spectrum-low o r k w x j root_too (omega (arith, is_half)))
      ∙ ap (λ b. spectrum o b w x j) again)
      (λ j h.
      let at : 2 ^ k + j ≡ length new_low + j = omega (arith, is_half) in
      second (times w w) lower twiddles_too.1 j (omega arith)
      ∙ spectrum-ext o r k (times w w) (entry o high) (twiddled o r k w x) j
      (λ i l. highs i (omega (arith, is_half)) ∙ ap (λ v. times (minus o (x i) v) (entry o ts (half + i))) (place i)
      ∙ ap (times (minus o (x i) (x (2 ^ k + i)))) (ap (λ n. entry o ts (n + i)) is_half ∙ twiddles_too.0 i l))
      ∙ sym (spectrum-high o r k w x j root_too)
      ∙ ap (λ b. spectrum o b w x (2 ^ k + j)) again ∙ ap (spectrum o bits w x) at)

  -- up: from the transforms of half the size to sums and differences, and from these to the entries
  pub level_up : (bits half : ℕ) (w v : A) (x : ℕ → A) (values ts low high old_low old_high new_low new_high : List A)
      → suc (bits - 1) ≡ bits → half ≡ 2 ^ (bits - 1) → length new_low ≡ half → length new_high ≡ half
      → IsRoot o bits w → times w v ≡ o.one → AreTwiddles o bits v ts
      → ((j : ℕ) → j < half + half → entry o values j ≡ spectrum o bits w x j)
      → ((j : ℕ) → j < half → entry o old_low j ≡ entry o values j)
      → ((j : ℕ) → j < half → entry o old_high j ≡ entry o values (half + j))
      → ((w v : A) → (x : ℕ → A) → IsRoot o (bits - 1) w → times w v ≡ o.one → AreTwiddles o (bits - 1) v ts → ((j : ℕ) → j < half → entry o old_low j ≡ spectrum o (bits - 1) w x j) → (i : ℕ) → i < half → entry o low i ≡ times (doubled o (bits - 1)) (x i))
      → ((w v : A) → (x : ℕ → A) → IsRoot o (bits - 1) w → times w v ≡ o.one → AreTwiddles o (bits - 1) v ts → ((j : ℕ) → j < half → entry o old_high j ≡ spectrum o (bits - 1) w x j) → (i : ℕ) → i < half → entry o high i ≡ times (doubled o (bits - 1)) (x i))
      → ((i : ℕ) → i < half → entry o new_low i ≡ plus (entry o low i) (times (entry o high i) (entry o ts (half + i))))
      → ((i : ℕ) → i < half → entry o new_high i ≡ minus o (entry o low i) (times (entry o high i) (entry o ts (half + i))))
      → (i : ℕ) → i < length (new_low ++ new_high) → entry o (new_low ++ new_high) i ≡ times (doubled o bits) (x i)
  level_up bits half w v x values ts low high old_low old_high new_low new_high again is_half front back root inverse twiddles known fronts backs first second lows highs =
      let k = bits - 1 in
      let d = doubled o k in
      let root_too : IsRoot o (suc k) w = subst (λ (b : ℕ). IsRoot o b w) (sym again) root in
      let twiddles_too : AreTwiddles o (suc k) v ts = subst (λ (b : ℕ). AreTwiddles o b v ts) (sym again) twiddles in
      let lower = root-lower o r k w root_too in
      let square = inverse-square o r w v inverse in
      let power_at : (i : ℕ) → i < half → entry o ts (half + i) ≡ power o v i = λ i l. ap (λ n. entry o ts (n + i)) is_half ∙ twiddles_too.0 i (omega (arith, is_half)) in
      let low_is : (i : ℕ) → i < half → entry o low i ≡ times d (sums o r k x i) =
      first (times w w) (times v v) (sums o r k x) lower square twiddles_too.1
      (λ j l. fronts j l ∙ known j (omega arith) ∙ ap (λ b. spectrum o b w x j) (sym again) ∙ spectrum-low o r k w x j root_too (omega (arith, is_half))) in
      let high_is : (i : ℕ) → i < half → entry o high i ≡ times d (twiddled o r k w x i) =
      second (times w w) (times v v) (twiddled o r k w x) lower square twiddles_too.1
      (λ j l. let at : half + j ≡ 2 ^ k + j = omega (arith, is_half) in
      backs j l ∙ known (half + j) (omega arith) ∙ ap (λ b. spectrum o b w x (half + j)) (sym again) ∙ ap (spectrum o (suc k) w x) at ∙ spectrum-high o r k w x j root_too) in
      let twice : doubled o (suc k) ≡ doubled o bits = ap (doubled o) again in
      entries_joined o (λ i y. y ≡ times (doubled o bits) (x i)) new_low new_high
      (λ i h.
      let l : i < half = omega arith in
      lows i l ∙ ap (λ u. plus u (times (entry o high i) (entry o ts (half + i)))) (low_is i l)
      ∙ ap (λ u. plus (times d (sums o r k x i)) (times u (entry o ts (half + i)))) (high_is i l)
      ∙ ap (λ u. plus (times d (sums o r k x i)) (times (times d (twiddled o r k w x i)) u)) (power_at i l)
      ∙ joined_low o r k i w v d x inverse ∙ ap (λ u. times u (x i)) twice)
      (λ i h.
      let l : i < half = omega arith in
      let at : 2 ^ k + i ≡ length new_low + i = omega (arith, is_half) in
      highs i l ∙ ap (λ u. minus o u (times (entry o high i) (entry o ts (half + i)))) (low_is i l)
      ∙ ap (λ u. minus o (times d (sums o r k x i)) (times u (entry o ts (half + i)))) (high_is i l)
      ∙ ap (λ u. minus o (times d (sums o r k x i)) (times (times d (twiddled o r k w x i)) u)) (power_at i l)
      ∙ joined_high o r k i w v d x inverse ∙ ap (λ u. times u (x (2 ^ k + i))) twice ∙ ap (λ a. times (doubled o bits) (x a)) at)

  -- a single entry
  pub forward_single : (bits : ℕ) (w : A) (values : List A) (j : ℕ) → bits ≡ 0 → j < 2 ^ bits → entry o values j ≡ spectrum o bits w (entry o values) j
  forward_single zero w values j e h =
      let first : j ≡ 0 = omega arith in
      ap (entry o values) first ∙ sym (spectrum-single o r w (entry o values) j)
  forward_single (suc b) w values j e h = absurd (omega arith)

  pub backward_single : (bits : ℕ) (w : A) (x : ℕ → A) (values : List A) → bits ≡ 0 → ((j : ℕ) → j < 2 ^ bits → entry o values j ≡ spectrum o bits w x j) → (i : ℕ) → i < 2 ^ bits → entry o values i ≡ times (doubled o bits) (x i)
  backward_single zero w x values e known i h =
      let first : i ≡ 0 = omega arith in
      known i h ∙ spectrum-single o r w x i ∙ ap x (sym first) ∙ sym (r.times_comm _ _ ∙ r.times_one _)
  backward_single (suc b) w x values e known i h = absurd (omega arith)
