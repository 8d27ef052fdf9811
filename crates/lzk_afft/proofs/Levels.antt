-- One level of a transform, on lists.
use Rattle.std.specs.Prelude.{◌≡◌, ℕ, ◌<◌, ◌≤◌, ◌+◌, ◌-◌, ◌*◌, ◌/◌, ◌^◌, List, [], ◌∷◌, ◌++◌, length, take, drop}
use Rattle.std.proofs.Common.{zero, suc, refl, sym, ap, ◌∙◌, arith, subst}
use Rattle.std.proofs.Math.Nat.{mul-le-mul_left}
use Rattle.std.proofs.Math.ListN.{get_or-append}
use Rattle.std.proofs.lemmas.List.{get_or-take, get_or-drop, get_or-append-add}
use native.Mathlib.Decide.{dec_lt}
use Rattle.lzk_field.specs.Ring.{Ops, RingLaws, Laws}
use Rattle.lzk_field.specs.Sums.{minus, entry}
use Rattle.lzk_field.proofs.RingBasics.{zero_plus}
use Rattle.lzk_field.proofs.Solve.{var, ◌⊞◌, ◌⊟◌, ◌⊠◌, solve}
use Rattle.lzk_field.proofs.EntryLaws.{entries_joined}
use Rattle.lzk_afft.specs.Basis.{basis_polynomial, basis_sum}
use Rattle.lzk_afft.specs.Blocks.{HasFactors, IsBlock}
use Rattle.lzk_afft.proofs.Subspaces.{double}
use Rattle.lzk_afft.proofs.Splits.{lower, upper, value_low, value_high, block_low, block_high, basis_sum-ext}

-- the halves of a power of two
pub halves : (bits size : ℕ) → size ≡ 2 ^ bits → 0 < bits → (suc (bits - 1) ≡ bits) × (size / 2 ≡ 2 ^ (bits - 1)) × (size ≡ size / 2 + size / 2)
halves zero size e h = absurd (omega arith)
halves (suc b) size e h =
    let less : suc b - 1 ≡ b = omega arith in
    let half : size / 2 ≡ 2 ^ b = omega (arith, e, double b) in
    (omega arith, half ∙ ap (λ n. 2 ^ n) (sym less), omega (arith, e, double b, half))

-- a block's node is a place in the list of twiddle factors
pub node_within : (node size whole : ℕ) → 2 ≤ size → (node + 1) * size ≤ 2 * whole → node < whole
node_within node size whole h e = omega (arith, mul-le-mul_left (node + 1) h)

pub within_low : (node size half whole : ℕ) → size ≡ half + half → (node + 1) * size ≤ 2 * whole → (2 * node + 1) * half ≤ 2 * whole
within_low node size half whole e h = let same : (node + 1) * (half + half) ≤ 2 * whole = subst (λ (n : ℕ). (node + 1) * n ≤ 2 * whole) e h in omega arith

pub within_high : (node size half whole : ℕ) → size ≡ half + half → (node + 1) * size ≤ 2 * whole → (2 * node + 1 + 1) * half ≤ 2 * whole
within_high node size half whole e h = let same : (node + 1) * (half + half) ≤ 2 * whole = subst (λ (n : ℕ). (node + 1) * n ≤ 2 * whole) e h in omega arith

module _ {A : Type 0} (bits node : ℕ) (values half twiddles : List A) (h : HasFactors bits node values twiddles) (more : 0 < bits) where
  -- what a block has, its halves have
  pub low_factors : length half ≡ length values / 2 → HasFactors (bits - 1) (2 * node) half twiddles
  low_factors e =
      let parts = halves bits (length values) h.0 more in
      (omega (arith, parts.1, e), within_low node (length values) (length half) (length twiddles) (omega (arith, parts.2, e)) h.1, h.2)

  pub high_factors : length half ≡ length values - length values / 2 → HasFactors (bits - 1) (2 * node + 1) half twiddles
  high_factors e =
      let parts = halves bits (length values) h.0 more in
      (omega (arith, parts.1, parts.2, e), within_high node (length values) (length half) (length twiddles) (omega (arith, parts.2, e)) h.1, h.2)

module _ {A : Type 0} (o : Ops A) where
  pub entry-front : (xs front : List A) (n k : ℕ) → front ≡ take n xs → k < n → entry o front k ≡ entry o xs k
  entry-front xs front n k e h = ap (λ zs. entry o zs k) e ∙ get_or-take n xs k o.zero h

  pub entry-back : (xs rest : List A) (n k : ℕ) → rest ≡ drop n xs → entry o rest k ≡ entry o xs (n + k)
  entry-back xs rest n k e = ap (λ zs. entry o zs k) e ∙ get_or-drop n xs k o.zero

module _ {A : Type 0} {o : Ops A} {size : ℕ} {number_of : A → ℕ} {element : ℕ → A} {bytes : ℕ} (laws : Laws o size number_of element bytes) where
  open o use {plus, times}

  -- down: the coefficients of both halves, and then the values of each
  pub level_down : (bits half at node : ℕ) (twiddle : A) (values twiddles low high new_low new_high : List A)
      → suc (bits - 1) ≡ bits → half ≡ 2 ^ (bits - 1) → length new_low ≡ half → length new_high ≡ half
      → IsBlock o element bits at node twiddles → twiddle ≡ entry o twiddles node
      → ((i : ℕ) → i < half → entry o low i ≡ plus (entry o values i) (times twiddle (entry o values (half + i))))
      → ((i : ℕ) → i < half → entry o high i ≡ plus (plus (entry o values i) (times twiddle (entry o values (half + i)))) (entry o values (half + i)))
      → ((at : ℕ) → IsBlock o element (bits - 1) at (2 * node) twiddles → (j : ℕ) → j < half → entry o new_low j ≡ basis_sum o element (entry o low) (2 ^ (bits - 1)) (element (at + j)))
      → ((at : ℕ) → IsBlock o element (bits - 1) at (2 * node + 1) twiddles → (j : ℕ) → j < half → entry o new_high j ≡ basis_sum o element (entry o high) (2 ^ (bits - 1)) (element (at + j)))
      → (j : ℕ) → j < length (new_low ++ new_high) → entry o (new_low ++ new_high) j ≡ basis_sum o element (entry o values) (2 ^ bits) (element (at + j))
  level_down bits half at node twiddle values twiddles low high new_low new_high again is_half front back block is lows highs first second =
      let r = laws.ring in
      let b = bits - 1 in
      let c : ℕ → A = entry o values in
      let w = entry o twiddles node in
      let whole : IsBlock o element (suc b) at node twiddles = subst (λ (n : ℕ). IsBlock o element n at node twiddles) (sym again) block in
      let place : (i : ℕ) → c (half + i) ≡ c (2 ^ b + i) = λ i. ap (λ n. c (n + i)) is_half in
      let low_is : (i : ℕ) → i < 2 ^ b → entry o low i ≡ lower laws b w c i =
      λ i l. lows i (omega (arith, is_half)) ∙ ap (λ v. plus (c i) (times v (c (half + i)))) is ∙ ap (λ v. plus (c i) (times w v)) (place i) in
      let high_is : (i : ℕ) → i < 2 ^ b → entry o high i ≡ upper laws b w c i =
      λ i l. highs i (omega (arith, is_half)) ∙ ap (λ v. plus (plus (c i) (times v (c (half + i)))) (c (half + i))) is ∙ ap (λ v. plus (plus (c i) (times w v)) v) (place i) in
      entries_joined o (λ j y. y ≡ basis_sum o element c (2 ^ bits) (element (at + j))) new_low new_high
      (λ j h.
      let l : j < 2 ^ b = omega (arith, is_half, front) in
      first at (block_low o r element b at node twiddles whole) j (omega (arith, front))
      ∙ basis_sum-ext o r element (entry o low) (lower laws b w c) (2 ^ b) (element (at + j)) low_is
      ∙ sym (value_low laws b at node twiddles c j whole l)
      ∙ ap (λ n. basis_sum o element c (2 ^ n) (element (at + j))) again)
      (λ j h.
      let l : j < 2 ^ b = omega (arith, is_half, back) in
      let spot : at + 2 ^ b + j ≡ at + (length new_low + j) = omega (arith, is_half, front) in
      second (at + 2 ^ b) (block_high o r element b at node twiddles whole) j (omega (arith, back))
      ∙ basis_sum-ext o r element (entry o high) (upper laws b w c) (2 ^ b) (element (at + 2 ^ b + j)) high_is
      ∙ sym (value_high laws b at node twiddles c j whole l)
      ∙ ap (λ n. basis_sum o element c (2 ^ n) (element (at + 2 ^ b + j))) again
      ∙ ap (λ n. basis_sum o element c (2 ^ bits) (element n)) spot)

  -- a half's block, and the values on it by what the coefficients become
  pub level_at_low : (bits half at node : ℕ) (twiddle : A) (values twiddles low : List A) → suc (bits - 1) ≡ bits → half ≡ 2 ^ (bits - 1)
      → IsBlock o element bits at node twiddles → twiddle ≡ entry o twiddles node
      → ((i : ℕ) → i < half → entry o low i ≡ plus (entry o values i) (times twiddle (entry o values (half + i))))
      → IsBlock o element (bits - 1) at (2 * node) twiddles × ((j : ℕ) → j < half → basis_sum o element (entry o low) (2 ^ (bits - 1)) (element (at + j)) ≡ basis_sum o element (entry o values) (2 ^ bits) (element (at + j)))
  level_at_low bits half at node twiddle values twiddles low again is_half block is lows =
      let r = laws.ring in
      let b = bits - 1 in
      let c : ℕ → A = entry o values in
      let w = entry o twiddles node in
      let whole : IsBlock o element (suc b) at node twiddles = subst (λ (n : ℕ). IsBlock o element n at node twiddles) (sym again) block in
      let low_is : (i : ℕ) → i < 2 ^ b → entry o low i ≡ lower laws b w c i =
      λ i l. lows i (omega (arith, is_half)) ∙ ap (λ v. plus (c i) (times v (c (half + i)))) is ∙ ap (λ n. plus (c i) (times w (c (n + i)))) is_half in (
        block_low o r element b at node twiddles whole,
        λ j h. basis_sum-ext o r element (entry o low) (lower laws b w c) (2 ^ b) (element (at + j)) low_is
            ∙ sym (value_low laws b at node twiddles c j whole (omega (arith, is_half)))
            ∙ ap (λ n. basis_sum o element c (2 ^ n) (element (at + j))) again,
      )

  pub level_at_high : (bits half at node : ℕ) (twiddle : A) (values twiddles high : List A) → suc (bits - 1) ≡ bits → half ≡ 2 ^ (bits - 1)
      → IsBlock o element bits at node twiddles → twiddle ≡ entry o twiddles node
      → ((i : ℕ) → i < half → entry o high i ≡ plus (plus (entry o values i) (times twiddle (entry o values (half + i)))) (entry o values (half + i)))
      → IsBlock o element (bits - 1) (at + half) (2 * node + 1) twiddles × ((j : ℕ) → j < half → basis_sum o element (entry o high) (2 ^ (bits - 1)) (element (at + half + j)) ≡ basis_sum o element (entry o values) (2 ^ bits) (element (at + half + j)))
  level_at_high bits half at node twiddle values twiddles high again is_half block is highs =
      let r = laws.ring in
      let b = bits - 1 in
      let c : ℕ → A = entry o values in
      let w = entry o twiddles node in
      let whole : IsBlock o element (suc b) at node twiddles = subst (λ (n : ℕ). IsBlock o element n at node twiddles) (sym again) block in
      let high_is : (i : ℕ) → i < 2 ^ b → entry o high i ≡ upper laws b w c i =
      λ i l. highs i (omega (arith, is_half)) ∙ ap (λ v. plus (plus (c i) (times v (c (half + i)))) (c (half + i))) is ∙ ap (λ n. plus (plus (c i) (times w (c (n + i)))) (c (n + i))) is_half in (
        subst (λ (n : ℕ). IsBlock o element b (at + n) (2 * node + 1) twiddles) (sym is_half) (block_high o r element b at node twiddles whole),
        λ j h. ap (λ n. basis_sum o element (entry o high) (2 ^ b) (element (at + n + j))) is_half
            ∙ basis_sum-ext o r element (entry o high) (upper laws b w c) (2 ^ b) (element (at + 2 ^ b + j)) high_is
            ∙ sym (value_high laws b at node twiddles c j whole (omega (arith, is_half)))
            ∙ ap (λ n. basis_sum o element c (2 ^ n) (element (at + 2 ^ b + j))) again
            ∙ ap (λ n. basis_sum o element c (2 ^ bits) (element (at + n + j))) (sym is_half),
      )

  -- one coefficient is the value
  pub basis_sum_one : (c : ℕ → A) (t : A) → basis_sum o element c 1 t ≡ c 0
  unfolding basis_polynomial basis_sum
  basis_sum_one c t = zero_plus o laws.ring _ ∙ laws.ring.times_one _

  pub single : (bits : ℕ) (c : ℕ → A) (t : A) → bits ≡ 0 → basis_sum o element c (2 ^ bits) t ≡ c 0
  single bits c t e = ap (λ n. basis_sum o element c (2 ^ n) t) e ∙ basis_sum_one c t

  -- up, where the lower half's values are all known
  pub level_up_whole : (bits half known at node : ℕ) (twiddle : A) (values twiddles low high mid_low mid_high new_high new_low last : List A)
      → suc (bits - 1) ≡ bits → half ≡ 2 ^ (bits - 1) → half ≤ known → known ≤ half + half → length last ≡ half → length new_low ≡ half
      → IsBlock o element bits at node twiddles → twiddle ≡ entry o twiddles node
      → ((i : ℕ) → i < half → entry o low i ≡ entry o values i)
      → ((i : ℕ) → i < half → entry o high i ≡ entry o values (half + i))
      → ((at : ℕ) → IsBlock o element (bits - 1) at (2 * node) twiddles → (j : ℕ) → j < half → basis_sum o element (entry o mid_low) (2 ^ (bits - 1)) (element (at + j)) ≡ entry o low j)
      → ((i : ℕ) → i < known - half → entry o mid_high i ≡ entry o high i)
      → ((at : ℕ) → IsBlock o element (bits - 1) at (2 * node + 1) twiddles → (j : ℕ) → j < known - half → basis_sum o element (entry o new_high) (2 ^ (bits - 1)) (element (at + j)) ≡ entry o mid_high j)
      → ((i : ℕ) → i < half → entry o last i ≡ minus o (entry o new_high i) (entry o mid_low i))
      → ((i : ℕ) → i < half → entry o new_low i ≡ minus o (entry o mid_low i) (times twiddle (entry o last i)))
      → (j : ℕ) → j < known → basis_sum o element (entry o (new_low ++ last)) (2 ^ bits) (element (at + j)) ≡ entry o values j
  level_up_whole bits half known at node twiddle values twiddles low high mid_low mid_high new_high new_low last again is_half least most back front block is lows highs first mids second lasts news j h =
      let r = laws.ring in
      let b = bits - 1 in
      let c : ℕ → A = entry o (new_low ++ last) in
      let w = entry o twiddles node in
      let whole : IsBlock o element (suc b) at node twiddles = subst (λ (n : ℕ). IsBlock o element n at node twiddles) (sym again) block in
      let c_low : (k : ℕ) → k < 2 ^ b → c k ≡ entry o new_low k = λ k l. get_or-append new_low last o.zero k (omega (arith, front, is_half)) in
      let c_high : (k : ℕ) → c (2 ^ b + k) ≡ entry o last k = λ k. ap (λ n. c (n + k)) (sym is_half ∙ sym front) ∙ get_or-append-add new_low last k o.zero in
      let M = var 0 in let F = var 1 in let L = var 2 in
      let low_is : (k : ℕ) → k < 2 ^ b → lower laws b w c k ≡ entry o mid_low k =
      λ k l. ap (λ v. plus (c k) (times w v)) (c_high k) ∙ ap (λ v. plus v (times w (entry o last k))) (c_low k l ∙ news k (omega (arith, is_half)) ∙ ap (λ v. minus o (entry o mid_low k) (times v (entry o last k))) is)
      ∙ solve o r (entry o mid_low k ∷ w ∷ entry o last k ∷ []) ((M ⊟ F ⊠ L) ⊞ F ⊠ L) M refl in
      let high_is : (k : ℕ) → k < 2 ^ b → upper laws b w c k ≡ entry o new_high k =
      λ k l. ap (λ v. plus v (c (2 ^ b + k))) (low_is k l) ∙ ap (plus (entry o mid_low k)) (c_high k ∙ lasts k (omega (arith, is_half)))
      ∙ solve o r (entry o mid_low k ∷ entry o new_high k ∷ []) (M ⊞ (F ⊟ M)) F refl in
      elim (dec_lt j half) [
        | yes l ↦ ap (λ n. basis_sum o element c (2 ^ n) (element (at + j))) (sym again)
            ∙ value_low laws b at node twiddles c j whole (omega (arith, is_half))
            ∙ basis_sum-ext o r element (lower laws b w c) (entry o mid_low) (2 ^ b) (element (at + j)) low_is
            ∙ first at (block_low o r element b at node twiddles whole) j l
            ∙ lows j l
        | no l ↦ let i = j - half in
            let place : at + j ≡ at + 2 ^ b + i = omega (arith, is_half) in
            let spot : half + i ≡ j = omega arith in
            ap (λ n. basis_sum o element c (2 ^ n) (element (at + j))) (sym again)
            ∙ ap (λ n. basis_sum o element c (2 ^ suc b) (element n)) place
            ∙ value_high laws b at node twiddles c i whole (omega (arith, is_half))
            ∙ basis_sum-ext o r element (upper laws b w c) (entry o new_high) (2 ^ b) (element (at + 2 ^ b + i)) high_is
            ∙ second (at + 2 ^ b) (block_high o r element b at node twiddles whole) i (omega arith)
            ∙ mids i (omega arith) ∙ highs i (omega arith) ∙ ap (entry o values) spot
      ]

  -- up, where some of the lower half's values are known, and the upper half's coefficients
  pub level_up_part : (bits half known at node : ℕ) (twiddle : A) (values twiddles low high raised mid new_low : List A)
      → suc (bits - 1) ≡ bits → half ≡ 2 ^ (bits - 1) → known ≤ half → length new_low ≡ half
      → IsBlock o element bits at node twiddles → twiddle ≡ entry o twiddles node
      → ((i : ℕ) → i < half → entry o low i ≡ entry o values i)
      → ((i : ℕ) → i < known → entry o raised i ≡ entry o low i)
      → ((at : ℕ) → IsBlock o element (bits - 1) at (2 * node) twiddles → (j : ℕ) → j < known → basis_sum o element (entry o mid) (2 ^ (bits - 1)) (element (at + j)) ≡ entry o raised j)
      → ((i : ℕ) → i < half → entry o new_low i ≡ minus o (entry o mid i) (times twiddle (entry o high i)))
      → (j : ℕ) → j < known → basis_sum o element (entry o (new_low ++ high)) (2 ^ bits) (element (at + j)) ≡ entry o values j
  level_up_part bits half known at node twiddle values twiddles low high raised mid new_low again is_half most front block is lows raises first news j h =
      let r = laws.ring in
      let b = bits - 1 in
      let c : ℕ → A = entry o (new_low ++ high) in
      let w = entry o twiddles node in
      let whole : IsBlock o element (suc b) at node twiddles = subst (λ (n : ℕ). IsBlock o element n at node twiddles) (sym again) block in
      let c_low : (k : ℕ) → k < 2 ^ b → c k ≡ entry o new_low k = λ k l. get_or-append new_low high o.zero k (omega (arith, front, is_half)) in
      let c_high : (k : ℕ) → c (2 ^ b + k) ≡ entry o high k = λ k. ap (λ n. c (n + k)) (sym is_half ∙ sym front) ∙ get_or-append-add new_low high k o.zero in
      let M = var 0 in let F = var 1 in let L = var 2 in
      let low_is : (k : ℕ) → k < 2 ^ b → lower laws b w c k ≡ entry o mid k =
      λ k l. ap (λ v. plus (c k) (times w v)) (c_high k) ∙ ap (λ v. plus v (times w (entry o high k))) (c_low k l ∙ news k (omega (arith, is_half)) ∙ ap (λ v. minus o (entry o mid k) (times v (entry o high k))) is)
      ∙ solve o r (entry o mid k ∷ w ∷ entry o high k ∷ []) ((M ⊟ F ⊠ L) ⊞ F ⊠ L) M refl in
      ap (λ n. basis_sum o element c (2 ^ n) (element (at + j))) (sym again)
      ∙ value_low laws b at node twiddles c j whole (omega (arith, is_half))
      ∙ basis_sum-ext o r element (lower laws b w c) (entry o mid) (2 ^ b) (element (at + j)) low_is
      ∙ first at (block_low o r element b at node twiddles whole) j h
      ∙ raises j h ∙ lows j (omega arith)

module _ {A : Type 0} (o : Ops A) (r : RingLaws o) where
  open o use {plus, times}

  pub rest_whole : (half known : ℕ) (values high mid_low mid_high new_high new_low last : List A) → half ≤ known → length last ≡ half → length new_low ≡ half
      → ((i : ℕ) → i < half → entry o high i ≡ entry o values (half + i))
      → ((i : ℕ) → known - half ≤ i → i < half → entry o mid_high i ≡ plus (entry o high i) (entry o mid_low i))
      → ((i : ℕ) → known - half ≤ i → i < half → entry o new_high i ≡ entry o mid_high i)
      → ((i : ℕ) → i < half → entry o last i ≡ minus o (entry o new_high i) (entry o mid_low i))
      → (j : ℕ) → known ≤ j → j < half + half → entry o (new_low ++ last) j ≡ entry o values j
  rest_whole half known values high mid_low mid_high new_high new_low last least back front highs mids news lasts j h m =
      let i = j - half in
      let place : j ≡ length new_low + i = omega arith in
      let spot : half + i ≡ j = omega arith in
      let l : i < half = omega arith in
      let k : known - half ≤ i = omega arith in
      let H = var 0 in let M = var 1 in
      ap (entry o (new_low ++ last)) place ∙ get_or-append-add new_low last i o.zero ∙ lasts i l
      ∙ ap (λ v. minus o v (entry o mid_low i)) (news i k l ∙ mids i k l)
      ∙ solve o r (entry o high i ∷ entry o mid_low i ∷ []) ((H ⊞ M) ⊟ M) H refl
      ∙ highs i l ∙ ap (entry o values) spot

  pub rest_part : (half known : ℕ) (twiddle : A) (values low high raised mid new_low : List A) → known ≤ half → length new_low ≡ half
      → ((i : ℕ) → i < half → entry o low i ≡ entry o values i)
      → ((i : ℕ) → i < half → entry o high i ≡ entry o values (half + i))
      → ((i : ℕ) → known ≤ i → i < half → entry o raised i ≡ plus (entry o low i) (times twiddle (entry o high i)))
      → ((i : ℕ) → known ≤ i → i < half → entry o mid i ≡ entry o raised i)
      → ((i : ℕ) → i < half → entry o new_low i ≡ minus o (entry o mid i) (times twiddle (entry o high i)))
      → (j : ℕ) → known ≤ j → j < half + half → entry o (new_low ++ high) j ≡ entry o values j
  rest_part half known twiddle values low high raised mid new_low most front lows highs raises mids news j h m =
      let H = var 0 in let F = var 1 in let L = var 2 in
      elim (dec_lt j half) [
        | yes l ↦ get_or-append new_low high o.zero j (omega arith) ∙ news j l
            ∙ ap (λ v. minus o v (times twiddle (entry o high j))) (mids j h l ∙ raises j h l)
            ∙ solve o r (entry o high j ∷ twiddle ∷ entry o low j ∷ []) ((L ⊞ F ⊠ H) ⊟ F ⊠ H) L refl
            ∙ lows j l
        | no l ↦ let i = j - half in
            let place : j ≡ length new_low + i = omega arith in
            let spot : half + i ≡ j = omega arith in
            ap (entry o (new_low ++ high)) place ∙ get_or-append-add new_low high i o.zero ∙ highs i (omega arith) ∙ ap (entry o values) spot
      ]
