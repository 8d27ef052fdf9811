-- A sum in the novel polynomial basis, by the halves of its coefficients.
use Rattle.std.specs.Prelude.{◌≡◌, ℕ, ◌<◌, ◌≤◌, ◌+◌, ◌-◌, ◌*◌, ◌/◌, ◌%◌, ◌^◌, List, [], ◌∷◌, cond}
use Rattle.std.proofs.Common.{zero, suc, refl, sym, ap, ◌∙◌, arith, eqb}
use Rattle.std.proofs.Math.Nat.{mul-add-div_right, mul-add-mod_self_right, div-eq_of_lt}
use Rattle.std.proofs.lemmas.Nat.{div-mul-add, pow-add}
use native.Mathlib.Decide.{dec_lt}
use Rattle.lzk_field.specs.Ring.{Ops, RingLaws, Laws}
use Rattle.lzk_field.specs.Sums.{sum_below, product_below, entry}
use Rattle.lzk_field.proofs.RingBasics.{zero_times}
use Rattle.lzk_field.proofs.SumLaws.{sum-ext, sum-plus}
use Rattle.lzk_field.proofs.Solve.{var, unit, ◌⊞◌, ◌⊠◌, solve}
use Rattle.lzk_poly.specs.Products.{IsAligned, IsBinary}
use Rattle.lzk_poly.proofs.BinaryProducts.{binary_lower, aligned_low, aligned_high}
use Rattle.lzk_field.proofs.ProductLaws.{product-ext, product-one, product-split}
use Rattle.lzk_afft.specs.Basis.{normalized, basis_polynomial, basis_sum}
use Rattle.lzk_afft.specs.Blocks.{IsBlock}
use Rattle.lzk_afft.proofs.Subspaces.{double, normalized_low, normalized_high}

pub positive : (b : ℕ) → 1 ≤ 2 ^ b
positive zero = omega arith
positive (suc b) = omega (arith, double b, positive b)

pub below_power : (n : ℕ) → n < 2 ^ n
below_power zero = omega arith
below_power (suc n) = omega (arith, double n, below_power n)

pub power_more : (a d : ℕ) → 2 ^ a ≤ 2 ^ (a + d)
power_more a zero = let e : a + 0 ≡ a = omega arith in omega (arith, ap (λ n. 2 ^ n) e)
power_more a (suc d) = let e : a + suc d ≡ suc (a + d) = omega arith in omega (arith, ap (λ n. 2 ^ n) e, double (a + d), power_more a d)

bit_past : (a d k : ℕ) → k < 2 ^ a → k / 2 ^ (a + d) % 2 ≡ 0
bit_past a d k h = ap (λ n. n % 2) (div-eq_of_lt (omega (arith, power_more a d)))

bit_top : (b k : ℕ) → k < 2 ^ b → (2 ^ b + k) / 2 ^ b % 2 ≡ 1
bit_top b k h =
    let one : 2 ^ b + k ≡ 1 * 2 ^ b + k = omega arith in
    ap (λ n. n % 2) (ap (λ n. n / 2 ^ b) one ∙ div-mul-add 1 (2 ^ b) k h)

bit_low : (b j k : ℕ) → j < b → (2 ^ b + k) / 2 ^ j % 2 ≡ k / 2 ^ j % 2
bit_low b j k h =
    let d = b - j - 1 in
    let place : b ≡ suc d + j = omega arith in
    let whole : 2 ^ b ≡ 2 ^ suc d * 2 ^ j = ap (λ n. 2 ^ n) place ∙ pow-add 2 (suc d) j in
    let even : 2 ^ suc d ≡ 2 ^ d * 2 = omega (arith, double d) in
    ap (λ n. (n + k) / 2 ^ j % 2) whole
    ∙ ap (λ n. n % 2) (mul-add-div_right (positive j) (2 ^ suc d) k)
    ∙ ap (λ n. (n + k / 2 ^ j) % 2) even
    ∙ mul-add-mod_self_right (2 ^ d) 2 (k / 2 ^ j)

module _ {A : Type 0} (o : Ops A) (r : RingLaws o) where
  open o use {plus, times}

  pub sum-split : (a b : ℕ) (f : ℕ → A) → sum_below o (a + b) f ≡ plus (sum_below o a f) (sum_below o b (λ k. f (a + k)))
  sum-split a zero f = ap (λ n. sum_below o n f) (omega arith) ∙ sym (r.plus_zero _)
  sum-split a (suc b) f =
      let last : a + suc b ≡ suc (a + b) = omega arith in
      ap (λ n. sum_below o n f) last ∙ ap (λ w. plus w (f (a + b))) (sum-split a b f) ∙ r.plus_assoc _ _ _

  module _ (point : ℕ → A) where
    abbrev digits : ℕ → ℕ → A → A
    digits n k t = product_below o n (λ j. cond (eqb (k / 2 ^ j % 2) 1) (normalized o point j t) o.one)

    digits_more : (a d k : ℕ) (t : A) → k < 2 ^ a → digits (a + d) k t ≡ digits a k t
    digits_more a d k t h =
        product-split o r a d (λ j. cond (eqb (k / 2 ^ j % 2) 1) (normalized o point j t) o.one)
        ∙ ap (times (digits a k t)) (product-one o r d (λ j. cond (eqb (k / 2 ^ (a + j) % 2) 1) (normalized o point (a + j) t) o.one) (λ j l. ap (λ n. cond (eqb n 1) (normalized o point (a + j) t) o.one) (bit_past a j k h)))
        ∙ r.times_one _

    basis_digits : (n k : ℕ) (t : A) → k < 2 ^ n → basis_polynomial o point k t ≡ digits n k t
    unfolding basis_polynomial
    basis_digits n k t h =
        elim (dec_lt k n) [
          | yes l ↦ let place : k + (n - k) ≡ n = omega arith in sym (ap (λ m. digits m k t) (sym place) ∙ digits_more k (n - k) k t (below_power k))
          | no l ↦ let place : n + (k - n) ≡ k = omega arith in ap (λ m. digits m k t) (sym place) ∙ digits_more n (k - n) k t h
        ]

    pub basis-high : (b k : ℕ) (t : A) → k < 2 ^ b → basis_polynomial o point (2 ^ b + k) t ≡ times (basis_polynomial o point k t) (normalized o point b t)
    basis-high b k t h =
        let high = 2 ^ b + k in
        basis_digits (suc b) high t (omega (arith, double b))
        ∙ ap (times (digits b high t)) (ap (λ n. cond (eqb n 1) (normalized o point b t) o.one) (bit_top b k h))
        ∙ ap (λ w. times w (normalized o point b t))
        (product-ext o r b (λ j. cond (eqb (high / 2 ^ j % 2) 1) (normalized o point j t) o.one) (λ j. cond (eqb (k / 2 ^ j % 2) 1) (normalized o point j t) o.one)
        (λ j l. ap (λ n. cond (eqb n 1) (normalized o point j t) o.one) (bit_low b j k l)))
        ∙ ap (λ w. times w (normalized o point b t)) (sym (basis_digits b k t h))

    pub basis_sum-ext : (c d : ℕ → A) (n : ℕ) (t : A) → ((k : ℕ) → k < n → c k ≡ d k) → basis_sum o point c n t ≡ basis_sum o point d n t
    unfolding basis_sum
    basis_sum-ext c d n t h = sum-ext o r n (λ k. times (c k) (basis_polynomial o point k t)) (λ k. times (d k) (basis_polynomial o point k t)) (λ k l. ap (λ w. times w (basis_polynomial o point k t)) (h k l))

    -- coefficients that are zero add nothing
    pub basis_sum-cut : (c : ℕ → A) (n m : ℕ) (t : A) → n ≤ m → ((k : ℕ) → n ≤ k → k < m → c k ≡ o.zero) → basis_sum o point c m t ≡ basis_sum o point c n t
    unfolding basis_sum
    basis_sum-cut c n m t h none =
        let f : ℕ → A = λ k. times (c k) (basis_polynomial o point k t) in
        let place : m ≡ n + (m - n) = omega arith in
        ap (λ w. sum_below o w f) place ∙ sum-split n (m - n) f
        ∙ ap (plus (sum_below o n f)) (zeros (m - n) (λ k. f (n + k)) (λ k l. ap (λ w. times w (basis_polynomial o point (n + k) t)) (none (n + k) (omega arith) (omega arith)) ∙ zero_times o r _))
        ∙ r.plus_zero _
      where
        zeros : (a : ℕ) (g : ℕ → A) → ((k : ℕ) → k < a → g k ≡ o.zero) → sum_below o a g ≡ o.zero
        zeros zero g e = refl
        zeros (suc a) g e = ap (λ w. plus w (g a)) (zeros a g (λ k l. e k (omega arith))) ∙ ap (plus o.zero) (e a (omega arith)) ∙ r.plus_zero o.zero

    -- twice as many coefficients: the upper half times the normalized subspace polynomial is added to the lower
    pub basis_sum-halves : (b : ℕ) (c : ℕ → A) (t : A) → basis_sum o point c (2 ^ suc b) t ≡ basis_sum o point (λ k. plus (c k) (times (normalized o point b t) (c (2 ^ b + k)))) (2 ^ b) t
    unfolding basis_sum
    basis_sum-halves b c t =
        let h = 2 ^ b in
        let w = normalized o point b t in
        let f : ℕ → A = λ k. times (c k) (basis_polynomial o point k t) in
        let X = var 0 in let Y = var 1 in let B = var 2 in let W = var 3 in
        ap (λ n. sum_below o n f) (double b)
        ∙ sum-split h h f
        ∙ sym (sum-plus o r h f (λ k. f (h + k)))
        ∙ sum-ext o r h (λ k. plus (f k) (f (h + k))) (λ k. times (plus (c k) (times w (c (h + k)))) (basis_polynomial o point k t))
        (λ k l. ap (λ v. plus (f k) (times (c (h + k)) v)) (basis-high b k t l)
        ∙ solve o r (c k ∷ c (h + k) ∷ basis_polynomial o point k t ∷ w ∷ []) (X ⊠ B ⊞ Y ⊠ (B ⊠ W)) ((X ⊞ W ⊠ Y) ⊠ B) refl)

    pub block_low : (b at node : ℕ) (twiddles : List A) → IsBlock o point (suc b) at node twiddles → IsBlock o point b at (2 * node) twiddles
    block_low b at node twiddles block = record {
      few = let f = block.few in omega arith;
      binary = binary_lower o r point b block.binary;
      aligned = aligned_low o r point b at block.aligned;
      are_twiddles = block.are_twiddles.1;
    }

    pub block_high : (b at node : ℕ) (twiddles : List A) → IsBlock o point (suc b) at node twiddles → IsBlock o point b (at + 2 ^ b) (2 * node + 1) twiddles
    block_high b at node twiddles block = record {
      few = let f = block.few in omega arith;
      binary = binary_lower o r point b block.binary;
      aligned = aligned_high o r point b at block.binary block.aligned;
      are_twiddles = block.are_twiddles.2;
    }

module _ {A : Type 0} {o : Ops A} {size : ℕ} {number_of : A → ℕ} {element : ℕ → A} {bytes : ℕ} (laws : Laws o size number_of element bytes) where
  open o use {plus, times}

  -- what the coefficients of a block become for its halves
  abbrev pub lower : ℕ → A → (ℕ → A) → ℕ → A
  lower b w c k = plus (c k) (times w (c (2 ^ b + k)))

  abbrev pub upper : ℕ → A → (ℕ → A) → ℕ → A
  upper b w c k = plus (lower b w c k) (c (2 ^ b + k))

  pub normalized_value_low : (b at : ℕ) (c : ℕ → A) (i : ℕ) → IsBinary o element (suc b) → IsAligned o element (suc b) at → i < 2 ^ b → basis_sum o element c (2 ^ suc b) (element (at + i)) ≡ basis_sum o element (lower b (normalized o element b (element at)) c) (2 ^ b) (element (at + i))
  normalized_value_low b at c i binary aligned h =
      let t = element (at + i) in
      basis_sum-halves o laws.ring element b c t
      ∙ ap (λ w. basis_sum o element (lower b w c) (2 ^ b) t) (normalized_low laws b at i (binary_lower o laws.ring element b binary) aligned h)

  pub normalized_value_high : (b at : ℕ) (c : ℕ → A) (i : ℕ) → suc b ≤ 16 → IsBinary o element (suc b) → IsAligned o element (suc b) at → i < 2 ^ b → basis_sum o element c (2 ^ suc b) (element (at + 2 ^ b + i)) ≡ basis_sum o element (upper b (normalized o element b (element at)) c) (2 ^ b) (element (at + 2 ^ b + i))
  normalized_value_high b at c i few binary aligned h =
      let r = laws.ring in
      let t = element (at + 2 ^ b + i) in
      let w = normalized o element b (element at) in
      let X = var 0 in let Y = var 1 in let W = var 2 in
      basis_sum-halves o r element b c t
      ∙ ap (λ w. basis_sum o element (lower b w c) (2 ^ b) t) (normalized_high laws b at i few binary aligned h)
      ∙ basis_sum-ext o r element (lower b (plus w o.one) c) (upper b w c) (2 ^ b) t
      (λ k l. solve o r (c k ∷ c (2 ^ b + k) ∷ w ∷ []) (X ⊞ (W ⊞ unit) ⊠ Y) ((X ⊞ W ⊠ Y) ⊞ Y) refl)

  pub value_low : (b at node : ℕ) (twiddles : List A) (c : ℕ → A) (i : ℕ) → IsBlock o element (suc b) at node twiddles → i < 2 ^ b → basis_sum o element c (2 ^ suc b) (element (at + i)) ≡ basis_sum o element (lower b (entry o twiddles node) c) (2 ^ b) (element (at + i))
  value_low b at node twiddles c i block h =
      normalized_value_low b at c i block.binary block.aligned h
      ∙ ap (λ w. basis_sum o element (lower b w c) (2 ^ b) (element (at + i))) (sym block.are_twiddles.0)

  pub value_high : (b at node : ℕ) (twiddles : List A) (c : ℕ → A) (i : ℕ) → IsBlock o element (suc b) at node twiddles → i < 2 ^ b → basis_sum o element c (2 ^ suc b) (element (at + 2 ^ b + i)) ≡ basis_sum o element (upper b (entry o twiddles node) c) (2 ^ b) (element (at + 2 ^ b + i))
  value_high b at node twiddles c i block h =
      normalized_value_high b at c i block.few block.binary block.aligned h
      ∙ ap (λ w. basis_sum o element (upper b w c) (2 ^ b) (element (at + 2 ^ b + i))) (sym block.are_twiddles.0)
