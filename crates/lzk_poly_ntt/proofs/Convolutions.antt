-- The transform of a cyclic convolution is the product of the transforms.
use Rattle.std.specs.Prelude.{◌≡◌, ℕ, ◌<◌, ◌≤◌, ◌+◌, ◌-◌, ◌%◌, ◌^◌, [], ◌∷◌}
use Rattle.std.proofs.Common.{zero, suc, refl, sym, ap, ◌∙◌, arith}
use Rattle.std.proofs.Math.Nat.{mod-eq_of_lt, add-mod_right}
use Rattle.lzk_field.specs.Ring.{Ops, RingLaws}
use Rattle.lzk_field.specs.Sums.{sum_below, power}
use Rattle.lzk_field.proofs.SumLaws.{sum-ext, sum-times, sum-swap, sum-first}
use Rattle.lzk_field.proofs.Solve.{var, ◌⊠◌, solve}
use Rattle.lzk_poly_ntt.specs.Transform.{cyclic_convolution, bit_reversed, spectrum, IsRoot}
use Rattle.lzk_poly_ntt.proofs.RootLaws.{root-power}

module _ {A : Type 0} (o : Ops A) (r : RingLaws o) where
  open o use {plus, times, neg}

  module _ (t : A) (y : ℕ → A) where
    -- entry m of y moved on by i places in n, times the m-th power of t
    abbrev moved : ℕ → ℕ → ℕ → A
    moved n i m = times (y ((m + (n - i)) % n)) (power o t m)

    -- moved on by one more place
    moved-sum_more : (n i : ℕ) → power o t n ≡ o.one → i < n → sum_below o n (moved n (suc i)) ≡ times t (sum_below o n (moved n i))
    moved-sum_more zero i whole h = absurd (omega arith)
    moved-sum_more (suc p) i whole h =
        let n = suc p in
        let place : 0 + (n - suc i) + n ≡ p + (n - i) = omega arith in
        let ends : (0 + (n - suc i)) % n ≡ (p + (n - i)) % n = sym (add-mod_right (0 + (n - suc i)) n) ∙ ap (λ a. a % n) place in
        let Y = var 0 in let P = var 1 in let T = var 2 in
        let first : moved n (suc i) 0 ≡ times t (moved n i p) =
        r.times_one _ ∙ ap y ends ∙ sym (r.times_one _) ∙ ap (times (y ((p + (n - i)) % n))) (sym whole)
        ∙ solve o r (y ((p + (n - i)) % n) ∷ power o t p ∷ t ∷ []) (Y ⊠ (P ⊠ T)) (T ⊠ (Y ⊠ P)) refl in
        sum-first o r p (moved n (suc i))
        ∙ ap (λ w. plus w (sum_below o p (λ m. moved n (suc i) (suc m)))) first
        ∙ ap (plus (times t (moved n i p)))
        (sum-ext o r p (λ m. moved n (suc i) (suc m)) (λ m. times t (moved n i m))
        (λ m l. let same : suc m + (n - suc i) ≡ m + (n - i) = omega arith in
        ap (λ a. times (y (a % n)) (times (power o t m) t)) same
        ∙ solve o r (y ((m + (n - i)) % n) ∷ power o t m ∷ t ∷ []) (Y ⊠ (P ⊠ T)) (T ⊠ (Y ⊠ P)) refl)
        ∙ sum-times o r p t (moved n i))
        ∙ r.plus_comm _ _ ∙ sym (r.times_plus t (sum_below o p (moved n i)) (moved n i p))

    moved-sum : (n i : ℕ) → power o t n ≡ o.one → i ≤ n → sum_below o n (moved n i) ≡ times (power o t i) (sum_below o n (λ m. times (y m) (power o t m)))
    moved-sum n zero whole h =
        sum-ext o r n (moved n 0) (λ m. times (y m) (power o t m))
        (λ m l. let all : m + (n - 0) ≡ m + n = omega arith in
        ap (λ a. times (y a) (power o t m)) (ap (λ a. a % n) all ∙ add-mod_right m n ∙ mod-eq_of_lt l))
        ∙ sym (r.times_comm _ _ ∙ r.times_one _)
    moved-sum n (suc i) whole h =
        moved-sum_more n i whole h ∙ ap (times t) (moved-sum n i whole (omega arith)) ∙ sym (r.times_assoc _ _ _)
        ∙ ap (λ w. times w (sum_below o n (λ m. times (y m) (power o t m)))) (r.times_comm _ _)

  -- the polynomial of a cyclic convolution, where the n-th power of t is one
  pub cyclic-at : (n : ℕ) (t : A) (x y : ℕ → A) → power o t n ≡ o.one
      → sum_below o n (λ m. times (cyclic_convolution o n x y m) (power o t m)) ≡ times (sum_below o n (λ i. times (x i) (power o t i))) (sum_below o n (λ i. times (y i) (power o t i)))
  cyclic-at n t x y whole =
      let f : ℕ → ℕ → A = λ m i. times (x i) (moved t y n i m) in
      let other = sum_below o n (λ i. times (y i) (power o t i)) in
      let X = var 0 in let T = var 1 in let Y = var 2 in
      sum-ext o r n (λ m. times (cyclic_convolution o n x y m) (power o t m)) (λ m. sum_below o n (f m))
      (λ m l. r.times_comm _ _ ∙ sym (sum-times o r n (power o t m) (λ i. times (x i) (y ((m + (n - i)) % n))))
      ∙ sum-ext o r n (λ i. times (power o t m) (times (x i) (y ((m + (n - i)) % n)))) (f m)
      (λ i k. solve o r (x i ∷ power o t m ∷ y ((m + (n - i)) % n) ∷ []) (T ⊠ (X ⊠ Y)) (X ⊠ (Y ⊠ T)) refl))
      ∙ sum-swap o r n n f
      ∙ sum-ext o r n (λ i. sum_below o n (λ m. f m i)) (λ i. times other (times (x i) (power o t i)))
      (λ i k. sum-times o r n (x i) (moved t y n i) ∙ ap (times (x i)) (moved-sum t y n i whole (omega arith))
      ∙ solve o r (x i ∷ power o t i ∷ other ∷ []) (X ⊠ (T ⊠ Y)) (Y ⊠ (X ⊠ T)) refl)
      ∙ sum-times o r n other (λ i. times (x i) (power o t i))
      ∙ r.times_comm _ _

  pub spectrum-cyclic : (k : ℕ) (w : A) (x y : ℕ → A) (j : ℕ) → IsRoot o k w → spectrum o k w (cyclic_convolution o (2 ^ k) x y) j ≡ times (spectrum o k w x j) (spectrum o k w y j)
  unfolding spectrum
  spectrum-cyclic k w x y j root = cyclic-at (2 ^ k) (power o w (bit_reversed k j)) x y (root-power o r k w (bit_reversed k j) root)
