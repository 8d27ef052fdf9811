-- Sums, multiples and products of polynomials: their values and how many coefficients they have.
use Rattle.std.specs.Prelude.{◌≡◌, ◌≢◌, ℕ, ◌<◌, ◌≤◌, ◌+◌, List, [], ◌∷◌, length}
use Rattle.std.proofs.Common.{zero, suc, refl, sym, ap, ◌∙◌, arith}
use Rattle.lzk_field.specs.Ring.{Ops, RingLaws, FieldLaws}
use Rattle.lzk_field.specs.Sums.{sum_below, power, entry, minus}
use Rattle.lzk_field.proofs.RingBasics.{zero_plus, times_zero, same_from_difference}
use Rattle.lzk_field.proofs.SumLaws.{sum-ext, sum-times, sum-first}
use Rattle.lzk_field.proofs.Solve.{var, null, unit, opp, ◌⊞◌, ◌⊟◌, ◌⊠◌, solve}
use Rattle.lzk_poly.specs.Polynomial.{eval, power_sum, add, scale, multiply}
use Rattle.lzk_poly.proofs.Roots.{roots, zeros_eval}

module _ {A : Type 0} (o : Ops A) where
  pub length-scale : (u : A) (xs : List A) → length (scale o u xs) ≡ length xs
  length-scale u [] = refl
  length-scale u (x ∷ xs) = ap suc (length-scale u xs)

  -- a sum is no longer than the longer of the two, and no shorter than either
  pub length-add : (n : ℕ) (xs ys : List A) → length xs ≤ n → length ys ≤ n → length (add o xs ys) ≤ n
  length-add n [] ys p q = q
  length-add n (x ∷ xs) [] p q = p
  length-add zero (x ∷ xs) (y ∷ ys) p q = absurd (omega arith)
  length-add (suc n) (x ∷ xs) (y ∷ ys) p q = let h = length-add n xs ys (omega arith) (omega arith) in omega arith

  pub length-add_left : (xs ys : List A) → length ys ≤ length xs → length (add o xs ys) ≡ length xs
  length-add_left [] [] h = refl
  length-add_left [] (y ∷ ys) h = absurd (omega arith)
  length-add_left (x ∷ xs) [] h = refl
  length-add_left (x ∷ xs) (y ∷ ys) h = ap suc (length-add_left xs ys (omega arith))

  pub length-add_right : (xs ys : List A) → length xs ≤ length ys → length (add o xs ys) ≡ length ys
  length-add_right [] ys h = refl
  length-add_right (x ∷ xs) [] h = absurd (omega arith)
  length-add_right (x ∷ xs) (y ∷ ys) h = ap suc (length-add_right xs ys (omega arith))

  -- a product of two that are not empty has one coefficient less than both together
  pub length-multiply : (x y : A) (xs ys : List A) → length (multiply o (x ∷ xs) (y ∷ ys)) ≡ length xs + length (y ∷ ys)
  length-multiply x y [] ys = length-add_left (scale o x (y ∷ ys)) (o.zero ∷ []) (omega (arith, length-scale x (y ∷ ys))) ∙ length-scale x (y ∷ ys) ∙ omega arith
  length-multiply x y (z ∷ xs) ys =
      let rest = length-multiply z y xs ys in
      length-add_right (scale o x (y ∷ ys)) (o.zero ∷ multiply o (z ∷ xs) (y ∷ ys)) (omega (arith, length-scale x (y ∷ ys))) ∙ ap suc rest ∙ omega arith

module _ {A : Type 0} (o : Ops A) (r : RingLaws o) where
  -- the value is the sum of each coefficient times a power
  pub eval-power_sum : (cs : List A) (t : A) → eval o cs t ≡ power_sum o cs t
  eval-power_sum [] t = refl
  eval-power_sum (c ∷ cs) t =
      let n = length cs in
      let f : ℕ → A = λ k. o.times (entry o cs k) (power o t k) in
      let g : ℕ → A = λ k. o.times (entry o cs k) (o.times (power o t k) t) in
      ap (λ w. o.plus c (o.times t w)) (eval-power_sum cs t)
      ∙ ap (o.plus c) (sym (sum-times o r n t f) ∙ sum-ext o r n (λ k. o.times t (f k)) g (λ k h. r.times_comm _ _ ∙ r.times_assoc _ _ _))
      ∙ ap (λ w. o.plus w (sum_below o n g)) (sym (r.times_one c))
      ∙ sym (sum-first o r n (λ k. o.times (entry o (c ∷ cs) k) (power o t k)))

  pub eval-scale : (u : A) (xs : List A) (t : A) → eval o (scale o u xs) t ≡ o.times u (eval o xs t)
  eval-scale u [] t = sym (times_zero o r u)
  eval-scale u (x ∷ xs) t =
      let U = var 0 in let X = var 1 in let T = var 2 in let E = var 3 in
      ap (λ w. o.plus (o.times u x) (o.times t w)) (eval-scale u xs t)
      ∙ solve o r (u ∷ x ∷ t ∷ eval o xs t ∷ []) (U ⊠ X ⊞ T ⊠ (U ⊠ E)) (U ⊠ (X ⊞ T ⊠ E)) refl

  pub eval-add : (xs ys : List A) (t : A) → eval o (add o xs ys) t ≡ o.plus (eval o xs t) (eval o ys t)
  eval-add [] ys t = sym (zero_plus o r _)
  eval-add (x ∷ xs) [] t = sym (r.plus_zero _)
  eval-add (x ∷ xs) (y ∷ ys) t =
      let X = var 0 in let Y = var 1 in let T = var 2 in let E = var 3 in let F = var 4 in
      ap (λ w. o.plus (o.plus x y) (o.times t w)) (eval-add xs ys t)
      ∙ solve o r (x ∷ y ∷ t ∷ eval o xs t ∷ eval o ys t ∷ []) ((X ⊞ Y) ⊞ T ⊠ (E ⊞ F)) ((X ⊞ T ⊠ E) ⊞ (Y ⊞ T ⊠ F)) refl

  pub eval-multiply : (xs ys : List A) (t : A) → eval o (multiply o xs ys) t ≡ o.times (eval o xs t) (eval o ys t)
  eval-multiply [] ys t = let Y = var 0 in solve o r (eval o ys t ∷ []) null (null ⊠ Y) refl
  eval-multiply (x ∷ xs) ys t =
      let X = var 0 in let T = var 1 in let E = var 2 in let F = var 3 in
      eval-add (scale o x ys) (o.zero ∷ multiply o xs ys) t
      ∙ ap (λ w. o.plus w (o.plus o.zero (o.times t (eval o (multiply o xs ys) t)))) (eval-scale x ys t)
      ∙ ap (λ w. o.plus (o.times x (eval o ys t)) (o.plus o.zero (o.times t w))) (eval-multiply xs ys t)
      ∙ solve o r (x ∷ t ∷ eval o xs t ∷ eval o ys t ∷ []) (X ⊠ F ⊞ (null ⊞ T ⊠ (E ⊠ F))) ((X ⊞ T ⊠ E) ⊠ F) refl

module _ {A : Type 0} (o : Ops A) (r : RingLaws o) (f : FieldLaws o) where
  -- A polynomial with at most n coefficients that is zero at n different points is zero everywhere.
  pub zero_everywhere : (n : ℕ) (cs : List A) (at : ℕ → A) → length cs ≤ n
      → ((i j : ℕ) → i < j → j < n → at i ≢ at j)
      → ((i : ℕ) → i < n → eval o cs (at i) ≡ o.zero)
      → (t : A) → eval o cs t ≡ o.zero
  zero_everywhere n cs at short apart zero_at t =
      zeros_eval o r cs t (roots o r f (length cs) cs at refl (λ i j p q. apart i j p (omega arith)) (λ i h. zero_at i (omega arith)))

  -- Two polynomials with at most n coefficients that agree at n different points agree everywhere.
  pub same_everywhere : (n : ℕ) (xs ys : List A) (at : ℕ → A) → length xs ≤ n → length ys ≤ n
      → ((i j : ℕ) → i < j → j < n → at i ≢ at j)
      → ((i : ℕ) → i < n → eval o xs (at i) ≡ eval o ys (at i))
      → (t : A) → eval o xs t ≡ eval o ys t
  same_everywhere n xs ys at p q apart agree t =
      let u = o.neg o.one in
      let ds = add o xs (scale o u ys) in
      let E = var 0 in let F = var 1 in
      let differ : (s : A) → eval o ds s ≡ minus o (eval o xs s) (eval o ys s) =
      λ s. eval-add o r xs (scale o u ys) s ∙ ap (o.plus (eval o xs s)) (eval-scale o r u ys s) ∙ solve o r (eval o xs s ∷ eval o ys s ∷ []) (E ⊞ opp unit ⊠ F) (E ⊟ F) refl in
      same_from_difference o r (eval o xs t) (eval o ys t)
      (sym (differ t) ∙ zero_everywhere n ds at (length-add o n xs (scale o u ys) p (omega (arith, length-scale o u ys))) apart
      (λ i h. differ (at i) ∙ ap (λ w. minus o w (eval o ys (at i))) (agree i h) ∙ r.plus_neg (eval o ys (at i))) t)
