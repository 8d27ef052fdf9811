-- A polynomial with n coefficients in the novel polynomial basis has n coefficients of powers.
use Rattle.std.specs.Prelude.{◌≡◌, ◌≢◌, ℕ, ◌<◌, ◌≤◌, ◌+◌, ◌*◌, ◌/◌, ◌%◌, ◌^◌, List, [], ◌∷◌, length, cond, Bool, true, false}
use Rattle.std.proofs.Common.{zero, suc, refl, sym, ap, ◌∙◌, arith, eqb, subst}
use Rattle.std.proofs.lemmas.Bool.{eqb-true, eq-eqb, false≢true}
use Rattle.std.proofs.Math.Nat.{mod-eq_of_lt, mod-lt}
use Rattle.std.proofs.lemmas.Nat.{mod-pow-add}
use Rattle.lzk_field.specs.Ring.{Ops, RingLaws}
use Rattle.lzk_field.specs.Sums.{product_below, minus}
use Rattle.lzk_field.proofs.Solve.{var, null, unit, opp, ◌⊞◌, ◌⊟◌, ◌⊠◌, solve}
use Rattle.lzk_poly.specs.Polynomial.{eval, add, scale, multiply}
use Rattle.lzk_poly.proofs.Polynomials.{length-scale, length-add_right, length-multiply, eval-scale, eval-add, eval-multiply}
use Rattle.lzk_afft.specs.Basis.{vanishing, normalized, basis_polynomial, basis_sum}
use Rattle.lzk_afft.proofs.Splits.{below_power}

-- a function that a polynomial with n coefficients has as its values
pub record HasDegree {A : Type 0} (o : Ops A) (n : ℕ) (f : A → A) : Type 0 where
  pub coefficients : List A
  pub count : length coefficients ≡ n
  pub same : (t : A) → eval o coefficients t ≡ f t

module _ {A : Type 0} (o : Ops A) (r : RingLaws o) where
  open o use {plus, times, neg}

  as_function : (n : ℕ) (f g : A → A) → HasDegree o n f → ((t : A) → f t ≡ g t) → HasDegree o n g
  as_function n f g p e = record { coefficients = p.coefficients; count = p.count; same = λ t. p.same t ∙ e t }

  as_count : (n m : ℕ) (f : A → A) → n ≡ m → HasDegree o n f → HasDegree o m f
  as_count n m f e p = record { coefficients = p.coefficients; count = p.count ∙ e; same = p.same }

  one_poly : HasDegree o 1 (λ t. o.one)
  one_poly = record { coefficients = o.one ∷ []; count = refl; same = λ t. solve o r (t ∷ []) (unit ⊞ var 0 ⊠ null) unit refl }

  linear : (p : A) → HasDegree o 2 (λ t. minus o t p)
  linear p = record { coefficients = neg p ∷ o.one ∷ []; count = refl; same = λ t. solve o r (t ∷ p ∷ []) (opp (var 1) ⊞ var 0 ⊠ (unit ⊞ var 0 ⊠ null)) (var 0 ⊟ var 1) refl }

  scaled : (n : ℕ) (f : A → A) (u : A) → HasDegree o n f → HasDegree o n (λ t. times u (f t))
  scaled n f u p = record { coefficients = scale o u p.coefficients; count = length-scale o u p.coefficients ∙ p.count; same = λ t. eval-scale o r u p.coefficients t ∙ ap (times u) (p.same t) }

  summed : (n m : ℕ) (f g : A → A) → n ≤ m → HasDegree o n f → HasDegree o m g → HasDegree o m (λ t. plus (f t) (g t))
  summed n m f g h p q = record {
    coefficients = add o p.coefficients q.coefficients;
    count = length-add_right o p.coefficients q.coefficients (omega (arith, p.count, q.count)) ∙ q.count;
    same = λ t. eval-add o r p.coefficients q.coefficients t ∙ ap (λ v. plus v (eval o q.coefficients t)) (p.same t) ∙ ap (plus (f t)) (q.same t);
  }

  length_product : (a b : ℕ) (xs ys : List A) → length xs ≡ suc a → length ys ≡ suc b → length (multiply o xs ys) ≡ suc (a + b)
  length_product a b [] ys e f = absurd (omega (arith, e))
  length_product a b (x ∷ xs) [] e f = absurd (omega (arith, f))
  length_product a b (x ∷ xs) (y ∷ ys) e f = length-multiply o x y xs ys ∙ omega (arith, e, f)

  multiplied : (a b : ℕ) (f g : A → A) → HasDegree o (suc a) f → HasDegree o (suc b) g → HasDegree o (suc (a + b)) (λ t. times (f t) (g t))
  multiplied a b f g p q = record {
    coefficients = multiply o p.coefficients q.coefficients;
    count = length_product a b p.coefficients q.coefficients p.count q.count;
    same = λ t. eval-multiply o r p.coefficients q.coefficients t ∙ ap (λ v. times v (eval o q.coefficients t)) (p.same t) ∙ ap (times (f t)) (q.same t);
  }

  module _ (point : ℕ → A) where
    differences : (n : ℕ) → HasDegree o (suc n) (λ t. product_below o n (λ u. minus o t (point u)))
    differences zero = one_poly
    differences (suc n) =
        as_count (suc (n + 1)) (suc (suc n)) (λ t. times (product_below o n (λ u. minus o t (point u))) (minus o t (point n))) (omega arith)
        (multiplied n 1 (λ t. product_below o n (λ u. minus o t (point u))) (λ t. minus o t (point n)) (differences n) (linear (point n)))

    normalized_degree : (j : ℕ) → HasDegree o (suc (2 ^ j)) (normalized o point j)
    unfolding normalized vanishing
    normalized_degree j =
        let v = o.inverse (vanishing o point j (point (2 ^ j))) in
        as_function (suc (2 ^ j)) (λ t. times v (vanishing o point j t)) (normalized o point j) (scaled (suc (2 ^ j)) (vanishing o point j) v (differences (2 ^ j))) (λ t. r.times_comm _ _)

    digits_degree : (n k : ℕ) → HasDegree o (suc (k % 2 ^ n)) (λ t. product_below o n (λ j. cond (eqb (k / 2 ^ j % 2) 1) (normalized o point j t) o.one))
    digits_degree zero k = as_count 1 (suc (k % 2 ^ zero)) (λ t. o.one) (omega arith) one_poly
    digits_degree (suc n) k = split (eqb (k / 2 ^ n % 2) 1) refl (digits_degree n k)
      where
        more : k % 2 ^ suc n ≡ (k / 2 ^ n % 2) * 2 ^ n + k % 2 ^ n
        more = let place : suc n ≡ 1 + n = omega arith in ap (λ m. k % 2 ^ m) place ∙ mod-pow-add k 1 n

        split : (b : Bool) → eqb (k / 2 ^ n % 2) 1 ≡ b → HasDegree o (suc (k % 2 ^ n)) (λ t. product_below o n (λ j. cond (eqb (k / 2 ^ j % 2) 1) (normalized o point j t) o.one))
            → HasDegree o (suc (k % 2 ^ suc n)) (λ t. times (product_below o n (λ j. cond (eqb (k / 2 ^ j % 2) 1) (normalized o point j t) o.one)) (cond (eqb (k / 2 ^ n % 2) 1) (normalized o point n t) o.one))
        split true e known =
            let lower : A → A = λ t. product_below o n (λ j. cond (eqb (k / 2 ^ j % 2) 1) (normalized o point j t) o.one) in
            let digit : k / 2 ^ n % 2 ≡ 1 = eqb-true (k / 2 ^ n % 2) 1 (subst (λ (b : Bool). b ≡ true) (sym e) refl) in
            let sum : k % 2 ^ suc n ≡ k % 2 ^ n + 2 ^ n = more ∙ ap (λ d. d * 2 ^ n + k % 2 ^ n) digit ∙ omega arith in
            as_count (suc (k % 2 ^ n + 2 ^ n)) (suc (k % 2 ^ suc n)) (λ t. times (lower t) (cond (eqb (k / 2 ^ n % 2) 1) (normalized o point n t) o.one)) (ap suc (sym sum))
            (as_function (suc (k % 2 ^ n + 2 ^ n)) (λ t. times (lower t) (normalized o point n t)) (λ t. times (lower t) (cond (eqb (k / 2 ^ n % 2) 1) (normalized o point n t) o.one))
            (multiplied (k % 2 ^ n) (2 ^ n) lower (normalized o point n) known (normalized_degree n))
            (λ t. ap (λ b. times (lower t) (cond b (normalized o point n t) o.one)) (sym e)))
        split false e known =
            let lower : A → A = λ t. product_below o n (λ j. cond (eqb (k / 2 ^ j % 2) 1) (normalized o point j t) o.one) in
            let differ : k / 2 ^ n % 2 ≢ 1 = λ s. false≢true (sym e ∙ eq-eqb (k / 2 ^ n % 2) 1 s) in
            let small : k / 2 ^ n % 2 < 2 = mod-lt (k / 2 ^ n) (omega arith) in
            let digit : k / 2 ^ n % 2 ≡ 0 = omega (arith, differ, small) in
            let sum : k % 2 ^ suc n ≡ k % 2 ^ n = more ∙ ap (λ d. d * 2 ^ n + k % 2 ^ n) digit ∙ omega arith in
            as_count (suc (k % 2 ^ n)) (suc (k % 2 ^ suc n)) (λ t. times (lower t) (cond (eqb (k / 2 ^ n % 2) 1) (normalized o point n t) o.one)) (ap suc (sym sum))
            (as_function (suc (k % 2 ^ n)) lower (λ t. times (lower t) (cond (eqb (k / 2 ^ n % 2) 1) (normalized o point n t) o.one)) known
            (λ t. sym (ap (λ b. times (lower t) (cond b (normalized o point n t) o.one)) e ∙ r.times_one (lower t))))

    pub basis_degree : (k : ℕ) → HasDegree o (suc k) (basis_polynomial o point k)
    unfolding basis_polynomial
    basis_degree k = as_count (suc (k % 2 ^ k)) (suc k) (basis_polynomial o point k) (ap suc (mod-eq_of_lt (below_power k))) (digits_degree k k)

    pub basis_sum_degree : (c : ℕ → A) (n : ℕ) → HasDegree o n (basis_sum o point c n)
    unfolding basis_sum
    basis_sum_degree c zero = record { coefficients = []; count = refl; same = λ t. refl }
    basis_sum_degree c (suc n) = summed n (suc n) (basis_sum o point c n) (λ t. times (c n) (basis_polynomial o point n t)) (omega arith) (basis_sum_degree c n) (scaled (suc n) (basis_polynomial o point n) (c n) (basis_degree n))
