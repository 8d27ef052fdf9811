-- The polynomial through given values exists.
use Rattle.std.specs.Prelude.{◌≡◌, ◌≢◌, ℕ, ◌<◌, ◌≤◌, List, [], ◌∷◌, length, true, false, Bool, cond}
use Rattle.std.proofs.Common.{zero, suc, refl, sym, ap, ◌∙◌, arith, eqb}
use Rattle.std.proofs.lemmas.Bool.{eqb-true, eq-eqb, false≢true}
use native.Mathlib.Decide.{dec_lt}
use Rattle.lzk_field.specs.Ring.{Ops, RingLaws, FieldLaws, Laws}
use Rattle.lzk_field.specs.Sums.{minus, product_below, sum_below, entry}
use Rattle.lzk_poly.specs.Polynomial.{eval}
use Rattle.lzk_field.proofs.RingBasics.{zero_plus, times_zero, zero_times, same_from_difference, no_divisors, inverse_unique}
use Rattle.lzk_field.proofs.Numbering.{points_apart}
use Rattle.lzk_field.proofs.SumLaws.{sum-ext, sum-times}
use Rattle.lzk_field.proofs.Solve.{var, null, unit, ◌⊞◌, ◌⊟◌, ◌⊠◌, solve}
use Rattle.lzk_poly.specs.Extension.{IsThrough, IsInterpolated, IsExtension, others, lagrange, extension}
use Rattle.lzk_poly.proofs.Roots.{same_from_values}

module _ {A : Type 0} (o : Ops A) where
  -- (x - a) times a polynomial, with what comes from below
  abbrev root_from : A → A → List A → List A
  root_from a carry [] = carry ∷ []
  root_from a carry (c ∷ cs) = minus o carry (o.times a c) ∷ root_from a c cs

  abbrev add_scaled : List A → A → List A → List A
  add_scaled [] u ys = []
  add_scaled (x ∷ xs) u [] = x ∷ xs
  add_scaled (x ∷ xs) u (y ∷ ys) = o.plus x (o.times u y) ∷ add_scaled xs u ys

  root_from_length : (a carry : A) (cs : List A) → length (root_from a carry cs) ≡ suc (length cs)
  root_from_length a carry [] = refl
  root_from_length a carry (c ∷ cs) = ap suc (root_from_length a c cs)

  add_scaled_length : (xs : List A) (u : A) (ys : List A) → length xs ≡ length ys → length (add_scaled xs u ys) ≡ length xs
  add_scaled_length [] u ys e = refl
  add_scaled_length (x ∷ xs) u [] e = refl
  add_scaled_length (x ∷ xs) u (y ∷ ys) e = ap suc (add_scaled_length xs u ys (omega arith))

  module _ (point : ℕ → A) where
    -- (x - x_0) .. (x - x_(m-1))
    abbrev pub before : ℕ → A → A
    before m x = product_below o m (λ k. minus o x (point k))

    abbrev roots_list : ℕ → List A
    roots_list zero = o.one ∷ []
    roots_list (suc m) = root_from (point m) o.zero (roots_list m)

    -- one more node at each turn
    abbrev pub built : (ℕ → A) → ℕ → A → A
    built u zero x = o.zero
    built u (suc m) x = o.plus (o.times (minus o x (point m)) (built u m x)) (o.times (u m) (before m x))

    abbrev curve : (ℕ → A) → ℕ → List A
    curve u zero = []
    curve u (suc m) = add_scaled (root_from (point m) o.zero (curve u m)) (u m) (roots_list m)

    roots_list_length : (m : ℕ) → length (roots_list m) ≡ suc m
    roots_list_length zero = refl
    roots_list_length (suc m) = root_from_length (point m) o.zero (roots_list m) ∙ ap suc (roots_list_length m)

    curve_length : (u : ℕ → A) (m : ℕ) → length (curve u m) ≡ m
    curve_length u zero = refl
    curve_length u (suc m) =
        let first = root_from_length (point m) o.zero (curve u m) ∙ ap suc (curve_length u m) in
        add_scaled_length (root_from (point m) o.zero (curve u m)) (u m) (roots_list m) (first ∙ sym (roots_list_length m)) ∙ first

module _ {A : Type 0} (o : Ops A) (r : RingLaws o) where
  root_from-eval : (a carry : A) (cs : List A) (t : A) → eval o (root_from o a carry cs) t ≡ o.plus carry (o.times (minus o t a) (eval o cs t))
  root_from-eval a carry [] t = let C = var 0 in let T = var 1 in let R = var 2 in solve o r (carry ∷ t ∷ a ∷ []) (C ⊞ T ⊠ null) (C ⊞ (T ⊟ R) ⊠ null) refl
  root_from-eval a carry (c ∷ cs) t =
      let K = var 0 in let C = var 1 in let T = var 2 in let R = var 3 in let E = var 4 in
      ap (λ w. o.plus (minus o carry (o.times a c)) (o.times t w)) (root_from-eval a c cs t)
      ∙ solve o r (carry ∷ c ∷ t ∷ a ∷ eval o cs t ∷ []) ((K ⊟ R ⊠ C) ⊞ T ⊠ (C ⊞ (T ⊟ R) ⊠ E)) (K ⊞ (T ⊟ R) ⊠ (C ⊞ T ⊠ E)) refl

  add_scaled-eval : (xs : List A) (u : A) (ys : List A) (t : A) → length xs ≡ length ys → eval o (add_scaled o xs u ys) t ≡ o.plus (eval o xs t) (o.times u (eval o ys t))
  add_scaled-eval [] u [] t e = let U = var 0 in solve o r (u ∷ []) null (null ⊞ U ⊠ null) refl
  add_scaled-eval [] u (y ∷ ys) t e = absurd (omega arith)
  add_scaled-eval (x ∷ xs) u [] t e = absurd (omega arith)
  add_scaled-eval (x ∷ xs) u (y ∷ ys) t e =
      let X = var 0 in let U = var 1 in let Y = var 2 in let T = var 3 in let E = var 4 in let F = var 5 in
      ap (λ w. o.plus (o.plus x (o.times u y)) (o.times t w)) (add_scaled-eval xs u ys t (omega arith))
      ∙ solve o r (x ∷ u ∷ y ∷ t ∷ eval o xs t ∷ eval o ys t ∷ []) (X ⊞ U ⊠ Y ⊞ T ⊠ (E ⊞ U ⊠ F)) (X ⊞ T ⊠ E ⊞ U ⊠ (Y ⊞ T ⊠ F)) refl

  module _ (point : ℕ → A) where
    roots_list-eval : (m : ℕ) (x : A) → eval o (roots_list o point m) x ≡ before o point m x
    roots_list-eval zero x = r.plus_comm _ _ ∙ ap (λ w. o.plus w o.one) (times_zero o r x) ∙ zero_plus o r o.one
    roots_list-eval (suc m) x =
        root_from-eval (point m) o.zero (roots_list o point m) x ∙ zero_plus o r _ ∙ r.times_comm _ _ ∙ ap (λ w. o.times w (minus o x (point m))) (roots_list-eval m x)

    pub curve-eval : (u : ℕ → A) (m : ℕ) (x : A) → eval o (curve o point u m) x ≡ built o point u m x
    curve-eval u zero x = refl
    curve-eval u (suc m) x =
        add_scaled-eval (root_from o (point m) o.zero (curve o point u m)) (u m) (roots_list o point m) x (root_from_length o (point m) o.zero (curve o point u m) ∙ ap suc (curve_length o point u m) ∙ sym (roots_list_length o point m))
        ∙ ap (λ w. o.plus w (o.times (u m) (eval o (roots_list o point m) x))) (root_from-eval (point m) o.zero (curve o point u m) x ∙ zero_plus o r _ ∙ ap (o.times (minus o x (point m))) (curve-eval u m x))
        ∙ ap (λ w. o.plus (o.times (minus o x (point m)) (built o point u m x)) (o.times (u m) w)) (roots_list-eval m x)

    -- a node passed makes the product zero
    before-zero : (m i : ℕ) → i < m → before o point m (point i) ≡ o.zero
    before-zero zero i h = absurd (omega arith)
    before-zero (suc m) i h = last (dec_lt i m) (before-zero m i)
      where
        last : Dec (i < m) → (i < m → before o point m (point i) ≡ o.zero) → before o point (suc m) (point i) ≡ o.zero
        last (yes p) ih = ap (λ w. o.times w (minus o (point i) (point m))) (ih p) ∙ zero_times o r _
        last (no p) ih = let e : i ≡ m = omega arith in ap (λ w. o.times (before o point m (point i)) (minus o (point i) (point w))) (sym e) ∙ ap (o.times _) (r.plus_neg (point i)) ∙ times_zero o r _

    -- with no node left out
    others-before : (m i : ℕ) → m ≤ i → others o point m i (point i) ≡ before o point m (point i)
    others-before zero i h = refl
    others-before (suc m) i h =
        ap (λ w. o.times w (cond (eqb m i) o.one (minus o (point i) (point m)))) (others-before m i (omega arith))
        ∙ ap (λ b. o.times (before o point m (point i)) (cond b o.one (minus o (point i) (point m)))) (differ m i (omega arith))
      where
        differ : (m i : ℕ) → m < i → eqb m i ≡ false
        differ m i h = go (eqb m i) refl
          where
            go : (b : Bool) → eqb m i ≡ b → eqb m i ≡ false
            go false e = e
            go true e = absurd (omega (arith, eqb-true m i e))

    -- its value at a node
    built-node : (u : ℕ → A) (m i : ℕ) → i < m → built o point u m (point i) ≡ o.times (u i) (others o point m i (point i))
    built-node u zero i h = absurd (omega arith)
    built-node u (suc m) i h = at_node (dec_lt i m) (built-node u m i)
      where
        unlike : i < m → eqb m i ≡ false
        unlike p = go (eqb m i) refl
          where
            go : (b : Bool) → eqb m i ≡ b → eqb m i ≡ false
            go false e = e
            go true e = absurd (omega (arith, eqb-true m i e))

        at_node : Dec (i < m) → (i < m → built o point u m (point i) ≡ o.times (u i) (others o point m i (point i))) → built o point u (suc m) (point i) ≡ o.times (u i) (others o point (suc m) i (point i))
        at_node (yes p) ih =
            let D = var 0 in let U = var 1 in let O = var 2 in let W = var 3 in
            let d = minus o (point i) (point m) in
            ap (λ w. o.plus (o.times d w) (o.times (u m) (before o point m (point i)))) (ih p)
            ∙ ap (λ w. o.plus (o.times d (o.times (u i) (others o point m i (point i)))) (o.times (u m) w)) (before-zero m i p)
            ∙ solve o r (d ∷ u i ∷ others o point m i (point i) ∷ u m ∷ []) (D ⊠ (U ⊠ O) ⊞ W ⊠ null) (U ⊠ (O ⊠ D)) refl
            ∙ ap (λ b. o.times (u i) (o.times (others o point m i (point i)) (cond b o.one d))) (sym (unlike p))
        at_node (no p) ih =
            let e : m ≡ i = omega arith in
            let X = var 0 in let B = var 1 in let U = var 2 in let P = var 3 in
            ap (λ k. o.plus (o.times (minus o (point i) (point k)) (built o point u m (point i))) (o.times (u k) (before o point m (point i)))) e
            ∙ solve o r (point i ∷ built o point u m (point i) ∷ u i ∷ before o point m (point i) ∷ []) ((X ⊟ X) ⊠ B ⊞ U ⊠ P) (U ⊠ (P ⊠ unit)) refl
            ∙ ap (λ w. o.times (u i) (o.times w o.one)) (sym (others-before m i (omega arith)))
            ∙ ap (λ b. o.times (u i) (o.times (others o point m i (point i)) (cond b o.one (minus o (point i) (point m))))) (sym (eq-eqb m i e))

    -- values times weights
    abbrev pub weighted : List A → (ℕ → A) → ℕ → A
    weighted values w i = o.times (entry o values i) (w i)

    module _ (f : FieldLaws o) (n : ℕ) (apart : (i j : ℕ) → i < j → j < n → point i ≢ point j) (values : List A) (w : ℕ → A) (count : length values ≡ n) (weights : (i : ℕ) → i < n → o.times (w i) (others o point n i (point i)) ≡ o.one) where
      through : List A
      through = curve o point (weighted values w) n

      is_through : IsThrough o point values through
      unfolding through
      is_through = record {
        count = curve_length o point (weighted values w) n ∙ sym count;
        meets = λ i h. curve-eval (weighted values w) n (point i) ∙ built-node (weighted values w) n i (omega (arith, count)) ∙ r.times_assoc _ _ _ ∙ ap (o.times (entry o values i)) (weights i (omega (arith, count))) ∙ r.times_one _;
      }

      interpolated : IsInterpolated o point values
      interpolated = record {
        through = through;
        is_through = is_through;
        only = λ d is. same_from_values o r f d through point (is.count ∙ sym is_through.count)
            (λ i k p q. apart i k p (omega (arith, is.count, count)))
            (λ i h. is.meets i (omega (arith, is.count)) ∙ sym (is_through.meets i (omega (arith, is.count))));
      }

      pub is_extension : (j : ℕ) (y : A) → y ≡ built o point (weighted values w) n (point j) → IsExtension o point values j y
      unfolding through interpolated
      is_extension j y e = record {
        one = interpolated;
        value = e ∙ sym (curve-eval (weighted values w) n (point j));
      }

    -- the sum of what each value adds
    others-self : (m i : ℕ) (x : A) → m ≤ i → others o point m i x ≡ before o point m x
    others-self zero i x h = refl
    others-self (suc m) i x h =
        ap (λ v. o.times v (cond (eqb m i) o.one (minus o x (point m)))) (others-self m i x (omega arith))
        ∙ ap (λ b. o.times (before o point m x) (cond b o.one (minus o x (point m)))) (unlike m i (omega arith))
      where
        unlike : (m i : ℕ) → m < i → eqb m i ≡ false
        unlike m i h = go (eqb m i) refl
          where
            go : (b : Bool) → eqb m i ≡ b → eqb m i ≡ false
            go false e = e
            go true e = absurd (omega (arith, eqb-true m i e))

    pub built-sum : (u : ℕ → A) (m : ℕ) (x : A) → built o point u m x ≡ sum_below o m (λ i. o.times (u i) (others o point m i x))
    built-sum u zero x = refl
    built-sum u (suc m) x =
        ap (λ v. o.plus v (o.times (u m) (before o point m x)))
        (ap (o.times (minus o x (point m))) (built-sum u m x)
        ∙ sym (sum-times o r m (minus o x (point m)) (λ i. o.times (u i) (others o point m i x)))
        ∙ sum-ext o r m (λ i. o.times (minus o x (point m)) (o.times (u i) (others o point m i x))) (λ i. o.times (u i) (others o point (suc m) i x)) inner)
        ∙ ap (o.plus (sum_below o m (λ i. o.times (u i) (others o point (suc m) i x)))) (ap (o.times (u m)) last)
      where
        unlike : (i : ℕ) → i < m → eqb m i ≡ false
        unlike i h = go (eqb m i) refl
          where
            go : (b : Bool) → eqb m i ≡ b → eqb m i ≡ false
            go false e = e
            go true e = absurd (omega (arith, eqb-true m i e))

        inner : (i : ℕ) → i < m → o.times (minus o x (point m)) (o.times (u i) (others o point m i x)) ≡ o.times (u i) (others o point (suc m) i x)
        inner i h =
            let D = var 0 in let U = var 1 in let O = var 2 in
            solve o r (minus o x (point m) ∷ u i ∷ others o point m i x ∷ []) (D ⊠ (U ⊠ O)) (U ⊠ (O ⊠ D)) refl
            ∙ ap (λ b. o.times (u i) (o.times (others o point m i x) (cond b o.one (minus o x (point m))))) (sym (unlike i h))

        last : before o point m x ≡ others o point (suc m) m x
        last = sym (others-self m m x (omega arith)) ∙ sym (r.times_one _) ∙ ap (λ b. o.times (others o point m m x) (cond b o.one (minus o x (point m)))) (sym (eq-eqb m m refl))

    -- Lagrange's formula, with any right weights
    pub built-extension : (f : FieldLaws o) (values : List A) (w : ℕ → A) (weights : (i : ℕ) → i < length values → o.times (w i) (others o point (length values) i (point i)) ≡ o.one) (j : ℕ)
        → built o point (weighted values w) (length values) (point j) ≡ extension o point values j
    built-extension f values w weights j =
        let n = length values in
        built-sum (weighted values w) n (point j)
        ∙ sum-ext o r n (λ i. o.times (weighted values w i) (others o point n i (point j))) (λ i. o.times (entry o values i) (lagrange o point n i (point j)))
        (λ i h. r.times_assoc _ _ _ ∙ ap (o.times (entry o values i)) (r.times_comm _ _ ∙ ap (o.times (others o point n i (point j))) (inverse_unique o r f (others o point n i (point i)) (w i) (r.times_comm _ _ ∙ weights i h))))

module _ {A : Type 0} (o : Ops A) (r : RingLaws o) (f : FieldLaws o) where
  pub others_nonzero : (point : ℕ → A) (n : ℕ) → ((i j : ℕ) → i < j → j < n → point i ≢ point j) → (m i : ℕ) → m ≤ n → i < n → others o point m i (point i) ≢ o.zero
  others_nonzero point n apart zero i h p e = f.one_not_zero e
  others_nonzero point n apart (suc m) i h p e = split (eqb m i) refl (others_nonzero point n apart m i (omega arith) p) e
    where
      split : (b : Bool) → eqb m i ≡ b → others o point m i (point i) ≢ o.zero → o.times (others o point m i (point i)) (cond b o.one (minus o (point i) (point m))) ≢ o.zero
      split true d ne e = ne (sym (r.times_one _) ∙ e)
      split false d ne e = differ (dec_lt i m) (dec_lt m i) (same_from_difference o r (point i) (point m) (no_divisors o r f (others o point m i (point i)) (minus o (point i) (point m)) ne e))
        where
          differ : Dec (i < m) → Dec (m < i) → point i ≢ point m
          differ (yes l) b = apart i m l (omega arith)
          differ (no a) (yes l) = λ z. apart m i l p (sym z)
          differ (no a) (no b) = absurd (false≢true (sym d ∙ eq-eqb m i (omega arith)))

  -- there is one polynomial through any values at points that are apart
  pub one_through : (point : ℕ → A) (values : List A) → ((i j : ℕ) → i < j → j < length values → point i ≢ point j) → IsInterpolated o point values
  one_through point values apart =
      let n = length values in
      interpolated o r point f n apart values (λ i. o.inverse (others o point n i (point i))) refl
      (λ i h. r.times_comm _ _ ∙ f.times_inverse _ (others_nonzero point n apart n i (omega arith) h))

  -- and Lagrange's formula gives its values
  pub extension_is : (point : ℕ → A) (values : List A) → ((i j : ℕ) → i < j → j < length values → point i ≢ point j) → (j : ℕ) → IsExtension o point values j (extension o point values j)
  extension_is point values apart j =
      let n = length values in
      let w : ℕ → A = λ i. o.inverse (others o point n i (point i)) in
      let right : (i : ℕ) → i < n → o.times (w i) (others o point n i (point i)) ≡ o.one = λ i h. r.times_comm _ _ ∙ f.times_inverse _ (others_nonzero point n apart n i (omega arith) h) in
      is_extension o r point f n apart values w refl right j (extension o point values j) (sym (built-extension o r point f values w right j))

-- the same of a field's own points
module _ {A : Type 0} {o : Ops A} {size : ℕ} {number_of : A → ℕ} {element : ℕ → A} {bytes : ℕ} (laws : Laws o size number_of element bytes) where
  pub points_interpolated : (values : List A) → length values ≤ 65536 → IsInterpolated o element values
  points_interpolated values h = one_through o laws.ring laws.field element values (points_apart laws (length values) h)
