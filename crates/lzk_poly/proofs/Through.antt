-- The polynomial through given values is that, and its values are those of Lagrange's formula.
use Rattle.std.specs.Prelude.{◌≡◌, ◌≢◌, ℕ, ◌<◌, ◌≤◌, Bool, true, false, cond, List, [], ◌∷◌, length}
use Rattle.std.proofs.Common.{zero, suc, refl, sym, ap, ◌∙◌, arith, eqb}
use Rattle.std.proofs.lemmas.Bool.{eqb-true, eq-eqb}
use Rattle.std.proofs.lemmas.List.FromFn.{length-map-range_with_len, get_or-map-range_with_len}
use native.Mathlib.Decide.{dec_lt}
use Rattle.lzk_field.specs.Ring.{Ops, RingLaws, FieldLaws}
use Rattle.lzk_field.specs.Sums.{sum_below, minus, entry}
use Rattle.lzk_field.proofs.SumLaws.{sum-ext}
use Rattle.lzk_field.proofs.Solve.{var, null, unit, opp, ◌⊞◌, ◌⊟◌, ◌⊠◌, solve}
use Rattle.lzk_poly.specs.Polynomial.{eval, scale, multiply}
use Rattle.lzk_poly.specs.Extension.{IsThrough, extension, others, lagrange}
use Rattle.lzk_poly.specs.Through.{add_below, other_roots, through, through_at, values_of}
use Rattle.lzk_poly.proofs.Polynomials.{length-scale, length-add, length-add_left, length-multiply, eval-scale, eval-add, eval-multiply}
use Rattle.lzk_poly.proofs.Roots.{same_from_values}
use Rattle.lzk_poly.proofs.Extensions.{extension-eval, extension-given}

differ : (m i : ℕ) → m ≢ i → eqb m i ≡ false
differ m i ne = go (eqb m i) refl
  where
    go : (b : Bool) → eqb m i ≡ b → eqb m i ≡ false
    go false e = e
    go true e = absurd (ne (eqb-true m i e))

module _ {A : Type 0} (o : Ops A) where
  -- a sum of polynomials is no longer than any bound on them
  pub length-add_below_most : (bound n : ℕ) (f : ℕ → List A) → ((i : ℕ) → i < n → length (f i) ≤ bound) → length (add_below o n f) ≤ bound
  length-add_below_most bound zero f each = omega arith
  length-add_below_most bound (suc n) f each = length-add o bound (add_below o n f) (f n) (length-add_below_most bound n f (λ i h. each i (omega arith))) (each n (omega arith))

  -- of one length it has that length
  length-add_below : (m n : ℕ) (f : ℕ → List A) → ((i : ℕ) → i < suc m → length (f i) ≡ n) → length (add_below o (suc m) f) ≡ n
  length-add_below zero n f each = each 0 (omega arith)
  length-add_below (suc m) n f each =
      let before = length-add_below m n f (λ i h. each i (omega arith)) in
      length-add_left o (add_below o (suc m) f) (f (suc m)) (omega (arith, before, each (suc m) (omega arith))) ∙ before

  length-linear : (x z : A) (ys : List A) → 1 ≤ length ys → length (multiply o (x ∷ z ∷ []) ys) ≡ suc (length ys)
  length-linear x z [] h = absurd (omega arith)
  length-linear x z (y ∷ ys) h = length-multiply o x y (z ∷ []) ys ∙ omega arith

  module _ (point : ℕ → A) where
    with_test : (i n : ℕ) (b : Bool) → eqb n i ≡ b → other_roots o point i (suc n) ≡ cond b (other_roots o point i n) (multiply o (o.neg (point n) ∷ o.one ∷ []) (other_roots o point i n))
    with_test i n b e = ap (λ w. cond w (other_roots o point i n) (multiply o (o.neg (point n) ∷ o.one ∷ []) (other_roots o point i n))) e

    length-longer : (i n : ℕ) → n ≤ i → length (other_roots o point i n) ≡ suc n
    length-longer i zero h = refl
    length-longer i (suc n) h =
        let before = length-longer i n (omega arith) in
        ap length (with_test i n false (differ n i (λ e. omega (arith, e, h))))
        ∙ length-linear _ _ (other_roots o point i n) (omega (arith, before)) ∙ ap suc before

    length-roots : (i n : ℕ) → i < n → length (other_roots o point i n) ≡ n
    length-roots i zero h = absurd (omega arith)
    length-roots i (suc n) h =
        elim (dec_lt i n) [
          | yes l ↦
              let before = length-roots i n l in
              ap length (with_test i n false (differ n i (λ e. omega (arith, e, l)))) ∙ length-linear _ _ (other_roots o point i n) (omega (arith, before, l)) ∙ ap suc before
          | no l ↦ ap length (with_test i n true (eq-eqb n i (omega arith))) ∙ length-longer i n (omega arith)
        ]

    -- there are as many coefficients as values
    pub length-through : (values : List A) → length (through o point values) ≡ length values
    unfolding through
    length-through [] = refl
    length-through (v ∷ vs) =
        length-add_below (length vs) (length (v ∷ vs)) _ (λ i h. length-scale o _ (other_roots o point i (length (v ∷ vs))) ∙ length-roots i (length (v ∷ vs)) (omega (arith, h)))

    pub length-values_of : (n : ℕ) (cs : List A) → length (values_of o point n cs) ≡ n
    length-values_of n cs = length-map-range_with_len (λ k. eval o cs (point k)) 0 n

    pub entry-values_of : (n : ℕ) (cs : List A) (i : ℕ) → i < n → entry o (values_of o point n cs) i ≡ eval o cs (point i)
    entry-values_of n cs i h = get_or-map-range_with_len (λ k. eval o cs (point k)) 0 n i i o.zero h (omega arith)

module _ {A : Type 0} (o : Ops A) (r : RingLaws o) where
  pub eval-add_below : (n : ℕ) (f : ℕ → List A) (t : A) → eval o (add_below o n f) t ≡ sum_below o n (λ i. eval o (f i) t)
  eval-add_below zero f t = refl
  eval-add_below (suc n) f t = eval-add o r (add_below o n f) (f n) t ∙ ap (λ w. o.plus w (eval o (f n) t)) (eval-add_below n f t)

  module _ (point : ℕ → A) where
    eval-roots : (i n : ℕ) (t : A) → eval o (other_roots o point i n) t ≡ others o point n i t
    eval-roots i zero t = let T = var 0 in solve o r (t ∷ []) (unit ⊞ T ⊠ null) unit refl
    eval-roots i (suc n) t = go (eqb n i) (eval-roots i n t)
      where
        p : A
        p = point n

        rest : List A
        rest = other_roots o point i n

        go : (b : Bool) → eval o rest t ≡ others o point n i t → eval o (cond b rest (multiply o (o.neg p ∷ o.one ∷ []) rest)) t ≡ o.times (others o point n i t) (cond b o.one (minus o t p))
        go true ih = ih ∙ sym (r.times_one _)
        go false ih =
            let P = var 0 in let T = var 1 in let O = var 2 in
            eval-multiply o r (o.neg p ∷ o.one ∷ []) rest t
            ∙ ap (o.times (eval o (o.neg p ∷ o.one ∷ []) t)) ih
            ∙ solve o r (p ∷ t ∷ others o point n i t ∷ []) ((opp P ⊞ T ⊠ (unit ⊞ T ⊠ null)) ⊠ O) (O ⊠ (T ⊟ P)) refl

    -- its value at t is that of Lagrange's formula
    pub eval-through : (values : List A) (t : A) → eval o (through o point values) t ≡ through_at o point values t
    unfolding through
    eval-through values t =
        let n = length values in
        let w : ℕ → A = λ i. o.inverse (others o point n i (point i)) in
        let f : ℕ → List A = λ i. scale o (o.times (entry o values i) (w i)) (other_roots o point i n) in
        let V = var 0 in let W = var 1 in let O = var 2 in
        eval-add_below n f t
        ∙ sum-ext o r n (λ i. eval o (f i) t) (λ i. o.times (entry o values i) (lagrange o point n i t))
        (λ i h.
        eval-scale o r _ (other_roots o point i n) t ∙ ap (o.times (o.times (entry o values i) (w i))) (eval-roots i n t)
        ∙ solve o r (entry o values i ∷ w i ∷ others o point n i t ∷ []) ((V ⊠ W) ⊠ O) (V ⊠ (O ⊠ W)) refl)

module _ {A : Type 0} (o : Ops A) (r : RingLaws o) (f : FieldLaws o) (point : ℕ → A) where
  -- it is the polynomial through the values
  pub is_through : (values : List A) → ((i j : ℕ) → i < j → j < length values → point i ≢ point j) → IsThrough o point values (through o point values)
  is_through values apart = record {
    count = length-through o point values;
    meets = λ i h. eval-through o r point values (point i) ∙ extension-given o r f point values apart i h;
  }

  pub through-only : (values cs : List A) → ((i j : ℕ) → i < j → j < length values → point i ≢ point j) → IsThrough o point values cs → cs ≡ through o point values
  through-only values cs apart is =
      let t = is_through values apart in
      same_from_values o r f cs (through o point values) point (is.count ∙ sym t.count)
      (λ i j p q. apart i j p (omega (arith, is.count)))
      (λ i h. is.meets i (omega (arith, is.count)) ∙ sym (t.meets i (omega (arith, is.count))))

  -- a polynomial with no more coefficients than n is extended from its values at the first n points
  pub extension-values_of : (n : ℕ) (cs : List A) → length cs ≤ n → ((i j : ℕ) → i < j → j < n → point i ≢ point j) → (j : ℕ) → extension o point (values_of o point n cs) j ≡ eval o cs (point j)
  extension-values_of n cs short apart j =
      let l = length-values_of o point n cs in
      extension-eval o r f point cs (values_of o point n cs) (omega (arith, l, short))
      (λ i k p q. apart i k p (omega (arith, q, l)))
      (λ i h. sym (entry-values_of o point n cs i (omega (arith, h, l)))) j

  -- and is the polynomial through them, where it has n coefficients
  pub through-values_of : (n : ℕ) (cs : List A) → length cs ≡ n → ((i j : ℕ) → i < j → j < n → point i ≢ point j) → through o point (values_of o point n cs) ≡ cs
  through-values_of n cs e apart =
      let l = length-values_of o point n cs in
      sym (through-only (values_of o point n cs) cs (λ i k p q. apart i k p (omega (arith, q, l))) (record {
        count = e ∙ sym l;
        meets = λ i h. sym (entry-values_of o point n cs i (omega (arith, h, l)));
      }))
