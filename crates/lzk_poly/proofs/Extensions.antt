-- What is known of the values of the polynomial through given values.
use Rattle.std.specs.Prelude.{◌≡◌, ◌≢◌, ℕ, ◌<◌, ◌≤◌, List, [], ◌∷◌, length}
use Rattle.std.proofs.Common.{zero, suc, refl, sym, ap, ◌∙◌, arith}
use Rattle.lzk_field.specs.Ring.{Ops, RingLaws, FieldLaws}
use Rattle.lzk_field.specs.Sums.{sum_below, entry}
use Rattle.lzk_field.proofs.RingBasics.{zero_plus, plus_times}
use Rattle.lzk_field.proofs.SumLaws.{sum-ext, sum-plus, sum-times}
use Rattle.lzk_poly.specs.Polynomial.{eval, add, scale}
use Rattle.lzk_poly.specs.Extension.{IsExtension, extension, lagrange}
use Rattle.lzk_poly.proofs.Polynomials.{same_everywhere, length-scale, length-add_right}
use Rattle.lzk_poly.proofs.Interpolate.{extension_is}

module _ {A : Type 0} (o : Ops A) (r : RingLaws o) where
  pub entry-scale : (u : A) (xs : List A) (i : ℕ) → i < length xs → entry o (scale o u xs) i ≡ o.times u (entry o xs i)
  entry-scale u [] i h = absurd (omega arith)
  entry-scale u (x ∷ xs) zero h = refl
  entry-scale u (x ∷ xs) (suc i) h = entry-scale u xs i (omega arith)

  pub entry-add : (xs ys : List A) (i : ℕ) → length xs ≡ length ys → entry o (add o xs ys) i ≡ o.plus (entry o xs i) (entry o ys i)
  entry-add [] [] i h = sym (zero_plus o r o.zero)
  entry-add [] (y ∷ ys) i h = absurd (omega arith)
  entry-add (x ∷ xs) [] i h = absurd (omega arith)
  entry-add (x ∷ xs) (y ∷ ys) zero h = refl
  entry-add (x ∷ xs) (y ∷ ys) (suc i) h = entry-add xs ys i (omega arith)

  module _ (point : ℕ → A) where
    -- extension is linear in the values
    pub extension-scale : (u : A) (values : List A) (j : ℕ) → extension o point (scale o u values) j ≡ o.times u (extension o point values j)
    extension-scale u values j =
        let n = length values in
        let l : ℕ → A = λ i. lagrange o point n i (point j) in
        ap (λ m. sum_below o m (λ i. o.times (entry o (scale o u values) i) (lagrange o point m i (point j)))) (length-scale o u values)
        ∙ sum-ext o r n (λ i. o.times (entry o (scale o u values) i) (l i)) (λ i. o.times u (o.times (entry o values i) (l i)))
        (λ i h. ap (λ w. o.times w (l i)) (entry-scale u values i h) ∙ r.times_assoc _ _ _)
        ∙ sum-times o r n u (λ i. o.times (entry o values i) (l i))

    pub extension-add : (xs ys : List A) (j : ℕ) → length xs ≡ length ys → extension o point (add o xs ys) j ≡ o.plus (extension o point xs j) (extension o point ys j)
    extension-add xs ys j e =
        let n = length ys in
        let l : ℕ → A = λ i. lagrange o point n i (point j) in
        ap (λ m. sum_below o m (λ i. o.times (entry o (add o xs ys) i) (lagrange o point m i (point j)))) (length-add_right o xs ys (omega arith))
        ∙ sum-ext o r n (λ i. o.times (entry o (add o xs ys) i) (l i)) (λ i. o.plus (o.times (entry o xs i) (l i)) (o.times (entry o ys i) (l i)))
        (λ i h. ap (λ w. o.times w (l i)) (entry-add xs ys i e) ∙ plus_times o r _ _ _)
        ∙ sum-plus o r n (λ i. o.times (entry o xs i) (l i)) (λ i. o.times (entry o ys i) (l i))
        ∙ ap (λ m. o.plus (sum_below o m (λ i. o.times (entry o xs i) (lagrange o point m i (point j)))) (extension o point ys j)) (sym e)

module _ {A : Type 0} (o : Ops A) (r : RingLaws o) (f : FieldLaws o) (point : ℕ → A) where
  -- the extension of a polynomial's values is the polynomial's value, where it has no more coefficients than there are values
  pub extension-eval : (cs values : List A) → length cs ≤ length values
      → ((i j : ℕ) → i < j → j < length values → point i ≢ point j)
      → ((i : ℕ) → i < length values → eval o cs (point i) ≡ entry o values i)
      → (j : ℕ) → extension o point values j ≡ eval o cs (point j)
  extension-eval cs values short apart meets j =
      let e = extension_is o r f point values apart j in
      let through = e.one.through in
      let is = e.one.is_through in
      e.value ∙ sym (same_everywhere o r f (length values) cs through point short (omega (arith, is.count)) apart (λ i h. meets i h ∙ sym (is.meets i h)) (point j))

  -- the one value that is an extension
  pub extension-only : (values : List A) → ((i j : ℕ) → i < j → j < length values → point i ≢ point j) → (j : ℕ) (y : A) → IsExtension o point values j y → y ≡ extension o point values j
  extension-only values apart j y is =
      let e = extension_is o r f point values apart j in
      is.value ∙ ap (λ c. eval o c (point j)) (sym (is.one.only e.one.through e.one.is_through)) ∙ sym e.value

  -- a value at one of the first points is the value that is given there
  pub extension-given : (values : List A) → ((i j : ℕ) → i < j → j < length values → point i ≢ point j) → (j : ℕ) → j < length values → extension o point values j ≡ entry o values j
  extension-given values apart j h =
      let e = extension_is o r f point values apart j in
      e.value ∙ e.one.is_through.meets j h
