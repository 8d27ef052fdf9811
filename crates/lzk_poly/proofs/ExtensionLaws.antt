-- Extensions of products, of longer lists and of sums of multiples.
use Rattle.std.specs.Prelude.{◌≡◌, ◌≢◌, ℕ, ◌<◌, ◌≤◌, ◌+◌, ◌-◌, List, [], ◌∷◌, length}
use Rattle.std.proofs.Common.{zero, suc, sym, ap, ◌∙◌, arith}
use Rattle.lzk_field.specs.Ring.{Ops, RingLaws, FieldLaws}
use Rattle.lzk_field.specs.Sums.{sum_below, entry}
use Rattle.lzk_field.proofs.SumLaws.{sum-ext, sum-times, sum-swap}
use Rattle.lzk_poly.specs.Polynomial.{eval, scale, multiply}
use Rattle.lzk_poly.specs.Extension.{extension, lagrange}
use Rattle.lzk_poly.specs.Through.{through}
use Rattle.lzk_poly.proofs.Polynomials.{length-add, length-scale, eval-multiply}
use Rattle.lzk_poly.proofs.Extensions.{extension-eval}
use Rattle.lzk_poly.proofs.Through.{length-through, eval-through}

module _ {A : Type 0} (o : Ops A) where
  -- a product has no more coefficients than both together less one
  pub length-multiply_most : (m n : ℕ) (xs ys : List A) → length xs ≤ m → length ys ≤ suc n → length (multiply o xs ys) ≤ m + n
  length-multiply_most m n [] ys p q = omega arith
  length-multiply_most zero n (x ∷ xs) ys p q = absurd (omega arith)
  length-multiply_most (suc m) n (x ∷ xs) ys p q =
      let h = length-multiply_most m n xs ys (omega arith) q in
      length-add o (suc m + n) (scale o x ys) (o.zero ∷ multiply o xs ys) (omega (arith, length-scale o x ys, q)) (omega (arith, h))

module _ {A : Type 0} (o : Ops A) (r : RingLaws o) (point : ℕ → A) where
  -- the sum of multiples of lists extends to the sum of the multiples of their extensions
  pub extension-sum : (m : ℕ) (u : ℕ → A) (lists : ℕ → List A) (sums : List A)
      → ((i : ℕ) → i < m → length (lists i) ≡ length sums)
      → ((s : ℕ) → s < length sums → entry o sums s ≡ sum_below o m (λ i. o.times (u i) (entry o (lists i) s)))
      → (j : ℕ) → extension o point sums j ≡ sum_below o m (λ i. o.times (u i) (extension o point (lists i) j))
  extension-sum m u lists sums sizes is j =
      let n = length sums in
      let l : ℕ → A = λ s. lagrange o point n s (point j) in
      let term : ℕ → ℕ → A = λ s i. o.times (u i) (o.times (entry o (lists i) s) (l s)) in
      sum-ext o r n (λ s. o.times (entry o sums s) (l s)) (λ s. sum_below o m (term s))
      (λ s h.
      ap (λ w. o.times w (l s)) (is s h) ∙ r.times_comm _ _
      ∙ sym (sum-times o r m (l s) (λ i. o.times (u i) (entry o (lists i) s)))
      ∙ sum-ext o r m (λ i. o.times (l s) (o.times (u i) (entry o (lists i) s))) (term s) (λ i k. r.times_comm _ _ ∙ r.times_assoc _ _ _))
      ∙ sum-swap o r n m term
      ∙ sum-ext o r m (λ i. sum_below o n (λ s. term s i)) (λ i. o.times (u i) (extension o point (lists i) j))
      (λ i h.
      sum-times o r n (u i) (λ s. o.times (entry o (lists i) s) (l s))
      ∙ ap (λ k. o.times (u i) (sum_below o k (λ s. o.times (entry o (lists i) s) (lagrange o point k s (point j))))) (sym (sizes i h)))

module _ {A : Type 0} (o : Ops A) (r : RingLaws o) (f : FieldLaws o) (point : ℕ → A) where
  -- the same polynomial, listed at more points
  pub extension-longer : (values longer : List A) → length values ≤ length longer
      → ((i j : ℕ) → i < j → j < length longer → point i ≢ point j)
      → ((i : ℕ) → i < length longer → entry o longer i ≡ extension o point values i)
      → (j : ℕ) → extension o point longer j ≡ extension o point values j
  extension-longer values longer short apart is j =
      let cs = through o point values in
      extension-eval o r f point cs longer (omega (arith, length-through o point values, short)) apart
      (λ i h. eval-through o r point values (point i) ∙ sym (is i h)) j
      ∙ eval-through o r point values (point j)

  pub extension-multiply : (xs ys products : List A) → 1 ≤ length xs → 1 ≤ length ys → length xs + length ys ≤ suc (length products)
      → ((i j : ℕ) → i < j → j < length products → point i ≢ point j)
      → ((i : ℕ) → i < length products → entry o products i ≡ o.times (extension o point xs i) (extension o point ys i))
      → (j : ℕ) → extension o point products j ≡ o.times (extension o point xs j) (extension o point ys j)
  extension-multiply xs ys products first second short apart is j =
      let cs = through o point xs in
      let ds = through o point ys in
      let both : (i : ℕ) → eval o (multiply o cs ds) (point i) ≡ o.times (extension o point xs i) (extension o point ys i) =
      λ i. eval-multiply o r cs ds (point i)
      ∙ ap (λ w. o.times w (eval o ds (point i))) (eval-through o r point xs (point i))
      ∙ ap (o.times (extension o point xs i)) (eval-through o r point ys (point i)) in
      let size : length (multiply o cs ds) ≤ length xs + (length ys - 1) =
      length-multiply_most o (length xs) (length ys - 1) cs ds (omega (arith, length-through o point xs)) (omega (arith, length-through o point ys, second)) in
      extension-eval o r f point (multiply o cs ds) products (omega (arith, size, short, second)) apart (λ i h. both i ∙ sym (is i h)) j ∙ both j
