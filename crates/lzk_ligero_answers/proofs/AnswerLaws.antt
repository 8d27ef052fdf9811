-- The values of the answers' polynomials.
use Rattle.std.specs.Prelude.{◌≡◌, ℕ, ◌+◌, ◌-◌, ◌*◌, ◌<◌, List, [], ◌∷◌, length}
use Rattle.std.proofs.Common.{refl, sym, ap, ◌∙◌, arith}
use Rattle.std.proofs.lemmas.List.{ext_get_or}
use Rattle.lzk_field.specs.Ring.{Ops, RingLaws}
use Rattle.lzk_field.specs.Sums.{sum_below, minus, entry}
use Rattle.lzk_field.proofs.SumLaws.{sum-ext}
use Rattle.lzk_field.proofs.Solve.{var, opp, unit as solo, ◌⊞◌, ◌⊟◌, ◌⊠◌, solve}
use Rattle.lzk_poly.specs.Polynomial.{eval, scale, multiply}
use Rattle.lzk_poly.specs.Through.{add_below, through, through_at, values_of}
use Rattle.lzk_poly.proofs.Polynomials.{eval-scale, eval-add, eval-multiply}
use Rattle.lzk_poly.proofs.Through.{eval-through, eval-add_below, length-values_of, entry-values_of}
use Rattle.lzk_layout.specs.declared.params.Params.{Params}
use Rattle.lzk_ligero_answers.specs.Rows.{row}
use Rattle.lzk_ligero_answers.specs.Answers.{row_polynomial, low_degree_answer, linear_answer, triple_polynomial, quadratic_answer}

-- a list is a polynomial's values where each of its entries is
pub are_values : {A : Type 0} (o : Ops A) (point : ℕ → A) (n : ℕ) (cs answer : List A) → length answer ≡ n → ((k : ℕ) → k < n → entry o answer k ≡ eval o cs (point k)) → answer ≡ values_of o point n cs
are_values o point n cs answer size each =
    ext_get_or o.zero answer (values_of o point n cs) (size ∙ sym (length-values_of o point n cs))
    (λ k h. each k (omega (arith, size, h)) ∙ sym (entry-values_of o point n cs k (omega (arith, size, h))))

module _ {A : Type 0} (o : Ops A) (r : RingLaws o) (point : ℕ → A) (p : Params) (rows : List (List A)) where
  -- the value of row i's polynomial at x
  abbrev pub at : ℕ → A → A
  at i x = through_at o point (row rows i) x

  -- what a triple leaves at x
  abbrev pub triple_at : ℕ → A → A
  triple_at t x = let first = 3 + p.nwrow + 3 * t in minus o (o.times (at first x) (at (first + 1) x)) (at (first + 2) x)

  value_of : (i : ℕ) (x : A) → eval o (row_polynomial o point p rows i) x ≡ at i x
  value_of i x = eval-through o r point (row rows i) x

  pub eval-low_degree : (u : List A) (x : A) → eval o (low_degree_answer o point p rows u) x ≡ o.plus (at 0 x) (sum_below o (p.nrow - 3) (λ i. o.times (entry o u i) (at (3 + i) x)))
  unfolding low_degree_answer
  eval-low_degree u x =
      let P = row_polynomial o point p rows in
      let n = p.nrow - 3 in
      let f : ℕ → List A = λ i. scale o (entry o u i) (P (3 + i)) in
      eval-add o r (P 0) (add_below o n f) x
      ∙ ap (λ w. o.plus w (eval o (add_below o n f) x)) (value_of 0 x)
      ∙ ap (o.plus (at 0 x)) (eval-add_below o r n f x
      ∙ sum-ext o r n (λ i. eval o (f i) x) (λ i. o.times (entry o u i) (at (3 + i) x)) (λ i h. eval-scale o r (entry o u i) (P (3 + i)) x ∙ ap (o.times (entry o u i)) (value_of (3 + i) x)))

  pub eval-linear : (coefficients : ℕ → List A) (x : A) → eval o (linear_answer o point p rows coefficients) x ≡ o.plus (at 1 x) (sum_below o (p.nrow - 3) (λ i. o.times (through_at o point (coefficients (3 + i)) x) (at (3 + i) x)))
  unfolding linear_answer
  eval-linear coefficients x =
      let P = row_polynomial o point p rows in
      let n = p.nrow - 3 in
      let Q : ℕ → List A = λ i. through o point (coefficients (3 + i)) in
      let f : ℕ → List A = λ i. multiply o (Q i) (P (3 + i)) in
      eval-add o r (P 1) (add_below o n f) x
      ∙ ap (λ w. o.plus w (eval o (add_below o n f) x)) (value_of 1 x)
      ∙ ap (o.plus (at 1 x)) (eval-add_below o r n f x
      ∙ sum-ext o r n (λ i. eval o (f i) x) (λ i. o.times (through_at o point (coefficients (3 + i)) x) (at (3 + i) x))
      (λ i h. eval-multiply o r (Q i) (P (3 + i)) x
      ∙ ap (λ w. o.times w (eval o (P (3 + i)) x)) (eval-through o r point (coefficients (3 + i)) x)
      ∙ ap (o.times (through_at o point (coefficients (3 + i)) x)) (value_of (3 + i) x)))

  eval-triple : (t : ℕ) (x : A) → eval o (triple_polynomial o point p rows t) x ≡ triple_at t x
  eval-triple t x =
      let first = 3 + p.nwrow + 3 * t in
      let P = row_polynomial o point p rows in
      let a = P first in
      let b = P (first + 1) in
      let d = P (first + 2) in
      eval-add o r (multiply o a b) (scale o (o.neg o.one) d) x
      ∙ ap (λ w. o.plus w (eval o (scale o (o.neg o.one) d) x)) (eval-multiply o r a b x)
      ∙ ap (o.plus (o.times (eval o a x) (eval o b x))) (eval-scale o r (o.neg o.one) d x)
      ∙ solve o r (eval o a x ∷ eval o b x ∷ eval o d x ∷ []) ((var 0 ⊠ var 1) ⊞ (opp solo ⊠ var 2)) ((var 0 ⊠ var 1) ⊟ var 2) refl
      ∙ ap (λ w. minus o (o.times w (eval o b x)) (eval o d x)) (value_of first x)
      ∙ ap (λ w. minus o (o.times (at first x) w) (eval o d x)) (value_of (first + 1) x)
      ∙ ap (minus o (o.times (at first x) (at (first + 1) x))) (value_of (first + 2) x)

  pub eval-quadratic : (v : List A) (x : A) → eval o (quadratic_answer o point p rows v) x ≡ o.plus (at 2 x) (sum_below o p.ntriple (λ t. o.times (entry o v t) (triple_at t x)))
  unfolding quadratic_answer
  eval-quadratic v x =
      let P = row_polynomial o point p rows in
      let T = triple_polynomial o point p rows in
      let n = p.ntriple in
      let f : ℕ → List A = λ t. scale o (entry o v t) (T t) in
      eval-add o r (P 2) (add_below o n f) x
      ∙ ap (λ w. o.plus w (eval o (add_below o n f) x)) (value_of 2 x)
      ∙ ap (o.plus (at 2 x)) (eval-add_below o r n f x
      ∙ sum-ext o r n (λ t. eval o (f t) x) (λ t. o.times (entry o v t) (triple_at t x)) (λ t h. eval-scale o r (entry o v t) (T t) x ∙ ap (o.times (entry o v t)) (eval-triple t x)))
