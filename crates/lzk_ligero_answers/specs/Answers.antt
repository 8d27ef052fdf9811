-- The answers of a prover, as polynomials.
use Rattle.std.specs.Prelude.{ℕ, ◌+◌, ◌-◌, ◌*◌, List, slice_set}
use Rattle.lzk_field.specs.Ring.{Ops}
use Rattle.lzk_field.specs.Sums.{entry}
use Rattle.lzk_poly.specs.Polynomial.{add, scale, multiply}
use Rattle.lzk_poly.specs.Through.{add_below, through}
use Rattle.lzk_layout.specs.declared.params.Params.{Params}
use Rattle.lzk_ligero_answers.specs.Rows.{row}

-- for any rows, with coefficients and factors for those from row 3 on
module _ {A : Type 0} (o : Ops A) (point : ℕ → A) (p : Params) (rows : List (List A)) where
  -- the polynomial of a row
  abbrev pub row_polynomial : ℕ → List A
  row_polynomial i = through o point (row rows i)

  -- row 0, and u times each row from row 3 on
  unfoldable pub low_degree_answer : List A → List A
  low_degree_answer u =
      add o (row_polynomial 0) (add_below o (p.nrow - 3) (λ i. scale o (entry o u i) (row_polynomial (3 + i))))

  -- row 1, and the row of coefficients times each row from row 3 on
  unfoldable pub linear_answer : (ℕ → List A) → List A
  linear_answer coefficients =
      add o (row_polynomial 1)
      (add_below o (p.nrow - 3) (λ i. multiply o (through o point (coefficients (3 + i))) (row_polynomial (3 + i))))

  -- the product of the first two rows of a triple, less the third
  abbrev pub triple_polynomial : ℕ → List A
  triple_polynomial t =
      let first = 3 + p.nwrow + 3 * t in
      add o (multiply o (row_polynomial first) (row_polynomial (first + 1)))
      (scale o (o.neg o.one) (row_polynomial (first + 2)))

  -- row 2, and v times each triple
  unfoldable pub quadratic_answer : List A → List A
  quadratic_answer v =
      add o (row_polynomial 2) (add_below o p.ntriple (λ t. scale o (entry o v t) (triple_polynomial t)))

-- values with something added to one of them
abbrev pub changed : {A : Type 0} → Ops A → List A → ℕ → A → List A
changed o values n by = slice_set values n (o.plus (entry o values n) by)
