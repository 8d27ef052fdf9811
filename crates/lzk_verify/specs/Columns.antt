-- What is checked of the answers at one opened column, of its elements alone.
use Rattle.lzk_profile.specs.Profile.{opened_count}
use Rattle.std.specs.Prelude.{◌≡◌, ℕ, ◌+◌, ◌-◌, ◌*◌, List, ◌++◌, replicate}
use Rattle.lzk_field.specs.Ring.{Ops}
use Rattle.lzk_field.specs.Sums.{sum_below, minus, entry}
use Rattle.lzk_poly.specs.Extension.{extension}
use Rattle.lzk_layout.specs.declared.params.Params.{Params}

-- all values of the quadratic answer: the first ones, zeros at the points of a row's elements, and the last ones
abbrev pub values_of : {A : Type 0} → Ops A → Params → List A → List A → List A
values_of o p head tail = head ++ replicate (p.block - opened_count) o.zero ++ tail

-- the element of a column in one of the three rows of triple number i
abbrev pub in_triple : {A : Type 0} → Ops A → Params → List A → ℕ → ℕ → A
in_triple o p column i which = entry o column (3 + p.nwrow + 3 * i + which)

module _ {A : Type 0} (o : Ops A) (element : ℕ → A) (p : Params) (column : List A) (point : ℕ) where
  -- the low degree answer at this column's point is row 0 plus the sum of u times each row from row 3 on
  abbrev pub IsLowDegreeIn : List A → List A → Type 0
  IsLowDegreeIn ldt u =
      extension o element ldt point
      ≡ o.plus (entry o column 0) (sum_below o (p.nrow - 3) (λ i. o.times (entry o u i) (entry o column (3 + i))))

  -- the linear answer there is row 1 plus the sum, over each row from row 3 on, of the extension of the combined
  -- coefficients' row times the row
  abbrev pub IsLinearIn : List A → (ℕ → List A) → Type 0
  IsLinearIn dot combined_row =
      extension o element dot point
      ≡ o.plus (entry o column 1) (sum_below o (p.nrow - 3)
      (λ i. o.times (extension o element (combined_row (3 + i)) point) (entry o column (3 + i))))

  -- the quadratic answer there is row 2 plus the sum of v times the product of a triple's first two rows less the third
  abbrev pub IsQuadraticIn : List A → List A → Type 0
  IsQuadraticIn values v =
      extension o element values point
      ≡ o.plus (entry o column 2) (sum_below o p.ntriple (λ i.
      o.times (entry o v i)
      (minus o (o.times (in_triple o p column i 0) (in_triple o p column i 1)) (in_triple o p column i 2))))
