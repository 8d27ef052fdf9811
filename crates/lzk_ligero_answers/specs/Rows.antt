-- Rows of values, each standing for the polynomial through them, their tables, and columns of their further values.
use Rattle.std.specs.Prelude.{◌≡◌, ℕ, ◌+◌, ◌-◌, ◌*◌, ◌<◌, List, [], length, map, flat_map, slice_index_or}
use Rattle.lzk_field.specs.Ring.{Ops}
use Rattle.lzk_field.specs.Sums.{entry}
use Rattle.lzk_poly.specs.Extension.{extension}
use Rattle.lzk_layout.specs.declared.params.Params.{Params}

-- row i
abbrev pub row : {A : Type 0} → List (List A) → ℕ → List A
row rows i = slice_index_or rows i []

-- Three rows that hide the answers, the second and the third as long as products of two rows, and behind them rows of
-- block values each.
pub record AreRows {A : Type 0} (p : Params) (rows : List (List A)) : Type 0 where
  pub count : length rows ≡ p.nrow
  pub first : length (row rows 0) ≡ p.block
  pub second : length (row rows 1) ≡ p.dblock
  pub third : length (row rows 2) ≡ p.dblock
  pub others : (i : ℕ) → i < p.nrow - 3 → length (row rows (3 + i)) ≡ p.block

module _ {A : Type 0} (o : Ops A) (point : ℕ → A) where
  -- one row after another, the values of each row's polynomial at the first width points
  pub record IsTableOf (width : ℕ) (rows : List (List A)) (table : List A) : Type 0 where
    pub values : (i k : ℕ) → i < length rows → k < width
        → entry o table (i * width + k) ≡ extension o point (row rows i) k

  -- the value of each row's polynomial at point j
  abbrev pub column_at : List (List A) → ℕ → List A
  column_at rows j = map (λ values. extension o point values j) rows

  -- the columns with these numbers, one after another
  abbrev pub columns_of : Params → List (List A) → List ℕ → List A
  columns_of p rows columns = flat_map (λ j. column_at rows (p.dblock + j)) columns
