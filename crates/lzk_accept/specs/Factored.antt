-- The combined coefficients of rows that hold private inputs alone, by few factors, and those of the other rows.
use Rattle.std.specs.Prelude.{◌≡◌, ℕ, ◌+◌, ◌-◌, ◌*◌, ◌/◌, ◌<◌, List, length}
use Rattle.lzk_field.specs.Ring.{Ops}
use Rattle.lzk_field.specs.Sums.{sum_below, entry}
use Rattle.lzk_circuit.specs.Valid.{Wiring}
use Rattle.lzk_layout.specs.declared.params.Params.{Params}
use Rattle.lzk_layout.specs.Sizes.{params_of}
use Rattle.lzk_accept.specs.declared.factored.Factored.{Factored}

-- so many lists of a factor for each row, one after the other, and as many of one for each position
pub record AreFactorLists {A : Type 0} (lists rows positions : ℕ) (row_factors place_factors : List A) : Type 0 where
  pub of_rows : length row_factors ≡ lists * rows
  pub of_places : length place_factors ≡ lists * positions

-- lists as long as a circuit needs them: private inputs alone stand in as many rows as they fill
pub record HasRoomFor {A : Type 0} (c : Wiring A) (f : Factored A) : Type 0 where
  pub rows : f.rows ≡ c.privates / (params_of c).wr
  pub row_factors : length f.row_factors ≡ 4 * f.rows
  pub place_factors : length f.place_factors ≡ 4 * (params_of c).wr
  pub table : length f.table ≡ ((params_of c).nrow - 3 - f.rows) * (params_of c).wr

-- the sum over the four factors of row i times that of position s, where rows have so many positions
abbrev pub by_factors : {A : Type 0} → Ops A → ℕ → Factored A → ℕ → ℕ → A
by_factors o width f i s =
    sum_below o 4 (λ k. o.times (entry o f.row_factors (k * f.rows + i)) (entry o f.place_factors (k * width + s)))

-- the factors and the table give this coefficient of each row, from row 3 on, at each position
pub record GivesCombined {A : Type 0} (o : Ops A) (p : Params) (f : Factored A) (combined : ℕ → ℕ → A) : Type 0 where
  pub private_rows : (i s : ℕ) → i < f.rows → s < p.wr → by_factors o p.wr f i s ≡ combined (3 + i) s
  pub other_rows : (i s : ℕ) → i < p.nrow - 3 - f.rows → s < p.wr
      → entry o f.table (i * p.wr + s) ≡ combined (3 + (f.rows + i)) s
