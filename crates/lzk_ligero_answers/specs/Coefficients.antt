-- Rows of coefficients, and how they are given.
use Rattle.lzk_profile.specs.Profile.{opened_count}
use Rattle.std.specs.Prelude.{◌≡◌, ℕ, ◌+◌, ◌-◌, ◌*◌, ◌<◌, List, length}
use Rattle.lzk_field.specs.Ring.{Ops}
use Rattle.lzk_field.specs.Sums.{sum_below, entry}
use Rattle.lzk_poly.specs.Extension.{extension}
use Rattle.lzk_layout.specs.declared.params.Params.{Params}

-- zeros at as many points as columns are opened, and a s at the s-th point of a row's elements
pub record AreCoefficients {A : Type 0} (o : Ops A) (p : Params) (a : ℕ → A) (values : List A) : Type 0 where
  pub count : length values ≡ p.block
  pub front : (s : ℕ) → s < opened_count → entry o values s ≡ o.zero
  pub back : (s : ℕ) → s < p.wr → entry o values (opened_count + s) ≡ a s

-- behind the first m of the rows behind row 2, the coefficients are those of a table, row by row
abbrev pub AreListed : {A : Type 0} → Ops A → Params → ℕ → List A → (ℕ → List A) → Type 0
AreListed o p m table coefficients =
    (t : ℕ) → t < p.nrow - 3 - m → AreCoefficients o p (λ s. entry o table (t * p.wr + s)) (coefficients (3 + (m + t)))

-- the coefficients of the first m of these rows are sums of so many products of a row's factor and a position's
abbrev pub AreFactored : {A : Type 0} → Ops A → Params → ℕ → ℕ → List A → List A → (ℕ → List A) → Type 0
AreFactored o p m count row_factors place_factors coefficients =
    (i : ℕ) → i < m
    → AreCoefficients o p
    (λ s. sum_below o count (λ f. o.times (entry o row_factors (f * m + i)) (entry o place_factors (f * p.wr + s))))
    (coefficients (3 + i))

-- at the points from block on, the values of the polynomials of four factors' rows of place factors, one row after
-- another
abbrev pub AreExtended : {A : Type 0} → Ops A → (ℕ → A) → Params → List A → List A → Type 0
AreExtended {A} o point p place_factors behind =
    (f : ℕ) (list : List A) → f < 4 → AreCoefficients o p (λ s. entry o place_factors (f * p.wr + s)) list → (k : ℕ)
    → k < p.dblock - p.block
    → entry o behind (f * (p.dblock - p.block) + k) ≡ extension o point list (p.block + k)
