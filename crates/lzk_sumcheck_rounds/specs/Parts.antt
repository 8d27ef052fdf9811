-- A round that is summed in parts: its sums, by rows and the first table.
use Rattle.std.specs.Prelude.{◌≡◌, ℕ, ◌+◌, ◌*◌, ◌≤◌, Bool, true, false, List, length}
use Rattle.lzk_field.specs.Ring.{Ops}
use Rattle.lzk_field.specs.Sums.{sum_below, entry}
use Rattle.lzk_sumcheck_rounds.specs.declared.curve.RoundSums.{RoundSums}
use Rattle.lzk_sumcheck_rounds.specs.declared.pairs.Pair.{Pair}
use Rattle.lzk_sumcheck_rounds.specs.Pairs.{ArePairs, bound_entry}
use Rattle.lzk_sumcheck_rounds.specs.Rows.{round_at}
use Rattle.lzk_sumcheck.specs.States.{bound}

-- pairs, coefficients of wire 0 and two tables that go together
pub record AreMatching {A : Type 0} (of_a : Bool) (ps : List (Pair A)) (linear table other : List A) : Type 0 where
  pub first : 1 ≤ length table
  pub second : 1 ≤ length other
  pub for_a : of_a ≡ true → length linear ≡ length other
  pub for_b : of_a ≡ false → length linear ≡ length table
  pub pairs : ArePairs (length table) (length other) ps

-- what a round sums at t for two places: the rows and the table, bound at t
abbrev pub product_at : {A : Type 0} → Ops A → (ℕ → A) → List A → A → ℕ → A
product_at o row first t i = o.times (bound o t row i) (bound_entry o t first i)

-- the sums give a round's value at each point
pub record AreSums {A : Type 0} (o : Ops A) (row : ℕ → A) (first : List A) (s : RoundSums A) : Type 0 where
  pub value : (half : ℕ) → length first ≤ 2 * half → (t : A)
      → round_at o s t ≡ sum_below o half (product_at o row first t)

-- the three sums that stand in a list from a place on
abbrev pub sums_in : {A : Type 0} → Ops A → List A → ℕ → RoundSums A
sums_in o list i = record { all = entry o list i; even = entry o list (i + 1); lead = entry o list (i + 2) }

-- a list begins with the sums of so many times two places, from `begin` times two on
pub record BeginsWithSums {A : Type 0} (o : Ops A) (row : ℕ → A) (first : List A) (begin each : ℕ)
    (part : List A) : Type 0 where
  pub value : (t : A) → round_at o (sums_in o part 0) t ≡ sum_below o each (λ i. product_at o row first t (begin + i))
