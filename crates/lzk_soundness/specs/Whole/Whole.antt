-- The draws of the sumchecks and the weights of the linear constraints and copies, in one count.
use Rattle.std.specs.Prelude.{◌≡◌, ◌≢◌, ℕ, ◌+◌, ◌-◌, ◌*◌, ◌^◌, ◌<◌, ◌≤◌, cond, nat_lt, Bool, true, List, length, take, drop}
use Rattle.lzk_field.specs.Coding.{Coding}
use Rattle.lzk_field.specs.Ring.{Ops}
use Rattle.lzk_field.specs.Sums.{sum_below, minus, entry}
use Rattle.lzk_soundness.specs.Chance.Draws.{count, draws_from}
use Rattle.lzk_soundness.specs.Chance.Few.{AreDistinct}
use Rattle.lzk_circuit.specs.Valid.{Wiring, IsValid}
use Rattle.lzk_layout.specs.Sizes.{committed_count, params_of}
use Rattle.lzk_layout.specs.Places.{depth}
use Rattle.lzk_accept.specs.declared.challenges.Challenges.{Challenges}
use Rattle.lzk_accept.specs.Checks.{coefficient_of, right_of}
use Rattle.lzk_soundness.specs.Sumchecks.Bad.{AreZero}
use Rattle.lzk_soundness.specs.Sumchecks.Claims.{HasProducts}
use Rattle.lzk_soundness.specs.Draws.Schedule.{draw_count, script_of}
use Rattle.lzk_soundness.specs.Draws.Game.{IsProver, Target, table_of}
use Rattle.lzk_soundness.specs.Draws.Laws.{most, IsOf}
use Rattle.lzk_soundness.specs.Rows.Weights.{combination}
use Rattle.lzk_soundness.specs.Rows.Held.{placed, held, second_sum, copy_gap, product_gap, linear_rest}

-- how many weights there are: one for each linear constraint, and one for each copy
abbrev pub weight_count : {A : Type 0} → Wiring A → ℕ
weight_count c = depth c + 1 + 3 * depth c

module _ {A : Type 0} (o : Ops A) (c : Wiring A) (rows : List (List A)) (coefficient : ℕ → ℕ → A) (right : ℕ → A) where
  -- by how much linear constraint i is not met by what stands in the rows
  abbrev pub line_gap : ℕ → A
  line_gap i = minus o (sum_below o (committed_count c) (λ j. o.times (coefficient i j) (placed o c rows j))) (right i)

  -- the gaps of the linear constraints, and behind them those of the copies
  abbrev pub gap_at : ℕ → A
  gap_at k = cond (nat_lt k (depth c + 1)) (line_gap k) (copy_gap o c rows (k - (depth c + 1)))

-- The test says yes only to draws of the sumchecks and weights by which row 1's sum and the gaps, each times its
-- weight, add up to 0: the linear answer of these rows has the wanted sum, for what the prover sends.
abbrev pub WinsBySum : {A : Type 0} → Ops A → Coding A → Wiring A → List A → List (List A) → (List A → List A)
    → (List A → List A → Bool) → Type 0
WinsBySum {A} o e c public rows send wins =
    (draws weights : List A) → length draws ≡ draw_count c → length weights ≡ weight_count c
    → wins draws weights ≡ true
    → combination o (second_sum o c rows) (gap_at o c rows
    (coefficient_of o e.element c public (script_of o c draws) (send draws))
    (right_of o e.element c public (script_of o c draws) (send draws)))
    (entry o weights) (weight_count c) ≡ o.zero

-- A circuit, public inputs, rows that were committed to before all draws, and a prover of the sumchecks, who wins by
-- the sum alone.
pub record IsWholeForger {A : Type 0} (o : Ops A) (e : Coding A) (c : Wiring A) (public : List A) (rows : List (List A))
    (send : List A → List A) (wins : List A → List A → Bool) : Type 0 where
  pub valid : IsValid o c
  pub publics : length public ≡ c.publics
  pub products : HasProducts o c public (held o c rows)
  pub prover : IsProver o c send
  pub only : WinsBySum o e c public rows send wins

-- Where the target's values, for the list that stands in the rows, are not all 0: of all lists of draws and weights
-- from a list without repetition, the share by which the prover wins is at most the sum of the draws' degrees and one
-- more, over the list's length.
abbrev pub WholeIsRare : {A : Type 0} → Ops A → Coding A → Type 0
WholeIsRare {A} o e =
    (c : Wiring A) (public : List A) (rows : List (List A)) (send : List A → List A) (wins : List A → List A → Bool)
    (target : Target) (ds : List A)
    → IsWholeForger o e c public rows send wins
    → IsOf c target → (AreZero o (entry o (table_of o c public (held o c rows) target)) → ⊥) → AreDistinct ds
    → count (λ r. wins (take (draw_count c) r) (drop (draw_count c) r)) (draws_from ds (draw_count c + weight_count c))
    * length ds
    ≤ (most c target + 1) * length ds ^ (draw_count c + weight_count c)

-- the weights of a proof's challenges, lambda and behind it mu
abbrev pub weight_at : {A : Type 0} → Ops A → Wiring A → Challenges A → ℕ → A
weight_at o c ch k = cond (nat_lt k (depth c + 1)) (entry o ch.lambda k) (entry o ch.mu (k - (depth c + 1)))

-- With these the one combination is that of the linear constraints and then of the copies, which `rows`
-- speaks of.
abbrev pub GapsJoin : {A : Type 0} → Ops A → Type 0
GapsJoin {A} o =
    (c : Wiring A) (rows : List (List A)) (coefficient : ℕ → ℕ → A) (right : ℕ → A) (ch : Challenges A)
    → combination o (second_sum o c rows) (gap_at o c rows coefficient right) (weight_at o c ch) (weight_count c)
    ≡ combination o (linear_rest o c rows coefficient right ch) (copy_gap o c rows) (entry o ch.mu) (3 * depth c)

-- Where a copy is not what it copies, the share is at most one over the list's length.
abbrev pub CopiesAreCaught : {A : Type 0} → Ops A → Coding A → Type 0
CopiesAreCaught {A} o e =
    (c : Wiring A) (public : List A) (rows : List (List A)) (send : List A → List A) (wins : List A → List A → Bool)
    (m : ℕ) (ds : List A)
    → m < 3 * depth c → copy_gap o c rows m ≢ o.zero
    → WinsBySum o e c public rows send wins → AreDistinct ds
    → count (λ r. wins (take (draw_count c) r) (drop (draw_count c) r)) (draws_from ds (draw_count c + weight_count c))
    * length ds
    ≤ length ds ^ (draw_count c + weight_count c)

-- Where all copies are right and the triples are products, the list has its products. Of a triple that is not,
-- `CombinationsAreFew` of `weights` says how few lists of v hide it.
abbrev pub ProductsFollow : {A : Type 0} → Ops A → Type 0
ProductsFollow {A} o =
    (c : Wiring A) (public : List A) (rows : List (List A)) → IsValid o c
    → ((m : ℕ) → m < 3 * depth c → copy_gap o c rows m ≡ o.zero)
    → ((s t : ℕ) → s < (params_of c).wr → t < (params_of c).ntriple → product_gap o c rows s t ≡ o.zero)
    → HasProducts o c public (held o c rows)
