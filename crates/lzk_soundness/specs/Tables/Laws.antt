-- What acceptance says of a table, and how few weights and columns hide the contrary.
use Rattle.std.specs.Prelude.{◌≡◌, ℕ, ◌+◌, ◌-◌, ◌*◌, ◌^◌, ◌<◌, ◌≤◌, Bool, true, List, length, slice_index}
use Rattle.lzk_field.specs.Ring.{Ops}
use Rattle.lzk_field.specs.Sums.{entry}
use Rattle.lzk_layout.specs.declared.params.Params.{Params}
use Rattle.lzk_layout.specs.declared.proof.Proof.{Proof}
use Rattle.lzk_layout.specs.Proofs.{HasLengths}
use Rattle.lzk_layout.specs.Sizes.{AreBounded}
use Rattle.lzk_accept.specs.Checks.{IsLowDegree, AtEach}
use Rattle.lzk_soundness.specs.Chance.Draws.{count, draws_from}
use Rattle.lzk_soundness.specs.Chance.Few.{AreDistinct, HasAtMost}
use Rattle.lzk_soundness.specs.Near.Near.{AreClose}
use Rattle.lzk_soundness.specs.Tables.Table.{place, low_degree_at, AreOpenedIn, IsNear, IsBadRowWeight, PassesAt}

-- A table stands before the weights u are drawn, and is not near codewords, e being at most a third of the columns
-- but block. The test says yes only to weights by which the combination is near a codeword. Of all lists of weights
-- from a list without repetition, its share is at most the number of weights times e + 1 over the list's length.
abbrev pub FarTablesPassRarely : {A : Type 0} → Ops A → (ℕ → A) → Type 0
FarTablesPassRarely {A} o point =
    (p : Params) (table : ℕ → ℕ → A) (e : ℕ) (wins : List A → Bool) (ds : List A) → AreBounded p → e ≤ p.block
    → (IsNear o point p table e → ⊥)
    → ((u : List A) → length u ≡ p.nrow - 3 → wins u ≡ true
    → AreClose o (place o point p table) p.block p.mcol e 1 (λ i. low_degree_at o point p table u))
    → AreDistinct ds
    → count wins (draws_from ds (p.nrow - 3)) * length ds ≤ (p.nrow - 3) * (e + 1) * length ds ^ (p.nrow - 3)

-- Columns of a table that is not near codewords were opened, and the low degree answer passes at each. If no weight
-- is bad, all these columns are among those at which it passes, fewer than all but e; and at each place at most e + 1
-- weights are bad.
pub record IsCaught {A : Type 0} (o : Ops A) (point : ℕ → A) (p : Params) (table : ℕ → ℕ → A) (proof : Proof A)
    (columns : List ℕ) (u : List A) (e : ℕ) : Type 0 where
  pub passes : (k : ℕ) → k < length columns → PassesAt o point p table u proof (slice_index columns k)
  pub few : HasAtMost (p.mcol - e - 1) (λ (j : ℕ). (j < p.mcol) × PassesAt o point p table u proof j)

-- A table that is not near codewords is caught, unless a weight is bad, and few are at each place.
abbrev pub FarTablesAreCaught : {A : Type 0} → Ops A → (ℕ → A) → Type 0
FarTablesAreCaught {A} o point =
    (p : Params) (table : ℕ → ℕ → A) (proof : Proof A) (columns : List ℕ) (u : List A) (e : ℕ) → AreBounded p
    → e ≤ p.block → (IsNear o point p table e → ⊥)
    → ((k : ℕ) → k < p.nrow - 3 → HasAtMost (e + 1) (IsBadRowWeight o point p table e u k))
    × (AreOpenedIn o point p table proof columns → HasLengths p proof
    → AtEach columns (IsLowDegree o p proof point columns u)
    → ((k : ℕ) → k < p.nrow - 3 → IsBadRowWeight o point p table e u k (entry o u k) → ⊥)
    → IsCaught o point p table proof columns u e)
