-- What is asked of the nodes for which layers are stacked.
use Rattle.std.specs.Prelude.{◌≡◌, ℕ, ◌<◌, ◌≤◌, List, length}
use Rattle.lzk_profile.specs.Profile.{most_wires}
use Rattle.lzk_circuit_reduce.specs.Renumbering.{at}

-- for each node one behind it, or the end: neither the level nor one above it has a wire for the nodes between them
pub record ArePassed (last next : List ℕ) (level : ℕ) : Type 0 where
  pub count : length next ≡ length last
  pub behind : (k : ℕ) → k < length last → (k < at next k) × (at next k ≤ length last)
  pub each : (k j : ℕ) → k < length last → k < j → j < at next k → at last j ≤ level

-- nodes of a graph that so many levels reach
pub record AreOutputs (depths outputs : List ℕ) (count : ℕ) : Type 0 where
  pub some : 1 ≤ count
  pub few : length outputs ≤ most_wires
  pub nodes : (i : ℕ) → i < length outputs → at outputs i < length depths
  pub deep : (i : ℕ) → i < length outputs → at depths (at outputs i) ≤ count

-- the one and these nodes are needed up to a level
pub record AreNeededTo (last outputs : List ℕ) (level : ℕ) : Type 0 where
  pub one : level ≤ at last 0
  pub each : (i : ℕ) → i < length outputs → level ≤ at last (at outputs i)
