-- Nodes with their depths, weights and values, and the levels in which each has a wire.
use Rattle.std.specs.Prelude.{◌≡◌, ℕ, ◌+◌, ◌-◌, ◌<◌, ◌≤◌, nat_le, nat_lt, ◌&&◌, Bool, List, length, slice_index_or}
use Rattle.lzk_profile.specs.Profile.{most_wires}
use Rattle.lzk_field.specs.Ring.{Ops}
use Rattle.lzk_field.specs.Sums.{entry}
use Rattle.lzk_level.specs.Gates.{Gate}
use Rattle.lzk_level.specs.Nodes.{AreGates, gate_value}
use Rattle.lzk_circuit_reduce.specs.Renumbering.{at}
use Rattle.lzk_level.specs.Bounds.{gate_depth, gate_weight}

-- node k has a wire in a level: it is no deeper, and some level above it, up to its last one, needs the node
abbrev pub has_wire : List ℕ → List ℕ → ℕ → ℕ → Bool
has_wire depths last level k = nat_le (at depths k) level && nat_lt level (at last k)

-- the depths of so many inputs, the one among them, and of these gates behind them
pub record AreDepths {A : Type 0} (inputs : ℕ) (made : List (Gate A)) (depths : List ℕ) : Type 0 where
  pub count : length depths ≡ inputs + length made
  pub at_inputs : (k : ℕ) → k < inputs → at depths k ≡ 0
  pub gates : (i : ℕ) (d : Gate A) → i < length made
      → at depths (inputs + i) ≡ gate_depth depths (slice_index_or made i d)

-- their weights; the one weighs nothing
pub record AreWeights {A : Type 0} (inputs : ℕ) (made : List (Gate A)) (weights : List ℕ) : Type 0 where
  pub count : length weights ≡ inputs + length made
  pub one : at weights 0 ≡ 0
  pub at_inputs : (k : ℕ) → 1 ≤ k → k < inputs → at weights k ≡ 1
  pub gates : (i : ℕ) (d : Gate A) → i < length made
      → at weights (inputs + i) ≡ gate_weight weights (slice_index_or made i d)

-- their values
pub record AreValues {A : Type 0} (o : Ops A) (inputs : ℕ) (made : List (Gate A)) (values : List A) : Type 0 where
  pub count : length values ≡ inputs + length made
  pub one : entry o values 0 ≡ o.one
  pub gates : (i : ℕ) (d : Gate A) → i < length made
      → entry o values (inputs + i) ≡ gate_value o values (slice_index_or made i d)

-- nodes within the limit on wires, with their depths: so many inputs, the one among them, and behind them gates over
-- those before
pub record IsGraph {A : Type 0} (inputs : ℕ) (made : List (Gate A)) (depths : List ℕ) : Type 0 where
  pub one : 1 ≤ inputs
  pub few : length depths ≤ most_wires
  pub gates : AreGates (inputs - 1) made
  pub depths_are : AreDepths inputs made depths

-- the values begin with the inputs
pub record Begins {A : Type 0} (o : Ops A) (inputs : ℕ) (values ins : List A) : Type 0 where
  pub width : length ins ≡ inputs
  pub each : (k : ℕ) → k < inputs → entry o values k ≡ entry o ins k
