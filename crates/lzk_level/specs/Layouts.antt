-- What `finish` and `finish_v2` make of nodes.
use Rattle.std.specs.Prelude.{◌≡◌, ℕ, None, List, length}
use Rattle.lzk_field.specs.Ring.{Ops}
use Rattle.lzk_circuit.specs.Checks.{check_count}
use Rattle.lzk_circuit.specs.Valid.{Wiring}
use Rattle.lzk_circuit_reduce.specs.Attached.{IsReducedAsserting}
use Rattle.lzk_circuit_reduce.specs.Reduced.{IsReduced}
use Rattle.lzk_level.specs.Nodes.{Nodes}
use Rattle.lzk_level.specs.Bounds.{layer_count, level_fault, level_fault_v2}
use Rattle.lzk_level.specs.Checking.{HasChecks, HasFewOutputs}
use Rattle.lzk_level.specs.Meanings.{HasOutputs}

-- the reduced circuit of version 1 whose outputs are these nodes
pub record IsLaidOut {A : Type 0} (o : Ops A) (n : Nodes A) (outputs : List ℕ) (c : Wiring A) : Type 0 where
  pub version_is : c.version ≡ 1
  pub publics : c.publics ≡ n.publics
  pub privates : c.privates ≡ n.privates
  pub layers : length c.layers ≡ layer_count n outputs
  pub outputs_are : HasOutputs o n outputs c
  pub reduced : IsReduced o c.layers
  pub within : level_fault n outputs ≡ None

-- the reduced circuit of version 2 whose checks are those of these nodes
pub record IsLaidOutV2 {A : Type 0} (o : Ops A) (number : A → ℕ) (n : Nodes A) (asserts : List ℕ)
    (c : Wiring A) : Type 0 where
  pub version_is : c.version ≡ 2
  pub publics : c.publics ≡ n.publics
  pub privates : c.privates ≡ n.privates
  pub layers : length c.layers ≡ layer_count n asserts
  pub count : check_count number c.layers ≡ length asserts
  pub checks : HasChecks o number n asserts c
  pub outputs : HasFewOutputs n asserts c
  pub reduced : IsReducedAsserting o c.layers
  pub within : level_fault_v2 n asserts ≡ None
