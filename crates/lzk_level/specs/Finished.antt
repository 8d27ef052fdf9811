-- What is made of a source over one field: its nodes, and their circuit.
use Rattle.std.specs.Prelude.{◌≡◌, ℕ, None, List, length, count_by}
use Rattle.lzk_field.specs.Ring.{Ops}
use Rattle.lzk_circuit.specs.Valid.{Wiring}
use Rattle.lzk_expr.specs.Trees.{Statement, is_public, is_private}
use Rattle.lzk_circuit_reduce.specs.Attached.{IsReducedAsserting}
use Rattle.lzk_circuit_reduce.specs.Reduced.{IsReduced}
use Rattle.lzk_level.specs.Nodes.{Nodes}
use Rattle.lzk_level.specs.Compiling.{nodes_of}
use Rattle.lzk_level.specs.Compiled.{IsCompilable, HasValues, HasAsManyChecks, HasCheckedValues, HasFewMade}
use Rattle.lzk_level.specs.Compiled.{layers_needed, limit_passed, limit_passed_v2}

-- the nodes of a source's statements, and its outputs
pub record AreBuilt {A : Type 0} (o : Ops A) (element : ℕ → A) (ss : List Statement) (n : Nodes A)
    (outputs : List ℕ) : Type 0 where
  pub compilable : IsCompilable ss
  pub nodes : n ≡ (nodes_of o element ss).nodes
  pub outputs_are : outputs ≡ (nodes_of o element ss).outputs

-- those of some source
pub record IsSomeBuilt {A : Type 0} (o : Ops A) (element : ℕ → A) (n : Nodes A) (outputs : List ℕ) : Type 0 where
  pub statements : List Statement
  pub built : AreBuilt o element statements n outputs

-- their circuit of version 1
pub record IsCircuitOver {A : Type 0} (o : Ops A) (element : ℕ → A) (ss : List Statement) (c : Wiring A) : Type 0 where
  pub version_is : c.version ≡ 1
  pub publics : c.publics ≡ count_by is_public ss
  pub privates : c.privates ≡ count_by is_private ss
  pub layers : length c.layers ≡ layers_needed (nodes_of o element ss)
  pub values : HasValues o element ss c
  pub reduced : IsReduced o c.layers
  pub within : limit_passed (nodes_of o element ss) ≡ None

-- and that of version 2
pub record IsCircuitOverV2 {A : Type 0} (o : Ops A) (number : A → ℕ) (element : ℕ → A) (ss : List Statement)
    (c : Wiring A) : Type 0 where
  pub version_is : c.version ≡ 2
  pub publics : c.publics ≡ count_by is_public ss
  pub privates : c.privates ≡ count_by is_private ss
  pub layers : length c.layers ≡ layers_needed (nodes_of o element ss)
  pub count : HasAsManyChecks number ss c
  pub checks : HasCheckedValues o number element ss c
  pub outputs : HasFewMade (nodes_of o element ss) c
  pub reduced : IsReducedAsserting o c.layers
  pub within : limit_passed_v2 (nodes_of o element ss) ≡ None
