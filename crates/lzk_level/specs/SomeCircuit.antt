-- A source within the limits has a circuit with a file.
use Rattle.std.specs.Prelude.{◌≡◌, ℕ, List, count_by, None}
use Rattle.lzk_circbytes.specs.declared.any.AnyCircuit.{AnyCircuit}
use Rattle.lzk_circbytes.specs.Files.{CircuitBytes}
use Rattle.lzk_expr.specs.Sources.{IsWellFormed}
use Rattle.lzk_expr.specs.Trees.{SourceTree, is_public, is_private}
use Rattle.lzk_level.specs.Compiled.{version_of, field_of, publics_of, privates_of, depth_of, HasSourceValues, HasReducedLayers, HasSourceChecks, HasReducedAsserting, source_layers, source_limit, source_limit_v2, HasFewSourceOutputs}

-- The circuit has the source's field and counts, the layers that its nodes need, and on every input the values of its
-- asserts as outputs, one for one; and it is reduced.
pub record IsCircuitOf (source : SourceTree) (c : AnyCircuit) : Type 0 where
  pub version_is : version_of c ≡ 1
  pub field_is : field_of c ≡ source.field_is
  pub publics : publics_of c ≡ count_by is_public source.statements
  pub privates : privates_of c ≡ count_by is_private source.statements
  pub layers : depth_of c ≡ source_layers source
  pub outputs : HasSourceValues source.statements c
  pub reduced : HasReducedLayers c

-- some circuit of the source has a file
abbrev pub HasSomeCircuit : SourceTree → Type 0
HasSomeCircuit source = (c : AnyCircuit) × (bytes : List ℕ) × IsCircuitOf source c × CircuitBytes c bytes

-- every source that some text is, and that passes no limit, has a circuit with a file
abbrev pub SomeCircuit : Type 0
SomeCircuit = (source : SourceTree) → IsWellFormed source → source_limit source ≡ None → HasSomeCircuit source

-- The circuit of version 2 has the source's field and counts, the layers that its nodes need, and a check for each
-- assert that on every input is its value; its outputs are those of the two uppermost levels alone; and it is reduced.
pub record IsCircuitOfV2 (source : SourceTree) (c : AnyCircuit) : Type 0 where
  pub version_is : version_of c ≡ 2
  pub field_is : field_of c ≡ source.field_is
  pub publics : publics_of c ≡ count_by is_public source.statements
  pub privates : privates_of c ≡ count_by is_private source.statements
  pub layers : depth_of c ≡ source_layers source
  pub checks : HasSourceChecks source.statements c
  pub outputs : HasFewSourceOutputs source.statements c
  pub reduced : HasReducedAsserting c

abbrev pub HasSomeCircuitV2 : SourceTree → Type 0
HasSomeCircuitV2 source = (c : AnyCircuit) × (bytes : List ℕ) × IsCircuitOfV2 source c × CircuitBytes c bytes

-- so has every source that passes no limit of version 2, in version 2
abbrev pub SomeCircuitV2 : Type 0
SomeCircuitV2 = (source : SourceTree) → IsWellFormed source → source_limit_v2 source ≡ None → HasSomeCircuitV2 source
