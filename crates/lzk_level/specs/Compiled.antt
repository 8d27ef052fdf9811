-- What a compiled circuit has to do with its source.
use Rattle.std.specs.Prelude.{◌≡◌, ℕ, ◌+◌, ◌≤◌, ◌<◌, List, length, map, count_by, Option}
use Rattle.lzk_profile.specs.Profile.{most_privates}
use Rattle.lzk_field.specs.Ring.{Ops}
use Rattle.lzk_goldilocks.specs.Elements as gold
use Rattle.lzk_gf128.specs.Elements as gf
use Rattle.lzk_circuit.specs.Valid.{Wiring}
use Rattle.lzk_circuit.specs.Checks.{checks_of, check_count}
use Rattle.lzk_circuit.specs.Wires.{inputs_of, wires_of}
use Rattle.lzk_field.specs.Sums.{entry}
use Rattle.lzk_circuit_reduce.specs.Attached.{IsReducedAsserting}
use Rattle.lzk_circuit_reduce.specs.Reduced.{IsReduced}
use Rattle.lzk_circuit_reduce.specs.Renumbering.{at}
use Rattle.lzk_circbytes.specs.declared.any.AnyCircuit.{AnyCircuit}
use Rattle.lzk_circbytes.specs.declared.any.AnyCircuit.TheVariants.{Gold, Gf}
use Rattle.lzk_expr.specs.Trees.{Statement, SourceTree, is_public, is_private, is_assertion}
use Rattle.lzk_expr.specs.SourceValues.{source_value}
use Rattle.lzk_expr.specs.declared.ast.FieldId.{FieldId}
use Rattle.lzk_expr.specs.declared.ast.FieldId.TheVariants.{Goldilocks, Gf2_128}
use Rattle.lzk_level.specs.declared.fault.LevelFault.{LevelFault}
use Rattle.lzk_level.specs.Bounds.{layer_count, level_fault, level_fault_v2, node_depths}
use Rattle.lzk_level.specs.Checking.{check_of, HasFewOutputs}
use Rattle.lzk_level.specs.Compilable.{AreStatementsWithin, statements_size}
use Rattle.lzk_level.specs.Compiling.{MadeOutputs, nodes_of}

-- on every input, the circuit's outputs are the values of the source's asserts, one for one
abbrev pub HasValues : {A : Type 0} → Ops A → (ℕ → A) → List Statement → Wiring A → Type 0
HasValues o element ss c =
    (public private : List _) → length public ≡ c.publics → length private ≡ c.privates
    → wires_of o c.layers (inputs_of o public private) ≡ source_value o element public private ss

-- how many layers nodes with their outputs need, and the first limit that they pass
abbrev pub layers_needed : {A : Type 0} → MadeOutputs A → ℕ
layers_needed m = layer_count m.nodes m.outputs

abbrev pub limit_passed : {A : Type 0} → MadeOutputs A → Option LevelFault
limit_passed m = level_fault m.nodes m.outputs

-- the same for a circuit of version 2
abbrev pub limit_passed_v2 : {A : Type 0} → MadeOutputs A → Option LevelFault
limit_passed_v2 m = level_fault_v2 m.nodes m.outputs

-- how deep the outputs are
abbrev pub output_depths : {A : Type 0} → MadeOutputs A → List ℕ
output_depths m = map (at (node_depths m.nodes)) m.outputs

-- on every input, each assert's check is its value
abbrev pub HasCheckedValues : {A : Type 0} → Ops A → (A → ℕ) → (ℕ → A) → List Statement → Wiring A → Type 0
HasCheckedValues o number element ss c =
    (public private : List _) → length public ≡ c.publics → length private ≡ c.privates → (k : ℕ)
    → k < count_by is_assertion ss
    → entry o (checks_of o number c.layers (inputs_of o public private))
    (check_of (output_depths (nodes_of o element ss)) k)
    ≡ entry o (source_value o element public private ss) k

-- there are as many checks as asserts
abbrev pub HasAsManyChecks : {A : Type 0} → (A → ℕ) → List Statement → Wiring A → Type 0
HasAsManyChecks number ss c = check_count number c.layers ≡ count_by is_assertion ss

-- ---- over the field that a source names

abbrev pub field_of : AnyCircuit → FieldId
field_of (Gold c) = Goldilocks
field_of (Gf c) = Gf2_128

abbrev pub publics_of : AnyCircuit → ℕ
publics_of (Gold c) = c.publics
publics_of (Gf c) = c.publics

abbrev pub privates_of : AnyCircuit → ℕ
privates_of (Gold c) = c.privates
privates_of (Gf c) = c.privates

abbrev pub depth_of : AnyCircuit → ℕ
depth_of (Gold c) = length c.layers
depth_of (Gf c) = length c.layers

abbrev pub version_of : AnyCircuit → ℕ
version_of (Gold c) = c.version
version_of (Gf c) = c.version

abbrev pub HasSourceValues : List Statement → AnyCircuit → Type 0
HasSourceValues ss (Gold c) = HasValues gold.ops gold.of_number ss c
HasSourceValues ss (Gf c) = HasValues gf.ops gf.of_number ss c

-- there are as many checks as asserts, and on every input each assert's check is its value
abbrev pub HasSourceChecks : List Statement → AnyCircuit → Type 0
HasSourceChecks ss (Gold c) =
    HasAsManyChecks gold.number ss c × HasCheckedValues gold.ops gold.number gold.of_number ss c
HasSourceChecks ss (Gf c) = HasAsManyChecks gf.number ss c × HasCheckedValues gf.ops gf.number gf.of_number ss c

-- no inner wire is there twice, or for nothing, but for those that assert
abbrev pub HasReducedAsserting : AnyCircuit → Type 0
HasReducedAsserting (Gold c) = IsReducedAsserting gold.ops c.layers
HasReducedAsserting (Gf c) = IsReducedAsserting gf.ops c.layers

-- The first layer has a wire for each asserted node of the two uppermost levels alone: the other asserts stand in inner
-- layers.
abbrev pub HasFewMade : {A : Type 0} → MadeOutputs A → Wiring A → Type 0
HasFewMade m c = HasFewOutputs m.nodes m.outputs c

abbrev pub HasFewSourceOutputs : List Statement → AnyCircuit → Type 0
HasFewSourceOutputs ss (Gold c) = HasFewMade (nodes_of gold.ops gold.of_number ss) c
HasFewSourceOutputs ss (Gf c) = HasFewMade (nodes_of gf.ops gf.of_number ss) c

-- no inner wire is there twice, or for nothing
abbrev pub HasReducedLayers : AnyCircuit → Type 0
HasReducedLayers (Gold c) = IsReduced gold.ops c.layers
HasReducedLayers (Gf c) = IsReduced gf.ops c.layers

abbrev pub layers_in : FieldId → List Statement → ℕ
layers_in Goldilocks ss = layers_needed (nodes_of gold.ops gold.of_number ss)
layers_in Gf2_128 ss = layers_needed (nodes_of gf.ops gf.of_number ss)

abbrev pub limit_in : FieldId → List Statement → Option LevelFault
limit_in Goldilocks ss = limit_passed (nodes_of gold.ops gold.of_number ss)
limit_in Gf2_128 ss = limit_passed (nodes_of gf.ops gf.of_number ss)

abbrev pub limit_in_v2 : FieldId → List Statement → Option LevelFault
limit_in_v2 Goldilocks ss = limit_passed_v2 (nodes_of gold.ops gold.of_number ss)
limit_in_v2 Gf2_128 ss = limit_passed_v2 (nodes_of gf.ops gf.of_number ss)

-- how many layers the nodes of a source need
abbrev pub source_layers : SourceTree → ℕ
source_layers s = layers_in s.field_is s.statements

-- the first limit that they pass
abbrev pub source_limit : SourceTree → Option LevelFault
source_limit s = limit_in s.field_is s.statements

-- the same for a circuit of version 2
abbrev pub source_limit_v2 : SourceTree → Option LevelFault
source_limit_v2 s = limit_in_v2 s.field_is s.statements

-- what every source keeps: its counts, that its inputs are declared, and that it has few nodes
pub record IsCompilable (ss : List Statement) : Type 0 where
  pub publics : count_by is_public ss ≤ 65535
  pub privates : count_by is_private ss ≤ most_privates
  pub some : 1 ≤ count_by is_assertion ss
  pub asserts : count_by is_assertion ss ≤ 131072
  pub inputs : AreStatementsWithin (count_by is_public ss) (count_by is_private ss) ss
  pub room : 65535 + most_privates + statements_size ss ≤ 2147483648
