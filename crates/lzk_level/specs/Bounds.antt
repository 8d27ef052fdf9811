-- How deep and how heavy nodes are, and when a circuit of them keeps the limits.
use Rattle.std.specs.Prelude.{◌≡◌, ℕ, ◌+◌, ◌-◌, ◌*◌, ◌^◌, max, min, nat_le, length, if◌then◌else◌, List, [], ◌∷◌, map, replicate, Option, Some, None}
use Rattle.lzk_profile.specs.Profile.{most_wires, most_total}
use Rattle.lzk_level.specs.Gates.{Gate, Constant, Combine, Mul}
use Rattle.lzk_level.specs.declared.fault.LevelFault.{LevelFault}
use Rattle.lzk_level.specs.declared.fault.LevelFault.TheVariants.{Layers, LayerWires, Terms}
use Rattle.lzk_level.specs.declared.fault.LevelError.{LevelError}
use Rattle.lzk_level.specs.declared.fault.LevelError.TheVariants.{Fault, OutOfMemory}
use Rattle.lzk_circuit_reduce.specs.Renumbering.{at}
use Rattle.lzk_level.specs.Nodes.{Nodes, input_count, node_count, after}

-- the greatest of the numbers and m
abbrev pub greatest : ℕ → List ℕ → ℕ
greatest m [] = m
greatest m (n ∷ ns) = max n (greatest m ns)

abbrev pub total : List ℕ → ℕ
total [] = 0
total (n ∷ ns) = n + total ns

-- the numbers that a list has at the parts' nodes
abbrev pub at_parts : {A : Type 0} → List ℕ → List (A × ℕ) → List ℕ
at_parts ns parts = map (λ p. at ns p.1) parts

-- the depth of a gate, over those of the nodes before it: how many layers of products stand under it, a constant
-- counting as one
abbrev pub gate_depth : {A : Type 0} → List ℕ → Gate A → ℕ
gate_depth depths (Constant c) = 1
gate_depth depths (Combine parts) = greatest 1 (at_parts depths parts)
gate_depth depths (Mul x y) = 1 + max (at depths x) (at depths y)

-- each node's depth by its number; the one stands with the inputs
abbrev pub node_depths : {A : Type 0} → Nodes A → List ℕ
node_depths n = after gate_depth (replicate (1 + input_count n) 0) n.made

-- the weight of a gate: as many terms as it may have in the layer of its depth
abbrev pub gate_weight : {A : Type 0} → List ℕ → Gate A → ℕ
gate_weight weights (Constant c) = 1
gate_weight weights (Combine parts) = total (at_parts weights parts)
gate_weight weights (Mul x y) = 1

-- each node's weight by its number; the one weighs nothing
abbrev pub node_weights : {A : Type 0} → Nodes A → List ℕ
node_weights n = after gate_weight (0 ∷ replicate (input_count n) 1) n.made

-- how many layers these outputs need
abbrev pub layer_count : {A : Type 0} → Nodes A → List ℕ → ℕ
layer_count n outputs = greatest 1 (map (at (node_depths n)) outputs)

-- no layer but the outputs' needs more wires
abbrev pub wire_bound : {A : Type 0} → Nodes A → ℕ
wire_bound n = 1 + node_count n

-- all layers together need no more terms
abbrev pub term_bound : {A : Type 0} → Nodes A → List ℕ → ℕ
term_bound n outputs =
    layer_count n outputs * wire_bound n + total (node_weights n) + total (map (at (node_weights n)) outputs)

-- the first limit that so many layers, wires and terms pass
abbrev pub limit_fault : ℕ → ℕ → ℕ → Option LevelFault
limit_fault layers wires terms =
    if nat_le layers 512 then
    if nat_le wires most_wires then
    if nat_le terms most_total then None else Some (Terms (min (2 ^ 64 - 1) terms))
    else Some (LayerWires wires)
    else Some (Layers layers)

-- the first limit that these outputs pass
abbrev pub level_fault : {A : Type 0} → Nodes A → List ℕ → Option LevelFault
level_fault n outputs = limit_fault (layer_count n outputs) (wire_bound n) (term_bound n outputs)

-- the same with so many further wires in a layer
abbrev pub level_fault_with : {A : Type 0} → ℕ → Nodes A → List ℕ → Option LevelFault
level_fault_with further n outputs =
    limit_fault (layer_count n outputs) (wire_bound n + further) (layer_count n outputs * (wire_bound n + further)
    + total (node_weights n) + total (map (at (node_weights n)) outputs))

-- the first limit that these asserted nodes pass in a circuit of version 2, where a layer may have a further wire for
-- each of them
abbrev pub level_fault_v2 : {A : Type 0} → Nodes A → List ℕ → Option LevelFault
level_fault_v2 n asserts = level_fault_with (length asserts) n asserts

-- the fault is this one; want of memory may come at any time
abbrev pub IsFaultOf : Option LevelFault → LevelError → Type 0
IsFaultOf fault (Fault f) = fault ≡ Some f
IsFaultOf fault OutOfMemory = Unit {0}

-- the fault is the one of these outputs; want of memory may come at any time
abbrev pub IsLevelError : {A : Type 0} → Nodes A → List ℕ → LevelError → Type 0
IsLevelError n outputs (Fault fault) = level_fault n outputs ≡ Some fault
IsLevelError n outputs OutOfMemory = Unit {0}
