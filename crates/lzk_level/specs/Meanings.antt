-- What a finished circuit has to do with the nodes that it was made from.
use Rattle.std.specs.Prelude.{◌≡◌, ℕ, List, length, map}
use Rattle.lzk_field.specs.Ring.{Ops}
use Rattle.lzk_field.specs.Sums.{entry}
use Rattle.lzk_circuit.specs.Valid.{Wiring}
use Rattle.lzk_circuit.specs.Wires.{inputs_of, wires_of}
use Rattle.lzk_level.specs.Nodes.{Nodes, node_values}

-- on every input, the circuit's outputs are the values of these nodes, one for one
abbrev pub HasOutputs : {A : Type 0} → Ops A → Nodes A → List ℕ → Wiring A → Type 0
HasOutputs o n outputs c =
    (public private : List _) → length public ≡ n.publics → length private ≡ n.privates
    → wires_of o c.layers (inputs_of o public private) ≡ map (entry o (node_values o n public private)) outputs
