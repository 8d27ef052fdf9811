-- How many nodes and outputs there are.
use Rattle.std.specs.Prelude.{ℕ, ◌+◌, ◌*◌, List, [], ◌∷◌, length, slice_index_or}
use Rattle.lzk_circuit.specs.Limits.{most_total, most_layers}
use Rattle.lzk_circuit.specs.declared.layer.Layer.{Layer}
use Rattle.lzk_circuit.specs.Valid.{Wiring, widths}

-- how many nodes layers are: one for each layer, and two for each term
abbrev pub layer_nodes : {A : Type 0} → List (Layer A) → ℕ
layer_nodes [] = 0
layer_nodes (layer ∷ layers) = 1 + 2 * length layer.terms + layer_nodes layers

-- how many nodes a valid circuit is at most, the one's node counted
abbrev pub most_nodes : ℕ
most_nodes = 2 * most_total + most_layers + 1

-- how many outputs a circuit has
abbrev pub output_count : {A : Type 0} → Wiring A → ℕ
output_count c = slice_index_or (widths c) 0 0
