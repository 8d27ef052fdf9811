-- What a part of a circuit sees of the whole's inputs, and what its outputs and checks are over them.
use Rattle.std.specs.Prelude.{ℕ, List, ◌∷◌, map}
use Rattle.lzk_field.specs.Ring.{Ops}
use Rattle.lzk_field.specs.Sums.{entry}
use Rattle.lzk_circuit.specs.declared.layer.Layer.{Layer}
use Rattle.lzk_circuit.specs.Checks.{checks_of}
use Rattle.lzk_circuit.specs.Wires.{wires_of}

-- The input layer of a part: the one, and the whole's inputs at its places. A place is a wire of the whole's input
-- layer, in which the one
-- stands first, the public inputs behind it, and then the private ones.
abbrev pub chosen : {A : Type 0} → Ops A → List ℕ → List A → List A
chosen o places inputs = o.one ∷ map (entry o inputs) places

-- the outputs of layers over the chosen inputs
abbrev pub chosen_outputs : {A : Type 0} → Ops A → List (Layer A) → List ℕ → List A → List A
chosen_outputs o layers places inputs = wires_of o layers (chosen o places inputs)

-- the checks of layers over the chosen inputs
abbrev pub chosen_checks : {A : Type 0} → Ops A → (A → ℕ) → List (Layer A) → List ℕ → List A → List A
chosen_checks o number layers places inputs = checks_of o number layers (chosen o places inputs)
