-- Two layers over three inputs, of which the lower one has a wire that nothing uses.
use Rattle.std.specs.Prelude.{ℕ, List, [], ◌∷◌}
use Rattle.lzk_field.specs.Ring.{Ops}
use Rattle.lzk_circuit.specs.declared.layer.Term.{Term}
use Rattle.lzk_circuit.specs.declared.layer.Layer.{Layer}

-- wire a times wire b of the layer below counts for wire g
abbrev pub product : {A : Type 0} → Ops A → ℕ → ℕ → ℕ → Term A
product o g a b = record { g = g; a = a; b = b; coef = o.one }

-- the one, a product that nothing uses, a square, and an input
abbrev pub lower : {A : Type 0} → Ops A → Layer A
lower o = record {
  wires = 4;
  terms = product o 0 0 0 ∷ product o 1 1 2 ∷ product o 2 2 2 ∷ product o 3 0 1 ∷ [];
}

-- the square, and the square times the input
abbrev pub upper : {A : Type 0} → Ops A → Layer A
upper o = record { wires = 1; terms = product o 0 0 2 ∷ product o 0 2 3 ∷ [] }

abbrev pub wasteful : {A : Type 0} → Ops A → List (Layer A)
wasteful o = upper o ∷ lower o ∷ []

-- the upper layer asserts the product that nothing uses, and the lower one an input
abbrev pub asserted : List (List ℕ)
asserted = (1 ∷ []) ∷ (2 ∷ []) ∷ []
