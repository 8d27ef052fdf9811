-- The wires that layers assert to be 0.
use Rattle.std.specs.Prelude.{◌≡◌, ℕ, ◌+◌, ◌<◌, ◌==◌, ◌||◌, false, Bool, None, List, [], ◌∷◌, ◌++◌, length, map, slice_index_or}
use Rattle.std.specs.List.{AllByRecursion}
use Rattle.lzk_field.specs.Ring.{Ops}
use Rattle.lzk_field.specs.Sums.{entry}
use Rattle.lzk_circuit.specs.declared.layer.Layer.{Layer}
use Rattle.lzk_circuit.specs.Valid.{under_of, AreTerms}
use Rattle.lzk_circuit.specs.Wires.{wires_of}

-- the wires that the layer with a number asserts, of the layer below it; none where there is no list
abbrev pub targets_at : List (List ℕ) → ℕ → List ℕ
targets_at ws l = slice_index_or ws l []

-- the lists of the layers behind the first
abbrev pub behind : List (List ℕ) → List (List ℕ)
behind [] = []
behind (w ∷ ws) = ws

abbrev pub is_in : List ℕ → ℕ → Bool
is_in [] k = false
is_in (w ∷ ws) k = (w == k) || is_in ws k

-- each is the number of one of so many wires
abbrev pub AreBelow : ℕ → List ℕ → Type 0
AreBelow width ws = AllByRecursion (λ w. w < width) ws

-- each layer asserts wires of the layer below it, the last one inputs, of which there are so many
abbrev pub AreTargets : {A : Type 0} → ℕ → List (List ℕ) → List (Layer A) → Type 0
AreTargets inputs ws [] = Unit {0}
AreTargets inputs ws (layer ∷ layers) =
    AreBelow (under_of inputs layers).width (targets_at ws 0) × AreTargets inputs (behind ws) layers

-- the values of the asserted wires, those of the first layer's first
abbrev pub target_values : {A : Type 0} → Ops A → List (List ℕ) → List (Layer A) → List A → List A
target_values o ws [] inputs = []
target_values o ws (layer ∷ layers) inputs =
    map (entry o (wires_of o layers inputs)) (targets_at ws 0) ++ target_values o (behind ws) layers inputs

-- how many wires the layers assert
abbrev pub target_count : {A : Type 0} → List (List ℕ) → List (Layer A) → ℕ
target_count ws [] = 0
target_count ws (layer ∷ layers) = length (targets_at ws 0) + target_count (behind ws) layers

-- the layers assert wires of the same values, one for one
abbrev pub AreSameTargets : {A : Type 0} → Ops A → ℕ → List (List ℕ) → List (Layer A) → List (List ℕ) → List (Layer A)
    → Type 0
AreSameTargets {A = A} o inputs moved kept ws layers =
    (values : List A) → length values ≡ inputs → target_values o moved kept values ≡ target_values o ws layers values

-- the terms of each layer are those of its wires, over the wires below
abbrev pub AreAllTerms : {A : Type 0} → Ops A → ℕ → List (Layer A) → Type 0
AreAllTerms o inputs [] = Unit {0}
AreAllTerms o inputs (layer ∷ layers) =
    AreTerms o layer.wires (under_of inputs layers).width None layer.terms × AreAllTerms o inputs layers
