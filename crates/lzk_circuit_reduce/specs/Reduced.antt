-- Which layers are reduced: no inner wire is there twice, or for nothing.
use Rattle.std.specs.Prelude.{◌≡◌, ◌≢◌, ℕ, ◌<◌, ◌≤◌, List, [], ◌∷◌, length, map}
use Rattle.std.proofs.Common.{◌⊎◌}
use Rattle.lzk_field.specs.Ring.{Ops}
use Rattle.lzk_circuit.specs.declared.layer.Term.{Term}
use Rattle.lzk_circuit.specs.declared.layer.Layer.{Layer}
use Rattle.lzk_circuit.specs.Wires.{wires_of}
use Rattle.lzk_circuit_reduce.specs.Renumbering.{of_wire}

-- the terms of wire g in order, each as (a, b, coefficient)
abbrev pub terms_of : {A : Type 0} → ℕ → List (Term A) → List (ℕ × ℕ × A)
terms_of g ts = map (λ t. (t.a, t.b, t.coef)) (of_wire g ts)

-- wire 0 goes on from wire 0 below
abbrev pub HasOne : {A : Type 0} → Ops A → Layer A → Type 0
HasOne o layer = terms_of 0 layer.terms ≡ (0, 0, o.one) ∷ []

-- no two wires have the same terms
abbrev pub AreDifferent : {A : Type 0} → Layer A → Type 0
AreDifferent layer = (g h : ℕ) → g < h → h < layer.wires → terms_of g layer.terms ≢ terms_of h layer.terms

-- some term names wire g below
abbrev pub IsNamed : {A : Type 0} → List (Term A) → ℕ → Type 0
IsNamed [] g = ⊥
IsNamed (t ∷ ts) g = ((t.a ≡ g) ⊎ (t.b ≡ g)) ⊎ IsNamed ts g

-- every wire but wire 0 is named by a term above
abbrev pub AreUsed : {A : Type 0} → Layer A → Layer A → Type 0
AreUsed above layer = (g : ℕ) → 1 ≤ g → g < layer.wires → IsNamed above.terms g

-- an inner layer of a reduced circuit, under the layer above it
pub record IsReducedLayer {A : Type 0} (o : Ops A) (above layer : Layer A) : Type 0 where
  pub one : HasOne o layer
  pub different : AreDifferent layer
  pub used : AreUsed above layer

-- each layer behind the first is so under the one before it
abbrev pub AreReducedUnder : {A : Type 0} → Ops A → Layer A → List (Layer A) → Type 0
AreReducedUnder o above [] = Unit {0}
AreReducedUnder o above (layer ∷ layers) = IsReducedLayer o above layer × AreReducedUnder o layer layers

-- the outputs' layer first
abbrev pub IsReduced : {A : Type 0} → Ops A → List (Layer A) → Type 0
IsReduced o [] = Unit {0}
IsReduced o (layer ∷ layers) = AreReducedUnder o layer layers

-- wire 0 of each layer behind the first goes on from wire 0 below
abbrev pub HaveOnesUnder : {A : Type 0} → Ops A → List (Layer A) → Type 0
HaveOnesUnder o [] = Unit {0}
HaveOnesUnder o (layer ∷ layers) = HasOne o layer × HaveOnesUnder o layers

abbrev pub HaveOnes : {A : Type 0} → Ops A → List (Layer A) → Type 0
HaveOnes o [] = Unit {0}
HaveOnes o (layer ∷ layers) = HaveOnesUnder o layers

-- no two wires of a layer behind the first have the same terms
abbrev pub AreAllDifferent : {A : Type 0} → List (Layer A) → Type 0
AreAllDifferent [] = Unit {0}
AreAllDifferent (layer ∷ layers) = AreDifferent layer × AreAllDifferent layers

abbrev pub AreInnerDifferent : {A : Type 0} → List (Layer A) → Type 0
AreInnerDifferent [] = Unit {0}
AreInnerDifferent (layer ∷ layers) = AreAllDifferent layers

-- every wire but wire 0 of a layer behind the first is named in the layer before it
abbrev pub AreUsedUnder : {A : Type 0} → Layer A → List (Layer A) → Type 0
AreUsedUnder above [] = Unit {0}
AreUsedUnder above (layer ∷ layers) = AreUsed above layer × AreUsedUnder layer layers

abbrev pub AreAllUsed : {A : Type 0} → List (Layer A) → Type 0
AreAllUsed [] = Unit {0}
AreAllUsed (layer ∷ layers) = AreUsedUnder layer layers

-- how many wires the first layer has
abbrev pub output_count : {A : Type 0} → List (Layer A) → ℕ
output_count [] = 0
output_count (layer ∷ layers) = layer.wires

-- the layers have the same outputs on inputs of so many wires
abbrev pub AreSameOutputs : {A : Type 0} → Ops A → ℕ → List (Layer A) → List (Layer A) → Type 0
AreSameOutputs {A = A} o inputs kept layers =
    (values : List A) → length values ≡ inputs → wires_of o kept values ≡ wires_of o layers values
