-- Layers that assert wires: when others are their reduced form.
use Rattle.std.specs.Prelude.{◌≡◌, ℕ, ◌<◌, ◌≤◌, true, List, [], ◌∷◌, length}
use Rattle.std.proofs.Common.{◌⊎◌}
use Rattle.lzk_field.specs.Ring.{Ops}
use Rattle.lzk_circuit.specs.declared.layer.Layer.{Layer}
use Rattle.lzk_circuit.specs.Valid.{AreLayers}
use Rattle.lzk_circuit_reduce.specs.Reduced.{HasOne, AreDifferent, IsNamed, AreSameOutputs, output_count}
use Rattle.lzk_circuit_reduce.specs.Targets.{targets_at, behind, is_in, AreTargets, AreSameTargets}

-- every wire but wire 0 is named by a term above, or asserted there
abbrev pub AreUsedWith : {A : Type 0} → Layer A → List ℕ → Layer A → Type 0
AreUsedWith above ws layer = (g : ℕ) → 1 ≤ g → g < layer.wires → IsNamed above.terms g ⊎ (is_in ws g ≡ true)

-- the first list is that of the layer above these
abbrev pub AreUsedUnderWith : {A : Type 0} → Layer A → List (List ℕ) → List (Layer A) → Type 0
AreUsedUnderWith above ws [] = Unit {0}
AreUsedUnderWith above ws (layer ∷ layers) =
    AreUsedWith above (targets_at ws 0) layer × AreUsedUnderWith layer (behind ws) layers

abbrev pub AreAllUsedWith : {A : Type 0} → List (List ℕ) → List (Layer A) → Type 0
AreAllUsedWith ws [] = Unit {0}
AreAllUsedWith ws (layer ∷ layers) = AreUsedUnderWith layer ws layers

-- an inner layer of reduced layers, under the layer above it, which asserts these wires
pub record IsReducedUnder {A : Type 0} (o : Ops A) (above : Layer A) (ws : List ℕ) (layer : Layer A) : Type 0 where
  pub one : HasOne o layer
  pub different : AreDifferent layer
  pub used : AreUsedWith above ws layer

abbrev pub AreReducedWithUnder : {A : Type 0} → Ops A → Layer A → List (List ℕ) → List (Layer A) → Type 0
AreReducedWithUnder o above ws [] = Unit {0}
AreReducedWithUnder o above ws (layer ∷ layers) =
    IsReducedUnder o above (targets_at ws 0) layer × AreReducedWithUnder o layer (behind ws) layers

-- no inner wire is there twice, or for nothing
abbrev pub IsReducedWith : {A : Type 0} → Ops A → List (List ℕ) → List (Layer A) → Type 0
IsReducedWith o ws [] = Unit {0}
IsReducedWith o ws (layer ∷ layers) = AreReducedWithUnder o layer ws layers

-- each layer has no more wires and terms
abbrev pub AreFewer : {A : Type 0} → List (Layer A) → List (Layer A) → Type 0
AreFewer [] layers = Unit {0}
AreFewer (x ∷ xs) [] = ⊥
AreFewer (x ∷ xs) (layer ∷ layers) =
    (x.wires ≤ layer.wires) × (length x.terms ≤ length layer.terms) × AreFewer xs layers

-- each layer asserts as many wires
abbrev pub AreAsMany : {A : Type 0} → List (List ℕ) → List (List ℕ) → List (Layer A) → Type 0
AreAsMany moved ws [] = Unit {0}
AreAsMany moved ws (layer ∷ layers) =
    (length (targets_at moved 0) ≡ length (targets_at ws 0)) × AreAsMany (behind moved) (behind ws) layers

-- layers with the same outputs, that assert the same values, by no more wires and terms
pub record IsForm {A : Type 0} (o : Ops A) (inputs : ℕ) (ws : List (List ℕ)) (layers : List (Layer A))
    (moved : List (List ℕ)) (kept : List (Layer A)) : Type 0 where
  pub count : length kept ≡ length layers
  pub valid : AreLayers o inputs kept
  pub outputs : output_count kept ≡ output_count layers
  pub values : AreSameOutputs o inputs kept layers
  pub fewer : AreFewer kept layers
  pub targets : AreTargets inputs moved kept
  pub as_many : AreAsMany moved ws layers
  pub asserted : AreSameTargets o inputs moved kept ws layers
