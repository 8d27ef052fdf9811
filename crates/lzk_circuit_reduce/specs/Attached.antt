-- Layers with assertion wires behind their own.
use Rattle.std.specs.Prelude.{◌≡◌, ◌≢◌, ℕ, ◌+◌, ◌<◌, ◌≤◌, List, [], ◌∷◌, ◌++◌, length}
use Rattle.std.proofs.Common.{◌⊎◌}
use Rattle.lzk_field.specs.Ring.{Ops}
use Rattle.lzk_circuit.specs.declared.layer.Term.{Term}
use Rattle.lzk_circuit.specs.declared.layer.Layer.{Layer}
use Rattle.lzk_circuit.specs.Checks.{checks_of, check_count}
use Rattle.lzk_circuit.specs.Valid.{AreLayersOf}
use Rattle.lzk_circuit.specs.Wires.{wires_of}
use Rattle.lzk_field.specs.Sums.{entry}
use Rattle.lzk_circuit_reduce.specs.Reduced.{terms_of, HasOne, IsNamed, output_count}
use Rattle.lzk_circuit_reduce.specs.Targets.{targets_at, behind, target_values, target_count}

-- assertion terms of wire 0 and each of these wires below, the first of wire g
abbrev pub assertions : {A : Type 0} → Ops A → ℕ → List ℕ → List (Term A)
assertions o g [] = []
assertions o g (w ∷ ws) = record { g = g; a = 0; b = w; coef = o.zero } ∷ assertions o (g + 1) ws

-- the layer with an assertion wire for each of these wires below
abbrev pub attached : {A : Type 0} → Ops A → Layer A → List ℕ → Layer A
attached o layer ws = record { wires = layer.wires + length ws; terms = layer.terms ++ assertions o layer.wires ws }

-- each layer with an assertion wire for each wire that it asserts
abbrev pub attached_layers : {A : Type 0} → Ops A → List (List ℕ) → List (Layer A) → List (Layer A)
attached_layers o ws [] = []
attached_layers o ws (layer ∷ layers) = attached o layer (targets_at ws 0) ∷ attached_layers o (behind ws) layers

-- no layer has more wires than this, with those that assert
abbrev pub AreNarrowWith : {A : Type 0} → ℕ → List (List ℕ) → List (Layer A) → Type 0
AreNarrowWith most ws [] = Unit {0}
AreNarrowWith most ws (layer ∷ layers) =
    (layer.wires + length (targets_at ws 0) ≤ most) × AreNarrowWith most (behind ws) layers

-- ---- when a circuit with assertion wires is reduced

-- wire g has an assertion term
abbrev pub IsAsserting : {A : Type 0} → Ops A → List (Term A) → ℕ → Type 0
IsAsserting o [] g = ⊥
IsAsserting o (t ∷ ts) g = ((t.g ≡ g) × (t.coef ≡ o.zero)) ⊎ IsAsserting o ts g

-- An inner layer of a reduced circuit, under the layer above it: wire 0 goes on from wire 0 below; no two wires that
-- assert nothing have the same terms; each of these but wire 0 is named by a term above; and a wire that asserts is
-- named by none.
pub record IsReducedAssertingLayer {A : Type 0} (o : Ops A) (above layer : Layer A) : Type 0 where
  pub one : HasOne o layer
  pub different : (g h : ℕ) → g < h → h < layer.wires → (IsAsserting o layer.terms g → ⊥)
      → (IsAsserting o layer.terms h → ⊥)
      → terms_of g layer.terms ≢ terms_of h layer.terms
  pub used : (g : ℕ) → 1 ≤ g → g < layer.wires → (IsAsserting o layer.terms g → ⊥) → IsNamed above.terms g
  pub alone : (g : ℕ) → IsAsserting o layer.terms g → IsNamed above.terms g → ⊥

abbrev pub AreReducedAssertingUnder : {A : Type 0} → Ops A → Layer A → List (Layer A) → Type 0
AreReducedAssertingUnder o above [] = Unit {0}
AreReducedAssertingUnder o above (layer ∷ layers) =
    IsReducedAssertingLayer o above layer × AreReducedAssertingUnder o layer layers

-- the outputs' layer first
abbrev pub IsReducedAsserting : {A : Type 0} → Ops A → List (Layer A) → Type 0
IsReducedAsserting o [] = Unit {0}
IsReducedAsserting o (layer ∷ layers) = AreReducedAssertingUnder o layer layers

-- reduced layers with assertion wires: the checks are the outputs, and then the values of what the layers assert, layer
-- by layer
pub record IsAssertingForm {A : Type 0} (o : Ops A) (number : A → ℕ) (inputs : ℕ) (ws : List (List ℕ))
    (layers all : List (Layer A)) : Type 0 where
  pub count : length all ≡ length layers
  pub valid : AreLayersOf o 2 inputs all
  pub checks_count : check_count number all ≡ output_count layers + target_count ws layers
  -- the first layer has a wire for each output and for each wire that it asserts
  pub first_count : output_count all ≡ output_count layers + length (targets_at ws 0)
  pub checks : (values : List A) → length values ≡ inputs → entry o values 0 ≡ o.one
      → checks_of o number all values ≡ wires_of o layers values ++ target_values o ws layers values
  pub reduced : IsReducedAsserting o all
