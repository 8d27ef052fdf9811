-- Layers that stand one above the other over forms: what is asked of their outputs and of asserted nodes, and what they
-- are.
use Rattle.std.specs.Prelude.{◌≡◌, ℕ, ◌+◌, ◌-◌, ◌*◌, ◌<◌, ◌≤◌, min, List, [], ◌∷◌, length, map, reverse}
use Rattle.lzk_profile.specs.Profile.{most_wires, most_total}
use Rattle.lzk_field.specs.Ring.{Ops}
use Rattle.lzk_field.specs.Sums.{entry}
use Rattle.lzk_circuit.specs.declared.layer.Layer.{Layer}
use Rattle.lzk_circuit.specs.declared.layer.Term.{Term}
use Rattle.lzk_circuit.specs.Valid.{AreLayers, under_of}
use Rattle.lzk_circuit.specs.Wires.{wires_of}
use Rattle.lzk_circuit_reduce.specs.Attached.{AreNarrowWith}
use Rattle.lzk_circuit_reduce.specs.Reduced.{HaveOnes, HaveOnesUnder, AreAllDifferent, AreInnerDifferent, output_count}
use Rattle.lzk_circuit_reduce.specs.Renumbering.{at}
use Rattle.lzk_circuit_reduce.specs.Targets.{targets_at, AreTargets, AreAllTerms, target_values, target_count}
use Rattle.lzk_level.specs.Gates.{Gate}
use Rattle.lzk_level.specs.declared.tower.Tower.{Tower}
use Rattle.lzk_level.specs.Bounds.{total}
use Rattle.lzk_level.specs.Checking.{of_depth, by_depth}
use Rattle.lzk_level.specs.Levels.{AreValues, AreWeights, Begins}
use Rattle.lzk_level.specs.Stacking.{ArePassed}
use Rattle.lzk_level.specs.Wires.{AreFormValues, AreFormWeights, AreWires, CarryValues, weight_in}

-- asserted nodes are used at the level above their depth, or at the uppermost
pub record AreAssertable (depths last asserts : List ℕ) (count : ℕ) : Type 0 where
  pub nodes : (i : ℕ) → i < length asserts → at asserts i < length depths
  pub used : (i : ℕ) → i < length asserts → min count (at depths (at asserts i) + 1) ≤ at last (at asserts i)

-- each layer has a wire, and no more than so many
abbrev pub HaveFewWires : {A : Type 0} → ℕ → List (Layer A) → Type 0
HaveFewWires most [] = Unit {0}
HaveFewWires most (layer ∷ layers) = (1 ≤ layer.wires) × (layer.wires ≤ most) × HaveFewWires most layers

-- the layers of so many levels above the inputs, the uppermost first, with the numbers of the uppermost wires, and what
-- each asserts of the level below it: the asserted nodes of that depth. They are no more than the limits count.
pub record AreLevels {A : Type 0} (o : Ops A) (inputs : ℕ) (form : ℕ → List (Term A)) (depths last asserts : List ℕ)
    (level : ℕ) (layers : List (Layer A)) (targets : List (List ℕ)) (numbers : List ℕ) : Type 0 where
  pub count : length layers ≡ level
  pub lists : length targets ≡ level
  pub wires : AreWires depths last level (under_of inputs layers).width numbers
  pub values : (values ins : List A) → AreFormValues o inputs (length depths) form values → Begins o inputs values ins
      → CarryValues o depths last level numbers values (wires_of o layers ins)
  pub ones : HaveOnesUnder o layers
  pub different : AreAllDifferent layers
  pub terms : AreAllTerms o inputs layers
  pub each_few : HaveFewWires (length depths) layers
  pub few_wires : (under_of inputs layers).wires ≤ level * length depths
  pub few_terms : (weights : List ℕ) → AreFormWeights inputs (length depths) form weights
      → (under_of inputs layers).terms ≤ level * length depths + weight_in depths level weights (length depths)
  pub asserted : AreTargets inputs targets layers
  pub asserted_values : (values ins : List A) → AreFormValues o inputs (length depths) form values
      → Begins o inputs values ins
      → target_values o targets layers ins ≡ map (entry o values) (by_depth depths asserts level)
  pub asserted_count : target_count targets layers ≡ length (by_depth depths asserts level)
  pub narrow : length depths + length asserts ≤ most_wires → AreNarrowWith most_wires targets layers

-- the same, in a tower
pub record IsTower {A : Type 0} (o : Ops A) (inputs : ℕ) (form : ℕ → List (Term A)) (depths last asserts : List ℕ)
    (level : ℕ) (tower : Tower A) : Type 0 where
  pub passed : ArePassed last tower.next.items level
  pub room : length tower.here.items ≡ length depths
  pub levels : AreLevels o inputs form depths last asserts level (reverse tower.layers.items)
      (reverse tower.targets.items) tower.below.items

-- so many layers for outputs, the first of them for the outputs, and what each asserts of the level below it: the
-- asserted nodes of that depth. They are no more than the limits count.
pub record IsStack {A : Type 0} (o : Ops A) (inputs : ℕ) (form : ℕ → List (Term A)) (depths : List ℕ) (count : ℕ)
    (outputs asserts : List ℕ) (layers : List (Layer A)) (targets : List (List ℕ)) : Type 0 where
  pub count_is : length layers ≡ count
  pub lists : length targets ≡ count
  pub first : output_count layers ≡ length outputs
  pub values : (values ins : List A) → AreFormValues o inputs (length depths) form values → Begins o inputs values ins
      → wires_of o layers ins ≡ map (entry o values) outputs
  pub ones : HaveOnes o layers
  pub different : AreInnerDifferent layers
  pub terms : AreAllTerms o inputs layers
  pub few_wires : (under_of inputs layers).wires ≤ (count - 1) * length depths + length outputs
  pub few_terms : (weights : List ℕ) → AreFormWeights inputs (length depths) form weights
      → ((i : ℕ) → i < length outputs → 1 ≤ at outputs i)
      → (under_of inputs layers).terms ≤ count * length depths + total weights + total (map (at weights) outputs)
  pub valid : (weights : List ℕ) → AreFormWeights inputs (length depths) form weights → 1 ≤ length outputs
      → ((i : ℕ) → i < length outputs → 1 ≤ at outputs i)
      → count * length depths + total weights + total (map (at weights) outputs) ≤ most_total
      → AreLayers o inputs layers
  pub asserted : AreTargets inputs targets layers
  pub asserted_values : (values ins : List A) → AreFormValues o inputs (length depths) form values
      → Begins o inputs values ins
      → target_values o targets layers ins ≡ map (entry o values) (by_depth depths asserts count)
  pub asserted_count : target_count targets layers ≡ length (by_depth depths asserts count)
  pub asserted_first : length (targets_at targets 0) ≡ length (of_depth depths (count - 1) asserts)
  pub narrow : length depths + length asserts ≤ most_wires
      → length outputs + length (of_depth depths (count - 1) asserts) ≤ most_wires
      → AreNarrowWith most_wires targets layers

-- such layers over the gates of a graph, by some forms of its nodes
pub record IsStackOver {A : Type 0} (o : Ops A) (inputs : ℕ) (made : List (Gate A)) (depths : List ℕ) (count : ℕ)
    (outputs asserts : List ℕ) (layers : List (Layer A)) (targets : List (List ℕ)) : Type 0 where
  pub form : ℕ → List (Term A)
  pub stack : IsStack o inputs form depths count outputs asserts layers targets
  pub values : (values : List A) → AreValues o inputs made values → AreFormValues o inputs (length depths) form values
  pub weights : (weights : List ℕ) → AreWeights inputs made weights
      → AreFormWeights inputs (length depths) form weights
