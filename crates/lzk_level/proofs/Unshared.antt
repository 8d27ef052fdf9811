-- Layers in which each node has a wire of its own in a level: by these a circuit is shown to exist.
use Rattle.std.specs.Prelude.{◌≡◌, ℕ, ◌+◌, ◌-◌, ◌<◌, ◌≤◌, true, cond, List, [], ◌∷◌, length, slice_index_or, map, ◌*◌, reverse}
use Rattle.std.proofs.Common.{zero, suc}
use Rattle.lzk_profile.specs.Profile.{most_total}
use Rattle.lzk_field.specs.Ring.{Ops}
use Rattle.lzk_field.specs.Sums.{entry}
use Rattle.lzk_circuit.specs.declared.layer.Layer.{Layer}
use Rattle.lzk_circuit.specs.declared.layer.Term.{Term}
use Rattle.lzk_circuit.specs.Wires.{wires_of}
use Rattle.lzk_level.specs.Gates.{Gate, Constant, Combine, Mul}
use Rattle.lzk_level.specs.Nodes.{combined}
use Rattle.lzk_circuit_reduce.specs.Renumbering.{at}
use Rattle.lzk_level.specs.Bounds.{gate_weight, at_parts, total}
use Rattle.lzk_circuit_reduce.specs.Rows.{IsRow, row_value, ordered}
use Rattle.lzk_level.specs.Levels.{AreWeights, AreValues, has_wire, Begins}
use Rattle.lzk_circuit.specs.Valid.{AreLayers, under_of}
use Rattle.lzk_circuit_reduce.specs.Reduced.{HaveOnes}
use Rattle.lzk_circuit_reduce.specs.Targets.{AreAllTerms}
use Rattle.lzk_level.specs.Checking.{of_depth}

-- how many of the first k nodes have a wire in a level
abbrev pub place_in : List ℕ → List ℕ → ℕ → ℕ → ℕ
place_in depths last level zero = 0
place_in depths last level (suc k) = cond (has_wire depths last level k) 1 0 + place_in depths last level k

-- how many wires a level has
abbrev pub width_of : List ℕ → List ℕ → ℕ → ℕ
width_of depths last level = place_in depths last level (length depths)

-- each node's place by its number
abbrev pub ArePlaces : List ℕ → List ℕ → ℕ → List ℕ → Type 0
ArePlaces depths last level places =
    (length places ≡ length depths) × ((k : ℕ) → k < length depths → at places k ≡ place_in depths last level k)

abbrev pub row_at : {A : Type 0} → List (List (Term A)) → ℕ → List (Term A)
row_at rows k = slice_index_or rows k []

-- the first row is that of the one, which goes on from wire 0 below
abbrev pub StartsWithOne : {A : Type 0} → Ops A → List (List (Term A)) → Type 0
StartsWithOne o rows = row_at rows 0 ≡ ordered o.one 0 0 ∷ []

-- every part is needed up to this level
abbrev pub ArePartsNeeded : {A : Type 0} → List ℕ → ℕ → List (A × ℕ) → Type 0
ArePartsNeeded last level [] = Unit {0}
ArePartsNeeded last level (p ∷ ps) = (level ≤ at last p.1) × ArePartsNeeded last level ps

-- a gate's factors and parts are needed up to this level
abbrev pub AreNeeded : {A : Type 0} → List ℕ → ℕ → Gate A → Type 0
AreNeeded last level (Constant c) = Unit {0}
AreNeeded last level (Combine parts) = ArePartsNeeded last level parts
AreNeeded last level (Mul x y) = (level ≤ at last x) × (level ≤ at last y)

-- the last level that needs each node: the inputs are there, and a node that is needed at its depth needs its factors
-- and parts there
pub record AreLast {A : Type 0} (inputs : ℕ) (made : List (Gate A)) (depths last : List ℕ) : Type 0 where
  pub count : length last ≡ length depths
  pub at_inputs : (k : ℕ) → k < inputs → 1 ≤ at last k
  pub gates : (i : ℕ) (d : Gate A) → i < length made → at depths (inputs + i) ≤ at last (inputs + i)
      → AreNeeded last (at depths (inputs + i)) (slice_index_or made i d)

-- the wires of a level have the values of the nodes that have a wire there
pub record Stands {A : Type 0} (o : Ops A) (depths last : List ℕ) (level : ℕ) (values wires : List A) : Type 0 where
  pub width : length wires ≡ width_of depths last level
  pub each : (k : ℕ) → k < length depths → has_wire depths last level k ≡ true
      → entry o wires (place_in depths last level k) ≡ entry o values k

-- the wires of these layers, of which the last one is level 1, and those of the inputs, have the values of the nodes
-- that have a wire there
abbrev pub StandFrom : {A : Type 0} → Ops A → List ℕ → List ℕ → List A → List A → List (Layer A) → Type 0
StandFrom o depths last values inputs [] = Stands o depths last 0 values inputs
StandFrom o depths last values inputs (layer ∷ layers) =
    Stands o depths last (length (layer ∷ layers)) values (wires_of o (layer ∷ layers) inputs)
    × StandFrom o depths last values inputs layers

-- so do those behind the first
abbrev pub StandBelow : {A : Type 0} → Ops A → List ℕ → List ℕ → List A → List A → List (Layer A) → Type 0
StandBelow o depths last values inputs [] = Unit {0}
StandBelow o depths last values inputs (layer ∷ layers) = StandFrom o depths last values inputs layers

-- so many inputs, and these layers, of which the last one is level 1, have as many wires as their levels
abbrev pub HaveWidths : {A : Type 0} → List ℕ → List ℕ → ℕ → List (Layer A) → Type 0
HaveWidths depths last inputs [] = inputs ≡ width_of depths last 0
HaveWidths depths last inputs (layer ∷ layers) =
    (layer.wires ≡ width_of depths last (length (layer ∷ layers))) × HaveWidths depths last inputs layers

-- the first layer has a wire for each output, and those behind it have as many as their levels
abbrev pub HaveWidthsBelow : {A : Type 0} → List ℕ → List ℕ → ℕ → ℕ → List (Layer A) → Type 0
HaveWidthsBelow depths last inputs outputs [] = Unit {0}
HaveWidthsBelow depths last inputs outputs (layer ∷ layers) =
    (layer.wires ≡ outputs) × HaveWidths depths last inputs layers

-- every row is over so many wires
abbrev pub AreRows : {A : Type 0} → Ops A → ℕ → List (List (Term A)) → Type 0
AreRows o width rows = (k : ℕ) → k < length rows → IsRow o width (row_at rows k)

-- the rows of the nodes that a level needs count their values
abbrev pub HaveValues : {A : Type 0} → Ops A → List ℕ → List ℕ → ℕ → List A → List A → List (List (Term A)) → Type 0
HaveValues o depths last level values below rows =
    (k : ℕ) → k < length rows → at depths k ≤ level → level ≤ at last k
    → row_value o below (row_at rows k) ≡ entry o values k

-- a row may have one term for a node that goes on from below, and else as many as the node is heavy
abbrev pub IsShort : List ℕ → ℕ → List ℕ → ℕ → ℕ → Type 0
IsShort depths level weights k n = (at depths k < level → n ≤ 1) × (1 ≤ k → n ≤ at weights k)

abbrev pub AreShort : {A : Type 0} → List ℕ → ℕ → List ℕ → List (List (Term A)) → Type 0
AreShort depths level weights rows = (k : ℕ) → k < length rows → IsShort depths level weights k (length (row_at rows k))

-- the places of a product's factors are below the width
abbrev pub AreFactorsBelow : {A : Type 0} → ℕ → List ℕ → Gate A → Type 0
AreFactorsBelow width places (Constant c) = Unit {0}
AreFactorsBelow width places (Combine parts) = Unit {0}
AreFactorsBelow width places (Mul x y) = (at places x < width) × (at places y < width)

-- a gate's value, by what the rows of its parts count and by the wires of its factors
abbrev pub placed_value : {A : Type 0} → Ops A → List A → List ℕ → List A → Gate A → A
placed_value o counted places below (Constant c) = c
placed_value o counted places below (Combine parts) = combined o counted parts
placed_value o counted places below (Mul x y) = o.times (entry o below (at places x)) (entry o below (at places y))

-- how many terms the rows of the nodes with a wire in a level have, of the first k
abbrev pub lengths_in : {A : Type 0} → List ℕ → List ℕ → ℕ → List (List (Term A)) → ℕ → ℕ
lengths_in depths last level rows zero = 0
lengths_in depths last level rows (suc k) =
    cond (has_wire depths last level k) (length (row_at rows k)) 0 + lengths_in depths last level rows k

-- how many terms the rows with these numbers have
abbrev pub lengths_of : {A : Type 0} → List (List (Term A)) → List ℕ → ℕ
lengths_of rows [] = 0
lengths_of rows (k ∷ ks) = length (row_at rows k) + lengths_of rows ks

-- every row is over so many wires; where there is no row there are no terms
abbrev pub AreAllRows : {A : Type 0} → Ops A → ℕ → List (List (Term A)) → Type 0
AreAllRows o width rows = (k : ℕ) → IsRow o width (row_at rows k)

-- a coefficient times two wires, or nothing where it is 0
pub record IsSingle {A : Type 0} (o : Ops A) (coef : A) (a b : ℕ) (row : List (Term A)) : Type 0 where
  pub terms : (width : ℕ) → a < width → b < width → IsRow o width row
  pub value : (below : List A) → row_value o below row ≡ o.times coef (o.times (entry o below a) (entry o below b))
  pub short : length row ≤ 1

-- the parts' rows, each times its coefficient, added up
pub record IsSumOf {A : Type 0} (o : Ops A) (rows : List (List (Term A))) (parts : List (A × ℕ))
    (row : List (Term A)) : Type 0 where
  pub terms : (width : ℕ) → AreAllRows o width rows → IsRow o width row
  pub value : (below : List A) → row_value o below row ≡ combined o (map (row_value o below) rows) parts
  pub short : length row ≤ total (at_parts (map length rows) parts)

-- the row of a gate in the level of its depth, by the places of the wires below and the rows of the nodes before it
pub record IsGateRow {A : Type 0} (o : Ops A) (places : List ℕ) (rows : List (List (Term A))) (gate : Gate A)
    (row : List (Term A)) : Type 0 where
  pub terms : (width : ℕ) → 1 ≤ width → AreAllRows o width rows → AreFactorsBelow width places gate → IsRow o width row
  pub value : (below : List A) → entry o below 0 ≡ o.one
      → row_value o below row ≡ placed_value o (map (row_value o below) rows) places below gate
  pub short : length row ≤ gate_weight (map length rows) gate

-- the row of the next node in a level, behind those of the nodes before it
pub record IsNodeRow {A : Type 0} (o : Ops A) (inputs : ℕ) (made : List (Gate A)) (depths last : List ℕ) (level : ℕ)
    (rows : List (List (Term A))) (row : List (Term A)) : Type 0 where
  pub terms : AreRows o (width_of depths last (level - 1)) rows → IsRow o (width_of depths last (level - 1)) row
  pub value : (values wires : List A) → AreValues o inputs made values → Stands o depths last (level - 1) values wires
      → HaveValues o depths last level values wires rows → at depths (length rows) ≤ level
      → level ≤ at last (length rows) → row_value o wires row ≡ entry o values (length rows)
  pub short : (weights : List ℕ) → AreWeights inputs made weights → AreShort depths level weights rows
      → IsShort depths level weights (length rows) (length row)
  pub one : length rows ≡ 0 → row ≡ ordered o.one 0 0 ∷ []

-- the places of the nodes with a wire in a level
abbrev pub AreWirePlaces : List ℕ → List ℕ → ℕ → List ℕ → Type 0
AreWirePlaces depths last level places =
    (length places ≡ length depths)
    × ((k : ℕ) → k < length depths → has_wire depths last level k ≡ true → at places k ≡ place_in depths last level k)

-- the rows of a level's first nodes, over the wires of the level below
pub record AreLevelRows {A : Type 0} (o : Ops A) (inputs : ℕ) (made : List (Gate A)) (depths last : List ℕ) (level : ℕ)
    (rows : List (List (Term A))) : Type 0 where
  pub row : AreRows o (width_of depths last (level - 1)) rows
  pub value : (values wires : List A) → AreValues o inputs made values → Stands o depths last (level - 1) values wires
      → HaveValues o depths last level values wires rows
  pub short : (weights : List ℕ) → AreWeights inputs made weights → AreShort depths level weights rows
  pub one : 1 ≤ length rows → StartsWithOne o rows

-- so many layers for outputs, the last one first, as long as the limit on terms is kept
pub record AreStacked {A : Type 0} (o : Ops A) (inputs : ℕ) (made : List (Gate A)) (depths last : List ℕ) (count : ℕ)
    (outputs : List ℕ) (layers : List (Layer A)) : Type 0 where
  pub count_is : length layers ≡ count
  pub valid : (weights : List ℕ) → AreWeights inputs made weights → 1 ≤ length outputs
      → ((i : ℕ) → i < length outputs → 1 ≤ at outputs i)
      → count * length depths + total weights + total (map (at weights) outputs) ≤ most_total
      → AreLayers o inputs (reverse layers)
  pub values : (values ins : List A) → AreValues o inputs made values → Begins o inputs values ins
      → wires_of o (reverse layers) ins ≡ map (entry o values) outputs
  pub ones : HaveOnes o (reverse layers)
  pub widths : HaveWidthsBelow depths last inputs (length outputs) (reverse layers)
  pub stand : (values ins : List A) → AreValues o inputs made values → Begins o inputs values ins
      → StandBelow o depths last values ins (reverse layers)
  pub terms : (weights : List ℕ) → AreWeights inputs made weights → ((i : ℕ) → i < length outputs → 1 ≤ at outputs i)
      → count * length depths + total weights + total (map (at weights) outputs) ≤ most_total
      → AreAllTerms o inputs (reverse layers)
  pub few_terms : (weights : List ℕ) → AreWeights inputs made weights
      → ((i : ℕ) → i < length outputs → 1 ≤ at outputs i)
      → count * length depths + total weights + total (map (at weights) outputs) ≤ most_total
      → (under_of inputs (reverse layers)).terms
      ≤ count * length depths + total weights + total (map (at weights) outputs)

-- the wires of a level that are those of the asserted nodes of its depth
abbrev pub level_targets : List ℕ → List ℕ → ℕ → List ℕ → List ℕ
level_targets depths last level asserts = map (place_in depths last level) (of_depth depths level asserts)

-- those of so many levels, the uppermost first
abbrev pub targets_below : List ℕ → List ℕ → List ℕ → ℕ → List (List ℕ)
targets_below depths last asserts zero = []
targets_below depths last asserts (suc level) =
    level_targets depths last level asserts ∷ targets_below depths last asserts level
