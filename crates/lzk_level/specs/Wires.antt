-- The wires of a level while layers are made, where nodes with the same row share one.
use Rattle.std.specs.Prelude.{◌≡◌, ℕ, ◌+◌, ◌-◌, ◌<◌, ◌≤◌, nat_le, cond, true, None, List, length, map}
use Rattle.std.specs.List.{All}
use Rattle.std.proofs.Common.{zero, suc}
use Rattle.lzk_field.specs.Ring.{Ops}
use Rattle.lzk_field.specs.Sums.{entry}
use Rattle.lzk_circuit.specs.declared.layer.Layer.{Layer}
use Rattle.lzk_circuit.specs.declared.layer.Term.{Term}
use Rattle.lzk_circuit.specs.Valid.{AreTerms}
use Rattle.lzk_circuit.specs.Wires.{layer_values}
use Rattle.lzk_circuit_reduce.specs.Reduced.{HasOne, AreDifferent}
use Rattle.lzk_circuit_reduce.specs.Renumbering.{at, IsOne}
use Rattle.lzk_circuit_reduce.specs.Rows.{IsRow, AreUnder, row_value}
use Rattle.lzk_level.specs.Bounds.{total}
use Rattle.lzk_level.specs.Levels.{has_wire}

-- values of the one, of inputs and of nodes that were made, so many in all: each form counts its node's value
pub record AreFormValues {A : Type 0} (o : Ops A) (inputs count : ℕ) (form : ℕ → List (Term A))
    (values : List A) : Type 0 where
  pub one : entry o values 0 ≡ o.one
  pub each : (k : ℕ) → inputs ≤ k → k < count → row_value o values (form k) ≡ entry o values k

-- their weights: no form has more terms than its node weighs, and each node but the one weighs something
pub record AreFormWeights {A : Type 0} (inputs count : ℕ) (form : ℕ → List (Term A)) (weights : List ℕ) : Type 0 where
  pub many : length weights ≡ count
  pub some : (k : ℕ) → 1 ≤ k → k < count → 1 ≤ at weights k
  pub each : (k : ℕ) → inputs ≤ k → k < count → length (form k) ≤ at weights k

-- The number of a wire for each node that has one in a level: nodes may share one. There are so many wires, the first
-- is that of the one, and the numbers of nodes without a wire say nothing.
pub record AreWires (depths last : List ℕ) (level wires : ℕ) (numbers : List ℕ) : Type 0 where
  pub count : length numbers ≡ length depths
  pub some : 1 ≤ wires
  pub one : at numbers 0 ≡ 0
  pub each : (k : ℕ) → k < length depths → has_wire depths last level k ≡ true → at numbers k < wires

-- each node's wire has its value
pub record CarryValues {A : Type 0} (o : Ops A) (depths last : List ℕ) (level : ℕ) (numbers : List ℕ)
    (values wires : List A) : Type 0 where
  pub one : entry o wires 0 ≡ o.one
  pub each : (k : ℕ) → k < length depths → has_wire depths last level k ≡ true
      → entry o wires (at numbers k) ≡ entry o values k

-- the term of a wire that goes on from below
abbrev pub going_on : {A : Type 0} → Ops A → ℕ → Term A
going_on o number = record { g = 0; a = 0; b = number; coef = o.one }

-- the wires with these numbers have the values of both nodes of a term
abbrev pub CarryTerm : {A : Type 0} → Ops A → List ℕ → List A → List A → Term A → Type 0
CarryTerm o numbers values wires t =
    (entry o wires (at numbers t.a) ≡ entry o values t.a) × (entry o wires (at numbers t.b) ≡ entry o values t.b)

-- so they have for each term
abbrev pub CarryTerms : {A : Type 0} → Ops A → List ℕ → List A → List A → List (Term A) → Type 0
CarryTerms o numbers values wires ts = All (CarryTerm o numbers values wires) ts

-- the row of a form, over the numbers of the wires that its nodes have
pub record IsFormRow {A : Type 0} (o : Ops A) (numbers : List ℕ) (form row : List (Term A)) : Type 0 where
  pub is : (width : ℕ) → AreUnder numbers width form → IsRow o width row
  pub value : (values wires : List A) → CarryTerms o numbers values wires form
      → row_value o wires row ≡ row_value o values form
  pub short : length row ≤ length form

-- a level needs the row of node k: the node is no deeper, and this level or one above uses it
pub record IsDue (depths last : List ℕ) (level k : ℕ) : Type 0 where
  pub some : 1 ≤ level
  pub node : k < length depths
  pub up : at depths k ≤ level
  pub used : level ≤ at last k

-- a row has one term for a node that goes on from below, and else as many as the node weighs
abbrev pub IsLight : List ℕ → ℕ → List ℕ → ℕ → ℕ → Type 0
IsLight depths level weights k n = (at depths k < level → n ≤ 1) × (level ≤ at depths k → n ≤ at weights k)

-- the row of node k in a level, over the numbers of the wires below; that of the one is one
pub record IsNodeRow {A : Type 0} (o : Ops A) (inputs : ℕ) (form : ℕ → List (Term A)) (depths last : List ℕ)
    (level : ℕ) (below : List ℕ) (k : ℕ) (row : List (Term A)) : Type 0 where
  pub is : (width : ℕ) → AreWires depths last (level - 1) width below → IsRow o width row
  pub value : (values wires : List A) → AreFormValues o inputs (length depths) form values
      → CarryValues o depths last (level - 1) below values wires → row_value o wires row ≡ entry o values k
  pub light : (weights : List ℕ) → AreFormWeights inputs (length depths) form weights
      → IsLight depths level weights k (length row)
  pub one : k ≡ 0 → at below 0 ≡ 0 → IsOne o row

-- the weights of those of the first k nodes that are no deeper than a level
abbrev pub weight_in : List ℕ → ℕ → List ℕ → ℕ → ℕ
weight_in depths level weights zero = 0
weight_in depths level weights (suc k) =
    cond (nat_le (at depths k) level) (at weights k) 0 + weight_in depths level weights k

-- The layer of a level over the one under it, which has so many wires with these numbers: no two of its own have the
-- same terms. It has one term at most for each node that goes on, and those of the nodes of its depth.
pub record IsLevelLayer {A : Type 0} (o : Ops A) (inputs : ℕ) (form : ℕ → List (Term A)) (depths last : List ℕ)
    (under level width : ℕ) (below here : List ℕ) (layer : Layer A) : Type 0 where
  pub wires : AreWires depths last level layer.wires here
  pub few : layer.wires ≤ length depths
  pub terms : AreTerms o layer.wires width None layer.terms
  pub values : (values wires : List A) → length wires ≡ width → AreFormValues o inputs (length depths) form values
      → CarryValues o depths last under below values wires
      → CarryValues o depths last level here values (layer_values o layer wires)
  pub one : HasOne o layer
  pub different : AreDifferent layer
  pub light : (weights : List ℕ) → AreFormWeights inputs (length depths) form weights
      → length layer.terms + weight_in depths under weights (length depths)
      ≤ length depths + weight_in depths level weights (length depths)

-- the layer with a wire for each of these nodes, over a level which has so many wires with these numbers
pub record IsTopLayer {A : Type 0} (o : Ops A) (inputs : ℕ) (form : ℕ → List (Term A)) (depths last : List ℕ)
    (under width : ℕ) (below outputs : List ℕ) (layer : Layer A) : Type 0 where
  pub wires : layer.wires ≡ length outputs
  pub terms : AreTerms o layer.wires width None layer.terms
  pub values : (values wires : List A) → length wires ≡ width → AreFormValues o inputs (length depths) form values
      → CarryValues o depths last under below values wires
      → layer_values o layer wires ≡ map (entry o values) outputs
  pub light : (weights : List ℕ) → AreFormWeights inputs (length depths) form weights
      → ((i : ℕ) → i < length outputs → 1 ≤ at outputs i) → length layer.terms ≤ total (map (at weights) outputs)
