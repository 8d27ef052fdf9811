-- Forms: the terms of each made node over the nodes before it, whatever the levels.
use Rattle.std.specs.Prelude.{◌≡◌, ℕ, ◌+◌, ◌<◌, ◌≤◌, List, length}
use Rattle.std.specs.Coded.{Coded}
use Rattle.std.specs.List.{All}
use denote.Struct.Props as logic
use Rattle.lzk_field.specs.Ring.{Ops}
use Rattle.lzk_field.specs.Sums.{entry}
use Rattle.lzk_circuit.specs.declared.layer.Term.{Term}
use Rattle.lzk_circuit_reduce.specs.Renumbering.{at}
use Rattle.lzk_circuit_reduce.specs.Reducible.{AreTerms-prop}
use Rattle.lzk_circuit_reduce.specs.Rows.{IsRow, AreUnder, row_value}
use Rattle.lzk_level.specs.Gates.{Gate}
use Rattle.lzk_level.specs.Bounds.{at_parts, total}
use Rattle.lzk_level.specs.Levels.{AreValues, AreWeights, IsGraph}
use Rattle.lzk_level.specs.Nodes.{AreGates-prop, combined}
use Rattle.lzk_level.specs.Spans.{piece}

-- a row over the nodes for node k, which is made: a node's number stands in place of a wire's, each node in it is less
-- deep, it counts the node's value, and has no more terms than the node weighs
pub record IsNodeForm {A : Type 0} (o : Ops A) (inputs : ℕ) (made : List (Gate A)) (depths : List ℕ) (k : ℕ)
    (form : List (Term A)) : Type 0 where
  pub row : IsRow o k form
  pub under : AreUnder depths (at depths k) form
  pub value : (values : List A) → AreValues o inputs made values → row_value o values form ≡ entry o values k
  pub short : (weights : List ℕ) → AreWeights inputs made weights → length form ≤ at weights k

-- The forms stand behind each other in one list of terms, and the starts say where each begins, and the last ends: the
-- form of the made node i.
abbrev pub form_at : {A : Type 0} → List ℕ → List (Term A) → ℕ → List (Term A)
form_at starts terms i = piece terms (at starts i, at starts (i + 1))

-- each form begins and ends within so many terms
abbrev pub ArePieces : ℕ → List ℕ → Type 0
ArePieces n starts =
    (i : ℕ) → i + 1 < length starts → (at starts i ≤ at starts (i + 1)) × (at starts (i + 1) ≤ n)

-- the forms of the first so many of the made nodes
abbrev pub AreFormsTo : {A : Type 0} → Ops A → ℕ → List (Gate A) → List ℕ → ℕ → List ℕ → List (Term A) → Type 0
AreFormsTo o inputs made depths n starts terms =
    (i : ℕ) → i < n → IsNodeForm o inputs made depths (inputs + i) (form_at starts terms i)

-- the forms of all made nodes, which stand behind so many inputs, the one among them
pub record AreForms {A : Type 0} (o : Ops A) (inputs : ℕ) (made : List (Gate A)) (depths starts : List ℕ)
    (terms : List (Term A)) : Type 0 where
  pub count : length starts ≡ 1 + length made
  pub each : AreFormsTo o inputs made depths (length made) starts terms

-- ---- how they are made

-- the form of the made node i of a graph, which has this depth, comes next: those of the made nodes before it are there
pub record IsNext {A : Type 0} (o : Ops A) (inputs : ℕ) (made : List (Gate A)) (depths starts : List ℕ)
    (terms : List (Term A)) (i depth : ℕ) : Type 0 where
  pub graph : IsGraph inputs made depths
  pub there : i < length made
  pub depth_is : depth ≡ at depths (inputs + i)
  pub count : length starts ≡ i + 1
  pub pieces : ArePieces (length terms) starts
  pub forms : AreFormsTo o inputs made depths i starts terms

-- there is one proof of it at most
IsNodeForm-prop : {A : Type 0} → Coded A → (o : Ops A) (inputs : ℕ) (made : List (Gate A)) (depths : List ℕ) (k : ℕ)
    (form : List (Term A)) → IsProp (IsNodeForm o inputs made depths k form)
IsNodeForm-prop code o inputs made depths k form = Prim.hlevel (logic.props, AreTerms-prop, code)

IsGraph-prop : {A : Type 0} (inputs : ℕ) (made : List (Gate A)) (depths : List ℕ) → IsProp (IsGraph inputs made depths)
IsGraph-prop inputs made depths = Prim.hlevel (logic.props, AreGates-prop)

pub IsNext-prop : {A : Type 0} → Coded A → (o : Ops A) (inputs : ℕ) (made : List (Gate A)) (depths starts : List ℕ)
    (terms : List (Term A)) (i depth : ℕ) → IsProp (IsNext o inputs made depths starts terms i depth)
IsNext-prop code o inputs made depths starts terms i depth =
    Prim.hlevel (logic.props, IsNodeForm-prop code, IsGraph-prop)

-- k is a node before the node n, which has this depth, and no deeper
pub record IsPart (depths : List ℕ) (n depth k : ℕ) : Type 0 where
  pub some : 1 ≤ k
  pub before : k < n
  pub most : at depths k ≤ depth

-- so is each of the parts
abbrev pub AreParts : {A : Type 0} → List ℕ → ℕ → ℕ → List (A × ℕ) → Type 0
AreParts depths n depth parts = All (λ p. IsPart depths n depth p.1) parts

-- a coefficient times two wires, or no term where it is 0
pub record IsProduct {A : Type 0} (o : Ops A) (coef : A) (a b : ℕ) (row : List (Term A)) : Type 0 where
  pub terms : (width : ℕ) → a < width → b < width → IsRow o width row
  pub under : (ns : List ℕ) (d : ℕ) → at ns a < d → at ns b < d → AreUnder ns d row
  pub value : (below : List A) → row_value o below row ≡ o.times coef (o.times (entry o below a) (entry o below b))
  pub short : length row ≤ 1

-- a row over the nodes for the sum of these parts of the node k, which has this depth
pub record IsSumForm {A : Type 0} (o : Ops A) (inputs : ℕ) (made : List (Gate A)) (depths : List ℕ) (k depth : ℕ)
    (parts : List (A × ℕ)) (row : List (Term A)) : Type 0 where
  pub terms : IsRow o k row
  pub under : AreUnder depths depth row
  pub value : (values : List A) → AreValues o inputs made values → row_value o values row ≡ combined o values parts
  pub short : (weights : List ℕ) → AreWeights inputs made weights → length row ≤ total (at_parts weights parts)
