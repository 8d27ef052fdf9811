-- The last level that uses each node, by the forms of the nodes that were made.
use Rattle.std.specs.Prelude.{◌≡◌, ℕ, ◌+◌, ◌-◌, ◌<◌, ◌≤◌, List, length}
use Rattle.std.specs.List.{All}
use Rattle.lzk_profile.specs.Profile.{most_wires}
use Rattle.lzk_circuit.specs.declared.layer.Term.{Term}
use Rattle.lzk_circuit_reduce.specs.Renumbering.{at}
use Rattle.lzk_circuit_reduce.specs.Rows.{AreUnder}
use Rattle.lzk_level.specs.declared.forms.Forms.{Forms}
use Rattle.lzk_level.specs.Forms.{form_at}

-- the form of a node by the node's number, where so many inputs stand before those that have one
abbrev pub node_form : {A : Type 0} → ℕ → Forms A → ℕ → List (Term A)
node_form inputs forms k = form_at forms.starts.items forms.terms.items (k - inputs)

-- both nodes of a term are before node k
abbrev pub IsBefore : {A : Type 0} → ℕ → Term A → Type 0
IsBefore k t = (t.a < k) × (t.b < k)

-- so are those of each term
abbrev pub AreBefore : {A : Type 0} → ℕ → List (Term A) → Type 0
AreBefore k ts = All (IsBefore k) ts

-- Nodes within the limit on wires, with their depths: so many inputs, the one among them, and behind them those that
-- were made, each with a form over less deep ones before it.
pub record IsFormed {A : Type 0} (inputs : ℕ) (forms : Forms A) (depths : List ℕ) : Type 0 where
  pub one : 1 ≤ inputs
  pub within : inputs ≤ length depths
  pub few : length depths ≤ most_wires
  pub starts : length forms.starts.items + inputs ≡ length depths + 1
  pub at_inputs : (k : ℕ) → k < inputs → at depths k ≡ 0
  pub deep : (k : ℕ) → inputs ≤ k → k < length depths → 1 ≤ at depths k
  pub before : (k : ℕ) → inputs ≤ k → k < length depths → AreBefore k (node_form inputs forms k)
  pub under : (k : ℕ) → inputs ≤ k → k < length depths → AreUnder depths (at depths k) (node_form inputs forms k)

-- both nodes of a term are used up to this level
abbrev pub IsUsedTo : {A : Type 0} → List ℕ → ℕ → Term A → Type 0
IsUsedTo last level t = (level ≤ at last t.a) × (level ≤ at last t.b)

-- so are those of each term
abbrev pub AreUsedTo : {A : Type 0} → List ℕ → ℕ → List (Term A) → Type 0
AreUsedTo last level ts = All (IsUsedTo last level) ts

-- the last level that uses each node: the inputs are there, and a node that was made and is used at its depth uses both
-- nodes of each term of its form there
pub record AreUses {A : Type 0} (inputs : ℕ) (forms : Forms A) (depths last : List ℕ) : Type 0 where
  pub count : length last ≡ length depths
  pub at_inputs : (k : ℕ) → k < inputs → 1 ≤ at last k
  pub made : (k : ℕ) → inputs ≤ k → k < length depths → at depths k ≤ at last k
      → AreUsedTo last (at depths k) (node_form inputs forms k)
