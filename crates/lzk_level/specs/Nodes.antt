-- A builder's nodes, and their values.
use Rattle.std.specs.Prelude.{ℕ, ◌+◌, ◌≤◌, ◌++◌, List, [], ◌∷◌, length}
use Rattle.std.specs.Coded.{×_prop, Unit-prop, le_prop}
use Rattle.lzk_field.specs.Ring.{Ops}
use Rattle.lzk_field.specs.Sums.{entry}
use Rattle.lzk_circuit.specs.Wires.{inputs_of}
use Rattle.lzk_level.specs.Gates.{Gate, Constant, Combine, Mul}

-- The nodes of a builder: its inputs, and those that were made, in order. They are numbered from 1, the public inputs
-- first; number 0 is the one, which is no node.
pub record Nodes (A : Type 0) : Type 0 where
  pub publics : ℕ
  pub privates : ℕ
  pub made : List (Gate A)

abbrev pub nodes_from : {A : Type 0} → ℕ → ℕ → List (Gate A) → Nodes A
nodes_from publics privates made = record { publics = publics; privates = privates; made = made }

abbrev pub input_count : {A : Type 0} → Nodes A → ℕ
input_count n = n.publics + n.privates

abbrev pub node_count : {A : Type 0} → Nodes A → ℕ
node_count n = n.publics + n.privates + length n.made

-- with one more
abbrev pub with_gate : {A : Type 0} → Nodes A → Gate A → Nodes A
with_gate n gate = record { publics = n.publics; privates = n.privates; made = n.made ++ gate ∷ [] }

-- k is the number of one of the first n nodes
abbrev pub IsNode : ℕ → ℕ → Type 0
IsNode n k = (1 ≤ k) × (k ≤ n)

-- every part is one of the first n nodes
abbrev pub ArePartsOf : {A : Type 0} → ℕ → List (A × ℕ) → Type 0
ArePartsOf n [] = Unit {0}
ArePartsOf n (p ∷ ps) = IsNode n p.1 × ArePartsOf n ps

-- a gate over the first n nodes; a combination has a part
abbrev pub IsGate : {A : Type 0} → ℕ → Gate A → Type 0
IsGate n (Constant c) = Unit {0}
IsGate n (Combine parts) = (1 ≤ length parts) × ArePartsOf n parts
IsGate n (Mul x y) = IsNode n x × IsNode n y

-- each gate is over the nodes before it
abbrev pub AreGates : {A : Type 0} → ℕ → List (Gate A) → Type 0
AreGates n [] = Unit {0}
AreGates n (gate ∷ gates) = IsGate n gate × AreGates (n + 1) gates

-- there is one proof of it at most
ArePartsOf-prop : {A : Type 0} (n : ℕ) (ps : List (A × ℕ)) → IsProp (ArePartsOf n ps)
ArePartsOf-prop n [] = Unit-prop
ArePartsOf-prop n (p ∷ ps) = ×_prop (×_prop le_prop le_prop) (ArePartsOf-prop n ps)

IsGate-prop : {A : Type 0} (n : ℕ) (gate : Gate A) → IsProp (IsGate n gate)
IsGate-prop n (Constant c) = Unit-prop
IsGate-prop n (Combine parts) = ×_prop le_prop (ArePartsOf-prop n parts)
IsGate-prop n (Mul x y) = ×_prop (×_prop le_prop le_prop) (×_prop le_prop le_prop)

pub AreGates-prop : {A : Type 0} (n : ℕ) (gates : List (Gate A)) → IsProp (AreGates n gates)
AreGates-prop n [] = Unit-prop
AreGates-prop n (gate ∷ gates) = ×_prop (IsGate-prop n gate) (AreGates-prop (n + 1) gates)

-- the sum of the coefficients times the values at these numbers
abbrev pub combined : {A : Type 0} → Ops A → List A → List (A × ℕ) → A
combined o values [] = o.zero
combined o values (p ∷ ps) = o.plus (o.times p.0 (entry o values p.1)) (combined o values ps)

-- a gate's value, over the one and those of the nodes before it
abbrev pub gate_value : {A : Type 0} → Ops A → List A → Gate A → A
gate_value o values (Constant c) = c
gate_value o values (Combine parts) = combined o values parts
gate_value o values (Mul x y) = o.times (entry o values x) (entry o values y)

-- a list, and behind it what each gate makes of all that stands before it
abbrev pub after : {A X : Type 0} → (List X → Gate A → X) → List X → List (Gate A) → List X
after f xs [] = xs
after f xs (gate ∷ gates) = after f (xs ++ f xs gate ∷ []) gates

-- the value of each node by its number: the one, then the inputs, then the nodes that were made
abbrev pub node_values : {A : Type 0} → Ops A → Nodes A → List A → List A → List A
node_values o n public private = after (gate_value o) (inputs_of o public private) n.made
