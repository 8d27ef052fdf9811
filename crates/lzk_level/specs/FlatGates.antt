-- Gates whose parts stand in one list.
use Rattle.std.specs.Prelude.{ℕ, ◌≤◌, List, [], ◌∷◌, map}
use Rattle.lzk_level.specs.declared.gates.Made.{Made}
use Rattle.lzk_level.specs.declared.gates.Made.TheVariants as stored
use Rattle.lzk_level.specs.declared.gates.GateRef.{GateRef}
use Rattle.lzk_level.specs.declared.gates.GateRef.TheVariants as lent
use Rattle.lzk_level.specs.Gates.{Gate, Constant, Combine, Mul}
use Rattle.lzk_level.specs.Spans.{piece}

-- the gate that one in memory stands for, over the list of parts
abbrev pub gate_in : {A : Type 0} → List (A × ℕ) → Made A → Gate A
gate_in parts (stored.Constant c) = Constant c
gate_in parts (stored.Combine begin end) = Combine (piece parts (begin, end))
gate_in parts (stored.Mul x y) = Mul x y

abbrev pub gates_in : {A : Type 0} → List (A × ℕ) → List (Made A) → List (Gate A)
gates_in parts made = map (gate_in parts) made

-- a sum begins and ends within so many parts
abbrev pub IsSpanned : {A : Type 0} → ℕ → Made A → Type 0
IsSpanned n (stored.Constant c) = Unit {0}
IsSpanned n (stored.Combine begin end) = (begin ≤ end) × (end ≤ n)
IsSpanned n (stored.Mul x y) = Unit {0}

abbrev pub AreSpanned : {A : Type 0} → ℕ → List (Made A) → Type 0
AreSpanned n [] = Unit {0}
AreSpanned n (gate ∷ gates) = IsSpanned n gate × AreSpanned n gates

-- the gate that is lent
abbrev pub gate_of : {A : Type 0} → GateRef A → Gate A
gate_of (lent.Constant c) = Constant c
gate_of (lent.Combine parts) = Combine parts.now
gate_of (lent.Mul x y) = Mul x y
