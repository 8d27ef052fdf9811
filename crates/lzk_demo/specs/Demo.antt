-- The demo's source and its inputs: the exclusive or of so many private bits, taken in pairs, is the public bit.
use Rattle.std.specs.Prelude.{◌≡◌, ℕ, ◌+◌, ◌/◌, ◌^◌, ◌≤◌, max, Bool, true, false, not, List, [], ◌∷◌, ◌++◌, map, length, decimal}
use Rattle.std.proofs.Common.{zero, suc}
use Rattle.lzk_field.specs.Ring.{Ops}
use Rattle.lzk_expr.specs.Trees.{Expr, Number, PublicInput, PrivateInput, Named, Added, Multiplied, NoPart, part, NoExpr, factor, Statement, DeclarePublic, DeclarePrivate, Define, Assertion, SourceTree}
use Rattle.lzk_expr.specs.declared.ast.FieldId.TheVariants.{Goldilocks}
use Rattle.lzk_circuit.specs.Valid.{Wiring, IsValid}
use Rattle.lzk_circuit.specs.Wires.{inputs_of}
use Rattle.lzk_circuit.specs.Checks.{IsSatisfied}
use Rattle.lzk_level.specs.Compiled.{HasValues}
use Rattle.lzk_demo.specs.declared.entry.Entry.{Entry}
use Rattle.lzk_demo.specs.declared.entry.Entry.TheVariants.{Input, Made}

-- x1, x2, ..
abbrev pub input_name : ℕ → List ℕ
input_name i = 120 ∷ decimal (i + 1)

-- t1, t2, ..
abbrev pub let_name : ℕ → List ℕ
let_name k = 116 ∷ decimal (k + 1)

abbrev pub expr_of : Entry → Expr
expr_of (Input i) = PrivateInput i
expr_of (Made k) = Named k

-- a + b - 2 * a * b
abbrev pub exclusive_or : Expr → Expr → Expr
exclusive_or a b =
    Added (part false a (part false b (part true (Multiplied (factor (Number 2) (factor a (factor b NoExpr)))) NoPart)))

-- The let lines of a round: one for each adjacent pair, the first with the number k.
abbrev pub round_lets : ℕ → List Entry → List Statement
round_lets k [] = []
round_lets k (a ∷ []) = []
round_lets k (a ∷ b ∷ es) = Define (let_name k) (exclusive_or (expr_of a) (expr_of b)) ∷ round_lets (k + 1) es

-- The list behind a round: each pair is replaced by its let name. An odd last entry stays.
abbrev pub paired : ℕ → List Entry → List Entry
paired k [] = []
paired k (a ∷ []) = a ∷ []
paired k (a ∷ b ∷ es) = Made k ∷ paired (k + 1) es

abbrev pub first_of : List Entry → Expr
first_of [] = Number 0
first_of (e ∷ es) = expr_of e

-- So many rounds, and then the assert that the first entry is the public input. A round of one entry changes nothing.
abbrev pub rounds : ℕ → ℕ → List Entry → List Statement
rounds zero k es = Assertion (first_of es) (PublicInput 0) ∷ []
rounds (suc n) k es = round_lets k es ++ rounds n (k + length es / 2) (paired k es)

-- so many inputs, from number i on
abbrev pub inputs_from : ℕ → ℕ → List Entry
inputs_from i zero = []
inputs_from i (suc n) = Input i ∷ inputs_from (i + 1) n

abbrev pub privates_from : ℕ → ℕ → List Statement
privates_from i zero = []
privates_from i (suc n) = DeclarePrivate (input_name i) ∷ privates_from (i + 1) n

abbrev pub demo_statements : ℕ → List Statement
demo_statements n = DeclarePublic (121 ∷ []) ∷ (privates_from 0 n ++ rounds n 0 (inputs_from 0 n))

-- the source of the demo with n private inputs: n rounds leave one entry
abbrev pub demo_tree : ℕ → SourceTree
demo_tree n = record { field_is = Goldilocks; statements = demo_statements n }

-- ---- its inputs

-- n bits in turn, beginning with b
abbrev pub alternating : Bool → ℕ → List Bool
alternating b zero = []
alternating b (suc n) = b ∷ alternating (not b) n

-- one of two bits, and not both
abbrev pub differ : Bool → Bool → Bool
differ false b = b
differ true b = not b

-- whether an odd number of the bits are one
abbrev pub parity : List Bool → Bool
parity [] = false
parity (b ∷ bs) = differ b (parity bs)

abbrev pub bit_of : {A : Type 0} → Ops A → Bool → A
bit_of o false = o.zero
bit_of o true = o.one

-- private input xi is 1 where i is odd
abbrev pub demo_private : {A : Type 0} → Ops A → ℕ → List A
demo_private o n = map (bit_of o) (alternating true n)

abbrev pub demo_public : {A : Type 0} → Ops A → ℕ → List A
demo_public o n = bit_of o (parity (alternating true n)) ∷ []

-- ---- its layers

-- r is the least number with n at most 2 ^ r: the logarithm to base 2, rounded up
abbrev pub IsLogarithm : ℕ → ℕ → Type 0
IsLogarithm n r = (n ≤ 2 ^ r) × ((k : ℕ) → n ≤ 2 ^ k → r ≤ k)

-- one layer for each round that joins a pair, and one where there is no pair
abbrev pub IsDemoDepth : ℕ → ℕ → Type 0
IsDemoDepth n depth = (r : ℕ) × IsLogarithm n r × (depth ≡ max 1 r)

-- the demo's inputs satisfy every valid circuit of version 1 with the values of the demo's source
abbrev pub InputsSatisfy : {A : Type 0} → Ops A → (A → ℕ) → (ℕ → A) → ℕ → Wiring A → Type 0
InputsSatisfy o number element n c =
    c.version ≡ 1 → IsValid o c → c.publics ≡ 1 → c.privates ≡ n → HasValues o element (demo_statements n) c
    → IsSatisfied o number c.layers (inputs_of o (demo_public o n) (demo_private o n))
