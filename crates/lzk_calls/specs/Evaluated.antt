-- What a program is told that evaluates.
use Rattle.std.specs.Prelude.{◌≡◌, ◌⊎◌, ℕ, List, [], Option, Some, None, Result, Ok, Err}
use Rattle.lzk_circbytes.specs.Files.{CircuitBytes}
use Rattle.lzk_circbytes.specs.declared.any.AnyCircuit.{AnyCircuit}
use Rattle.lzk_circbytes.specs.declared.any.AnyCircuit.TheVariants.{Gold, Gf}
use Rattle.lzk_circuit.specs.Checks.{checks_of}
use Rattle.lzk_circuit.specs.Valid.{Wiring}
use Rattle.lzk_circuit.specs.Wires.{inputs_of, IsFirstNonzero}
use Rattle.lzk_field.specs.Coding.{Coding}
use Rattle.lzk_field.specs.Ring.{Ops}
use Rattle.lzk_goldilocks.specs.Elements as gold
use Rattle.lzk_gf128.specs.Elements as gf
use Rattle.lzk_calls.specs.declared.refusal.Refusal.{Refusal}
use Rattle.lzk_calls.specs.declared.refusal.Refusal.TheVariants.{Unsatisfied}
use Rattle.lzk_calls.specs.Inputs.{AreInputs, LacksInputs, IsUnread, gold_coding, gf_coding}

-- nothing where all checks are 0, and otherwise the first that is not, with its value
abbrev pub told_first : {A : Type 0} → (A → ℕ) → Option (ℕ × A) → Result ℕ Refusal
told_first number None = Ok 0
told_first number (Some (check, value)) = Err (Unsatisfied check (number value))

-- what is told of inputs
abbrev pub Checks : {A : Type 0} → Ops A → Coding A → Wiring A → List A → List A → Result ℕ Refusal → Type 0
Checks {A} o e c publics privates told =
    (first : Option (ℕ × A)) × IsFirstNonzero o (checks_of o e.number c.layers (inputs_of o publics privates)) first
    × (told ≡ told_first e.number first)

-- what is told of two texts, for a circuit over a field
abbrev pub EvaluatesOver : {A : Type 0} → Ops A → Coding A → Wiring A → List ℕ → List ℕ → Result ℕ Refusal → Type 0
EvaluatesOver {A} o e c public private told =
    ((refusal : Refusal) × (told ≡ Err refusal) × LacksInputs e c [] public private refusal)
    ⊎ ((publics : List A) × (privates : List A)
    × AreInputs e c [] public private publics privates × Checks o e c publics privates told)

abbrev pub EvaluatesOf : AnyCircuit → List ℕ → List ℕ → Result ℕ Refusal → Type 0
EvaluatesOf (Gold c) = EvaluatesOver gold.ops gold_coding c
EvaluatesOf (Gf c) = EvaluatesOver gf.ops gf_coding c

-- what is told of a circuit's file and two texts
abbrev pub Evaluates : List ℕ → List ℕ → List ℕ → Result ℕ Refusal → Type 0
Evaluates circuit public private told =
    ((refusal : Refusal) × (told ≡ Err refusal) × IsUnread circuit refusal)
    ⊎ ((c : AnyCircuit) × CircuitBytes c circuit × EvaluatesOf c public private told)
