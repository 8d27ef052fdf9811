-- What a program is told of a proof.
use Rattle.std.specs.Prelude.{◌≡◌, ◌⊎◌, ℕ, List, map, Result, Ok, Err}
use Rattle.lzk_circbytes.specs.Files.{CircuitBytes}
use Rattle.lzk_circbytes.specs.declared.any.AnyCircuit.{AnyCircuit}
use Rattle.lzk_circbytes.specs.declared.any.AnyCircuit.TheVariants.{Gold, Gf}
use Rattle.lzk_circuit.specs.Valid.{Wiring}
use Rattle.lzk_expr.specs.Numbers.{NumberText}
use Rattle.lzk_field.specs.Coding.{Coding}
use Rattle.lzk_field.specs.Ring.{Ops}
use Rattle.lzk_goldilocks.specs.Elements as gold
use Rattle.lzk_gf128.specs.Elements as gf
use Rattle.lzk_verify.specs.declared.verdict.Verdict.{Verdict}
use Rattle.lzk_verify.specs.declared.verdict.Verdict.TheVariants.{Accepted, Format, CircuitId, PathCount, Root, LowDegree, LinearSum, Linear, Quadratic}
use Rattle.lzk_verify.specs.Verdict.{IsVerdict}
use Rattle.lzk_calls.specs.declared.refusal.Refusal.{Refusal}
use Rattle.lzk_calls.specs.Inputs.{AreBothShort, LacksPublics, IsUnread, gold_coding, gf_coding}

-- a verdict with numbers in the place of elements
abbrev pub numbered : {A : Type 0} → (A → ℕ) → Verdict A → Verdict ℕ
numbered number Accepted = Accepted
numbered number (Format fault) = Format fault
numbered number (CircuitId found) = CircuitId found
numbered number (PathCount found needed) = PathCount found needed
numbered number (Root found) = Root found
numbered number (LowDegree column) = LowDegree column
numbered number (LinearSum found wanted) = LinearSum (number found) (number wanted)
numbered number (Linear column) = Linear column
numbered number (Quadratic column) = Quadratic column

-- the text has the circuit's public numbers, and this is the verdict on the proof for them
abbrev pub Judges : {A : Type 0} → Ops A → Coding A → Wiring A → List ℕ → List ℕ → List ℕ → Verdict ℕ → Type 0
Judges {A} o e c public session proof found =
    (publics : List A)
    × NumberText e.size c.publics public (map e.number publics)
    × ((verdict : Verdict A) × IsVerdict o e c session publics proof verdict × (found ≡ numbered e.number verdict))

-- what is told of a proof over a circuit over a field
abbrev pub SaysOver : {A : Type 0} → Ops A → Coding A → Wiring A → List ℕ → List ℕ → List ℕ → Result (Verdict ℕ) Refusal
    → Type 0
SaysOver o e c public session proof (Ok found) = AreBothShort session public × Judges o e c public session proof found
SaysOver o e c public session proof (Err refusal) = LacksPublics e c session public refusal

abbrev pub SaysOf : AnyCircuit → List ℕ → List ℕ → List ℕ → Result (Verdict ℕ) Refusal → Type 0
SaysOf (Gold c) = SaysOver gold.ops gold_coding c
SaysOf (Gf c) = SaysOver gf.ops gf_coding c

-- what is told of the bytes of a circuit's file, of a text of public numbers, of a session and of a proof
abbrev pub Says : List ℕ → List ℕ → List ℕ → List ℕ → Result (Verdict ℕ) Refusal → Type 0
Says circuit public session proof told =
    ((refusal : Refusal) × (told ≡ Err refusal) × IsUnread circuit refusal)
    ⊎ ((c : AnyCircuit) × CircuitBytes c circuit × SaysOf c public session proof told)
