-- How a run ends that verifies a proof.
use Rattle.std.specs.Prelude.{◌≡◌, ◌^◌, ℕ, List, codes, Option}
use Rattle.lzk_circbytes.specs.declared.any.AnyCircuit.{AnyCircuit}
use Rattle.lzk_circbytes.specs.declared.any.AnyCircuit.TheVariants.{Gold, Gf}
use Rattle.lzk_circuit.specs.Valid.{Wiring}
use Rattle.lzk_field.specs.Coding.{Coding, coding}
use Rattle.lzk_field.specs.Ring.{Ops}
use Rattle.lzk_goldilocks.specs.declared.element.Gold.{Gold as GoldElement}
use Rattle.lzk_gf128.specs.declared.element.Gf128.{Gf128}
use Rattle.lzk_goldilocks.specs.Prime.{p, element_bytes, field_byte}
use Rattle.lzk_goldilocks.specs.Elements as gold
use Rattle.lzk_gf128.specs.Elements as gf
use Rattle.lzk_outside.specs.Outside.{Files}
use Rattle.lzk_verify.specs.declared.verdict.Verdict.{Verdict}
use Rattle.lzk_verify.specs.declared.verdict.Verdict.TheVariants.{Accepted, Format, CircuitId, PathCount, Root, LowDegree, LinearSum, Linear, Quadratic}
use Rattle.lzk_verify.specs.Verdict.{IsVerdict}
use Rattle.lzk_cmd_files.specs.Decoded.{circuit_files, number_files, proof_files}
use Rattle.lzk_cmd_files.specs.Ends.{End, says, Stop}
use Rattle.lzk_cmd_files.specs.Formats.{At}
use Rattle.lzk_cmd_files.specs.Lines.{proof_kind_name, accepted_line, format_line, digest_line, path_count_line, linear_sum_line, column_line}
use Rattle.lzk_cmd_words.specs.Digits.{session_of}

-- 0 where the proof is accepted, and 1 where it is rejected
abbrev pub verdict_status : {A : Type 0} → Verdict A → ℕ
verdict_status Accepted = 0
verdict_status verdict = 1

abbrev pub verdict_line : {A : Type 0} → (A → ℕ) → Verdict A → List ℕ
verdict_line number Accepted = accepted_line
verdict_line number (Format fault) = format_line fault.offset (proof_kind_name fault.kind)
verdict_line number (CircuitId found) = digest_line (codes "circuit id") found
verdict_line number (PathCount found needed) = path_count_line found needed
verdict_line number (Root found) = digest_line (codes "root") found
verdict_line number (LowDegree column) = column_line (codes "low degree") column
verdict_line number (LinearSum found wanted) = linear_sum_line (number found) (number wanted)
verdict_line number (Linear column) = column_line (codes "linear") column
verdict_line number (Quadratic column) = column_line (codes "quadratic") column

abbrev pub verdict_end : {A : Type 0} → (A → ℕ) → Verdict A → End
verdict_end number verdict = says (verdict_status verdict) (verdict_line number verdict)

-- the end tells the verdict on these bytes
abbrev pub Judged : {A : Type 0} → Ops A → Coding A → Wiring A → List ℕ → List A → List ℕ → End → Type 0
Judged {A} o e c session publics bytes end =
    (verdict : Verdict A) × IsVerdict o e c session publics bytes verdict × (end ≡ verdict_end e.number verdict)

-- a proof over a circuit over a field, for a session and the public inputs of a number file
unfoldable pub VerifyOver : {A : Type 0} → Ops A → Coding A → Wiring A → List ℕ → List ℕ → List ℕ → Files → Stop → End
    → Type 0
VerifyOver o e c public proof session files stop end =
    At (number_files e.size e.number c.publics) files stop 1 public end (λ publics.
    At proof_files files stop 2 proof end (λ bytes.
    Judged o e c session publics bytes end))

-- how the elements of the two fields are numbered and written
abbrev pub gold_coding : Coding GoldElement
gold_coding = coding gold.of_number gold.number element_bytes p field_byte

abbrev pub gf_coding : Coding Gf128
gf_coding = coding gf.of_number gf.number 16 (2 ^ 128) 2

abbrev pub VerifyAny : AnyCircuit → List ℕ → List ℕ → List ℕ → Files → Stop → End → Type 0
VerifyAny (Gold c) = VerifyOver gold.ops gold_coding c
VerifyAny (Gf c) = VerifyOver gf.ops gf_coding c

unfoldable pub VerifyRun : List ℕ → List ℕ → List ℕ → Option (List ℕ) → Files → Stop → End → Type 0
VerifyRun circuit public proof session files stop end =
    At circuit_files files stop 0 circuit end (λ c. VerifyAny c public proof (session_of session) files stop end)
