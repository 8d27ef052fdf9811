-- What a report says of a proof that is whole, in pieces, or one of many over one circuit.
use Rattle.std.specs.Prelude.{◌≡◌, ℕ, List, Result, Err}
use Rattle.std.specs.List.{flat_map}
use Rattle.lzk_circbytes.specs.declared.any.AnyCircuit.{AnyCircuit}
use Rattle.lzk_circuit.specs.Valid.{Wiring}
use Rattle.lzk_field.specs.Coding.{Coding}
use Rattle.lzk_field.specs.Ring.{Ops}
use Rattle.lzk_verify.specs.declared.verdict.Verdict.{Verdict}
use Rattle.lzk_calls.specs.declared.refusal.Refusal.{Refusal}
use Rattle.lzk_calls.specs.declared.report.Report.{Report}
use Rattle.lzk_calls.specs.declared.pieces.Piece.{Piece}
use Rattle.lzk_calls.specs.declared.jobs.Job.{Job}
use Rattle.lzk_calls.specs.Reports.{report_of}
use Rattle.lzk_calls.specs.Verified.{Says, SaysOf, SaysOver}

-- the report has what is told
abbrev pub Explains : List ℕ → List ℕ → List ℕ → List ℕ → Report → Type 0
Explains circuit public session proof report =
    (told : Result (Verdict ℕ) Refusal) × Says circuit public session proof told × (report ≡ report_of told)

-- the number is that of such a report
abbrev pub Answers : List ℕ → List ℕ → List ℕ → List ℕ → ℕ → Type 0
Answers circuit public session proof n =
    (report : Report) × Explains circuit public session proof report × (n ≡ report.answer)

-- the bytes of all pieces, one after another
abbrev pub joined : List Piece → List ℕ
joined pieces = flat_map (λ piece. piece.bytes.now) pieces

-- the report has what is told of a proof in pieces
abbrev pub ExplainsPieces : List ℕ → List ℕ → List ℕ → List Piece → Report → Type 0
ExplainsPieces circuit public session pieces = Explains circuit public session (joined pieces)

-- ---- many proofs over one circuit

-- a job is as it was, and its report has what such a relation tells of its text, its session and its proof
pub record IsExplainedBy (Tells : List ℕ → List ℕ → List ℕ → Result (Verdict ℕ) Refusal → Type 0)
    (old new : Job) : Type 0 where
  pub same : new ≡ record old { report = new.report }
  pub found : (told : Result (Verdict ℕ) Refusal)
      × Tells old.public.now old.session.now old.proof.now told
      × (new.report ≡ report_of told)

abbrev pub IsExplainedOver : {A : Type 0} → Ops A → Coding A → Wiring A → Job → Job → Type 0
IsExplainedOver o e c = IsExplainedBy (SaysOver o e c)

abbrev pub IsExplainedOf : AnyCircuit → Job → Job → Type 0
IsExplainedOf c = IsExplainedBy (SaysOf c)

abbrev pub IsExplained : List ℕ → Job → Job → Type 0
IsExplained circuit = IsExplainedBy (Says circuit)

-- a job is as it was, and its report is that of a refusal
abbrev pub IsRefused : Refusal → Job → Job → Type 0
IsRefused refusal = IsExplainedBy (λ public session proof told. told ≡ Err refusal)
