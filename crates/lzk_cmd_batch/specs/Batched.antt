-- How a run ends that verifies a batch.
use Rattle.std.specs.Prelude.{◌≡◌, ℕ, ◌+◌, ◌<◌, ◌≤◌, ◌==◌, not, cond, List, [], ◌∷◌, ◌++◌, length, codes, count_by}
use Rattle.std.specs.Fmt.{decimal}
use Rattle.lzk_batch.specs.declared.list_fault.ListFault.{ListFault}
use Rattle.lzk_batch.specs.declared.list_fault.ListKind.{ListKind}
use Rattle.lzk_batch.specs.declared.list_fault.ListKind.TheVariants as kinds
use Rattle.lzk_batch.specs.Lists.{Listed, ListText, IsListFault}
use Rattle.lzk_circbytes.specs.declared.any.AnyCircuit.{AnyCircuit}
use Rattle.lzk_circbytes.specs.declared.any.AnyCircuit.TheVariants.{Gold, Gf}
use Rattle.lzk_circuit.specs.Valid.{Wiring}
use Rattle.lzk_field.specs.Coding.{Coding}
use Rattle.lzk_goldilocks.specs.declared.element.Gold.{Gold as GoldElement}
use Rattle.lzk_gf128.specs.declared.element.Gf128.{Gf128}
use Rattle.lzk_goldilocks.specs.Elements as gold
use Rattle.lzk_gf128.specs.Elements as gf
use Rattle.lzk_outside.specs.Outside.{Files}
use Rattle.lzk_cmd_files.specs.Decoded.{circuit_files, number_files, proof_files}
use Rattle.lzk_cmd_files.specs.Ends.{End, says, Stop}
use Rattle.lzk_cmd_files.specs.Formats.{Format, At}
use Rattle.lzk_cmd_files.specs.Lines.{line, text_line, larger_line}
use Rattle.lzk_cmd_verify.specs.Verified.{Judged, gold_coding, gf_coding}

-- ---- the list, and the files of its jobs

abbrev pub list_limit : ℕ
list_limit = 65536

-- how many bytes the files of all jobs may have together
abbrev pub total_limit : ℕ
total_limit = 134217728

abbrev pub list_kind_name : ListKind → List ℕ
list_kind_name kinds.Syntax = codes "Syntax"
list_kind_name kinds.Limit = codes "Limit"

-- lists of jobs
abbrev pub list_files : Format (List Listed) ListFault
list_files = record {
  limit = list_limit;
  means = ListText;
  breaks = IsListFault;
  refused = λ name fault. says 3 (text_line name fault.line (list_kind_name fault.kind));
}

-- why a file is refused behind others: they have too many bytes together, or by its own contents
pub data Among (F : Type 0) : Type 0 where
  TooMany : Among F
  Own : F → Among F

abbrev pub BreaksAmong : {X F : Type 0} → ℕ → Format X F → List ℕ → Among F → Type 0
BreaksAmong taken format bytes TooMany = total_limit < taken + length bytes
BreaksAmong taken format bytes (Own fault) = (taken + length bytes ≤ total_limit) × format.breaks bytes fault

abbrev pub refused_among : {X F : Type 0} → Format X F → List ℕ → Among F → End
refused_among format name TooMany = says 3 (larger_line name total_limit)
refused_among format name (Own fault) = format.refused name fault

-- Files of a format, behind others that have so many bytes: what one means, and how many bytes they all have with it.
-- Its own limit is tested first, then that of all, and its contents after.
abbrev pub among : {X F : Type 0} → ℕ → Format X F → Format (X × ℕ) (Among F)
among {X} {F} taken format = record {
  limit = format.limit;
  means = λ bytes found. format.means bytes found.0 × (found.1 ≡ taken + length bytes) × (found.1 ≤ total_limit);
  breaks = BreaksAmong taken format;
  refused = refused_among format;
}

-- ---- a job, and what is told of it

-- a job that was read: its circuit, session and public inputs, and the bytes of its proof
pub record JobRead (A : Type 0) : Type 0 where
  pub circuit : Wiring A
  pub session : List ℕ
  pub publics : List A
  pub proof : List ℕ

-- over one of the two fields
pub data AnyRead : Type 0 where
  GoldRead : JobRead GoldElement → AnyRead
  GfRead : JobRead Gf128 → AnyRead

-- how `verify` ends on a job
abbrev pub IsTold : AnyRead → End → Type 0
IsTold (GoldRead job) end = Judged gold.ops gold_coding job.circuit job.session job.publics job.proof end
IsTold (GfRead job) end = Judged gf.ops gf_coding job.circuit job.session job.publics job.proof end

-- the same on each job, in the order of the list
abbrev pub AreTold : List AnyRead → List End → Type 0
AreTold [] [] = Unit {0}
AreTold (job ∷ jobs) (end ∷ ends) = IsTold job end × AreTold jobs ends
AreTold jobs ends = ⊥

-- job k, and the line that `verify` prints
abbrev pub job_line : ℕ → List ℕ → List ℕ
job_line k text = decimal k ++ (codes ": " ++ text)

-- how many jobs were accepted, and how many rejected
abbrev pub batch_line : ℕ → ℕ → List ℕ
batch_line accepted rejected =
    codes "batch: " ++ (decimal accepted ++ (codes " accepted, " ++ (decimal rejected ++ line (codes " rejected"))))

-- the jobs' lines, from job k on
abbrev pub job_lines : ℕ → List End → List ℕ
job_lines k [] = []
job_lines k (end ∷ ends) = job_line k end.text ++ job_lines (k + 1) ends

abbrev pub accepted_of : List End → ℕ
accepted_of ends = count_by (λ end. end.status == 0) ends

abbrev pub rejected_of : List End → ℕ
rejected_of ends = count_by (λ end. not (end.status == 0)) ends

-- the end that tells of all jobs: it is done where none was rejected
abbrev pub batch_end : List End → End
batch_end ends =
    says (cond (rejected_of ends == 0) 0 1) (job_lines 1 ends ++ batch_line (accepted_of ends) (rejected_of ends))

-- ---- the walk

-- over a job's number and proof files, of which the first is the one behind the k-th
abbrev pub JobOver : {A : Type 0} → Coding A → Wiring A → Listed → ℕ → ℕ → Files → Stop → End → (JobRead A → ℕ → Type 0)
    → Type 0
JobOver e c job k taken files stop end next =
    At (among taken (number_files e.size e.number c.publics)) files stop (k + 1) job.public end (λ publics.
    At (among publics.1 proof_files) files stop (k + 2) job.proof end (λ proof.
    next (record { circuit = c; session = job.session; publics = publics.0; proof = proof.0 }) proof.1))

abbrev pub JobAny : AnyCircuit → Listed → ℕ → ℕ → Files → Stop → End → (AnyRead → ℕ → Type 0) → Type 0
JobAny (Gold c) job k taken files stop end next =
    JobOver gold_coding c job k taken files stop end (λ read. next (GoldRead read))
JobAny (Gf c) job k taken files stop end next =
    JobOver gf_coding c job k taken files stop end (λ read. next (GfRead read))

-- Over the files of these jobs, from the k-th file on, where those before have so many bytes and these jobs were read:
-- the files of each job in order, and then it tells how `verify` ends on each.
abbrev pub JobsRun : List Listed → ℕ → ℕ → List AnyRead → Files → Stop → End → Type 0
JobsRun [] k taken jobs files stop end = (ends : List End) × AreTold jobs ends × (end ≡ batch_end ends)
JobsRun (job ∷ list) k taken jobs files stop end =
    At (among taken circuit_files) files stop k job.circuit end (λ circuit.
    JobAny circuit.0 job k circuit.1 files stop end
    (λ read taken. JobsRun list (k + 3) taken (jobs ++ read ∷ []) files stop end))

unfoldable pub BatchRun : List ℕ → Files → Stop → End → Type 0
BatchRun list files stop end = At list_files files stop 0 list end (λ entries. JobsRun entries 1 0 [] files stop end)
