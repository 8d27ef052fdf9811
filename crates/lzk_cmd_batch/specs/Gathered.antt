-- What the steps of a batch answer. No clause of `run` cites these words.
use Rattle.std.specs.Prelude.{◌≡◌, ℕ, ◌+◌, ◌*◌, ◌<◌, ◌≤◌, false, List, [], ◌∷◌, ◌++◌, length, drop, Option, Some, slice_get, Result, Ok, Err, IfSome}
use Rattle.std.specs.List.{AllZip}
use Rattle.lzk_batch.specs.Batch.{IsFit, IsFitFor, IsCircuitOf, place_of}
use Rattle.lzk_batch.specs.declared.job.AnyVerdict.{AnyVerdict}
use Rattle.lzk_batch.specs.declared.job.AnyVerdict.TheVariants as verdicts
use Rattle.lzk_batch.specs.declared.job.Job.{Job}
use Rattle.lzk_batch.specs.declared.job.Job.TheVariants as jobs
use Rattle.lzk_batch.specs.declared.job.JobOf.{JobOf}
use Rattle.lzk_batch.specs.Lists.{Listed}
use Rattle.lzk_circbytes.specs.declared.any.AnyCircuit.{AnyCircuit}
use Rattle.lzk_circbytes.specs.declared.any.AnyCircuit.TheVariants.{Gold, Gf}
use Rattle.lzk_circbytes.specs.Files.{CircuitBytes, id_of_any}
use Rattle.lzk_circuit.specs.Valid.{Wiring}
use Rattle.lzk_field.specs.Coding.{Coding}
use Rattle.lzk_goldilocks.specs.Elements as gold
use Rattle.lzk_gf128.specs.Elements as gf
use Rattle.lzk_outside.specs.Outside.{Files}
use Rattle.lzk_cmd_files.specs.declared.ending.Ending.{Ending}
use Rattle.lzk_cmd_files.specs.declared.ending.Halt.{Halt}
use Rattle.lzk_cmd_files.specs.declared.ending.Halt.TheVariants as halts
use Rattle.lzk_cmd_batch.specs.declared.gathering.Gathered.{Gathered}
use Rattle.lzk_cmd_batch.specs.declared.kept.CircuitFile.{CircuitFile}
use Rattle.lzk_cmd_batch.specs.declared.kept.Circuits.{Circuits}
use Rattle.lzk_cmd_batch.specs.Batched.{JobRead, AnyRead, GoldRead, GfRead, AreTold, among, total_limit, batch_end, JobOver, JobAny, JobsRun}
use Rattle.lzk_cmd_files.specs.Decoded.{circuit_limit, circuit_files, number_files, proof_files}
use Rattle.lzk_cmd_files.specs.Ends.{End as Ended, Stop, says, stops_at}
use Rattle.lzk_cmd_files.specs.Formats.{HasFile, Has}
use Rattle.lzk_cmd_files.specs.Lines.{larger_line}
use Rattle.lzk_cmd_files.specs.Seen.{Seen}
use Rattle.lzk_cmd_verify.specs.Verified.{gold_coding, gf_coding, verdict_end}
use Rattle.lzk_cmd_files.specs.Walks.{IsEnding, Gives, Settled}

-- ---- bytes of files together

-- how many bytes the files have with one more, or the end where they are too many
abbrev pub Counts : ℕ → List ℕ → ℕ → Result ℕ Halt → Type 0
Counts taken name bytes (Ok all) = (all ≡ taken + bytes) × (all ≤ total_limit)
Counts taken name bytes (Err halts.Memory) = Unit {0}
Counts taken name bytes (Err (halts.End e)) =
    (total_limit < taken + bytes) × IsEnding (says 3 (larger_line name total_limit)) e

-- ---- circuits that are kept

-- a circuit with its id, and its file as it was read, where that is told
pub record IsKept (told : Option Files) (file : CircuitFile) (c : AnyCircuit) : Type 0 where
  pub bytes : List ℕ
  pub long : length bytes ≡ file.bytes
  pub few : file.bytes ≤ circuit_limit
  pub file_is : IfSome told (λ files. HasFile (files file.name.now) circuit_limit bytes)
  pub means : CircuitBytes c bytes
  pub id : file.id ≡ id_of_any c

abbrev pub AreKept : Option Files → Circuits → Type 0
AreKept told kept = AllZip (IsKept told) kept.files.items kept.all.items

-- a file of this name stands at the place
abbrev pub IsPlaceOf : List CircuitFile → List ℕ → ℕ → Type 0
IsPlaceOf files name place = (file : CircuitFile) × (slice_get files place ≡ Some file) × (file.name.now ≡ name)

-- the circuits are kept, one more at most than before, and those before stand where they stood
pub record KeepsOn (told : Option Files) (old new : Circuits) : Type 0 where
  pub more : List AnyCircuit
  pub all : new.all.items ≡ old.all.items ++ more
  pub few : length more ≤ 1
  pub kept : AreKept told new

-- the circuit of the file stands at the place
pub record HasCircuit (old new : Seen) (kept : List AnyCircuit) (name : List ℕ) (taken place all : ℕ) : Type 0 where
  pub circuit : AnyCircuit
  pub there : slice_get kept place ≡ Some circuit
  pub gives : Gives {R = AnyCircuit × ℕ} (among taken circuit_files) (λ found. found) old new name (Ok (circuit, all))

-- how many bytes all files have with that of a circuit which was put behind the others; or the end at the file
abbrev pub GivesLast : Seen → Seen → Circuits → Circuits → List ℕ → ℕ → Result ℕ Halt → Type 0
GivesLast old new before kept name taken (Ok all) =
    HasCircuit old new kept.all.items name taken (length before.all.items) all
GivesLast old new before kept name taken (Err halt) =
    Gives {R = AnyCircuit × ℕ} (among taken circuit_files) (λ found. found) old new name (Err halt)

-- such a place, and how many bytes all files have; or the end at the file
abbrev pub GivesPlace : Seen → Seen → List AnyCircuit → List ℕ → ℕ → Result (ℕ × ℕ) Halt → Type 0
GivesPlace old new kept name taken (Ok found) = HasCircuit old new kept name taken found.0 found.1
GivesPlace old new kept name taken (Err halt) =
    Gives {R = AnyCircuit × ℕ} (among taken circuit_files) (λ found. found) old new name (Err halt)

-- ---- a job that is read

-- a job over a circuit, as it was read
abbrev pub read_over : {A : Type 0} → Wiring A → JobOf A → JobRead A
read_over c job = record {
  circuit = c;
  session = job.session.items;
  publics = job.public.items;
  proof = job.proof.items;
}

-- the same over either field
abbrev pub IsReadOf : AnyCircuit → Job → AnyRead → Type 0
IsReadOf (Gold c) (jobs.Gold job) read = read ≡ GoldRead (read_over c job)
IsReadOf (Gf c) (jobs.Gf job) read = read ≡ GfRead (read_over c job)
IsReadOf c job read = ⊥

-- the job is what was read: its circuit stands among those that are kept, and it may be verified for that
pub record IsHeld (kept : List AnyCircuit) (job : Job) (read : AnyRead) : Type 0 where
  pub circuit : AnyCircuit
  pub there : IsCircuitOf kept job circuit
  pub fits : IsFitFor circuit job
  pub is : IsReadOf circuit job read

-- a job's number and proof files have what was read
pub record HasOver {A : Type 0} (e : Coding A) (c : Wiring A) (files : Files) (job : Listed) (taken : ℕ)
    (read : JobRead A) (all : ℕ) : Type 0 where
  pub publics : List A
  pub proof : List ℕ
  pub is : read ≡ record { circuit = c; session = job.session; publics = publics; proof = proof }
  pub between : ℕ
  pub has_publics : Has (among taken (number_files e.size e.number c.publics)) files job.public (publics, between)
  pub has_proof : Has (among between proof_files) files job.proof (proof, all)

abbrev pub HasAny : AnyCircuit → Files → Listed → ℕ → AnyRead → ℕ → Type 0
HasAny (Gold c) files job taken (GoldRead read) all = HasOver gold_coding c files job taken read all
HasAny (Gf c) files job taken (GfRead read) all = HasOver gf_coding c files job taken read all
HasAny c files job taken read all = ⊥

-- and its circuit file
pub record HasJob (files : Files) (job : Listed) (taken : ℕ) (read : AnyRead) (all : ℕ) : Type 0 where
  pub circuit : AnyCircuit
  pub between : ℕ
  pub file : Has (among taken circuit_files) files job.circuit (circuit, between)
  pub rest : HasAny circuit files job between read all

-- the walk behind a job that was read
abbrev pub Behind : List Listed → ℕ → List AnyRead → Files → Stop → Ended → AnyRead → ℕ → Type 0
Behind list k jobs files stop end read taken = JobsRun list (k + 3) taken (jobs ++ read ∷ []) files stop end

-- the walk ends at the job's number or proof file, whatever came before and comes behind
abbrev pub EndsOver : {A : Type 0} → Coding A → Wiring A → Listed → ℕ → Seen → Seen → Ending → Type 0
EndsOver {A} e c job taken old new ending =
    (wrap : JobRead A → AnyRead) (list : List Listed) (k : ℕ) (jobs : List AnyRead)
    → Settled (λ files stop end.
    JobOver e c job k taken files stop end (λ read. Behind list k jobs files stop end (wrap read))) (k + 1) ⊥ ⊥ old
    new ending

abbrev pub EndsAny : AnyCircuit → Listed → ℕ → Seen → Seen → Ending → Type 0
EndsAny c job taken old new ending =
    (list : List Listed) (k : ℕ) (jobs : List AnyRead)
    → Settled (λ files stop end. JobAny c job k taken files stop end (Behind list k jobs files stop end)) (k + 1) ⊥ ⊥
    old new ending

abbrev pub EndsJob : Listed → ℕ → Seen → Seen → Ending → Type 0
EndsJob job taken old new ending =
    (list : List Listed) (k : ℕ) (jobs : List AnyRead)
    → Settled (JobsRun (job ∷ list) k taken jobs) k ⊥ ⊥ old new ending

-- a job over a circuit at a place, and how many bytes all files have with its own
pub record ReadsOver {A : Type 0} (e : Coding A) (c : Wiring A) (told : Option Files) (entry : Listed) (place taken : ℕ)
    (job : JobOf A) (all : ℕ) : Type 0 where
  pub place_is : job.circuit ≡ place
  pub fits : IsFit c job
  pub few : all ≤ total_limit
  pub files_have : IfSome told (λ files. HasOver e c files entry taken (read_over c job) all)

abbrev pub GivesOver : {A : Type 0} → Coding A → Wiring A → Seen → Seen → Listed → ℕ → ℕ → Result (JobOf A × ℕ) Halt
    → Type 0
GivesOver e c old new entry place taken (Ok found) = ReadsOver e c old.files entry place taken found.0 found.1
GivesOver e c old new entry place taken (Err halts.Memory) = Unit {0}
GivesOver e c old new entry place taken (Err (halts.End ending)) = EndsOver e c entry taken old new ending

-- the same over either field
pub record ReadsAny (c : AnyCircuit) (told : Option Files) (entry : Listed) (place taken : ℕ) (job : Job)
    (all : ℕ) : Type 0 where
  pub place_is : place_of job ≡ place
  pub fits : IsFitFor c job
  pub few : all ≤ total_limit
  pub read : AnyRead
  pub is : IsReadOf c job read
  pub files_have : IfSome told (λ files. HasAny c files entry taken read all)

abbrev pub GivesAny : AnyCircuit → Seen → Seen → Listed → ℕ → ℕ → Result (Job × ℕ) Halt → Type 0
GivesAny c old new entry place taken (Ok found) = ReadsAny c old.files entry place taken found.0 found.1
GivesAny c old new entry place taken (Err halts.Memory) = Unit {0}
GivesAny c old new entry place taken (Err (halts.End ending)) = EndsAny c entry taken old new ending

-- and with its circuit's file
pub record ReadsJob (told : Option Files) (kept : List AnyCircuit) (entry : Listed) (taken : ℕ) (job : Job)
    (all : ℕ) : Type 0 where
  pub read : AnyRead
  pub held : IsHeld kept job read
  pub few : all ≤ total_limit
  pub files_have : IfSome told (λ files. HasJob files entry taken read all)

abbrev pub GivesJob : Seen → Seen → List AnyCircuit → Listed → ℕ → Result (Job × ℕ) Halt → Type 0
GivesJob old new kept entry taken (Ok found) = ReadsJob old.files kept entry taken found.0 found.1
GivesJob old new kept entry taken (Err halts.Memory) = Unit {0}
GivesJob old new kept entry taken (Err (halts.End ending)) = EndsJob entry taken old new ending

-- ---- all jobs

-- the session of a job of a list is short
abbrev pub IsShort : Listed → Type 0
IsShort entry = length entry.session ≤ 64

-- a walk that comes behind the first i jobs comes from the first one
abbrev pub LeadsTo : Files → List Listed → ℕ → ℕ → List AnyRead → Type 0
LeadsTo files entries i taken reads =
    (stop : Stop) (end : Ended) → ((j : ℕ) → j < 1 + 3 * i → stops_at stop j ≡ false)
    → JobsRun (drop i entries) (1 + 3 * i) taken reads files stop end
    → JobsRun entries 1 0 [] files stop end

-- the first i jobs were read
pub record HasRead (told : Option Files) (entries : List Listed) (i taken : ℕ) (kept : List AnyCircuit)
    (list : List Job) : Type 0 where
  pub reads : List AnyRead
  pub held : AllZip (IsHeld kept) list reads
  pub leads : IfSome told (λ files. LeadsTo files entries i taken reads)

-- all were
pub record HasReadAll (told : Option Files) (entries : List Listed) (g : Gathered) : Type 0 where
  pub few : length g.jobs.items ≤ 256
  pub taken : ℕ
  pub all : HasRead told entries (length entries) taken g.circuits.items g.jobs.items

abbrev pub GivesJobs : Seen → Seen → List Listed → Result Gathered Halt → Type 0
GivesJobs old new entries (Ok g) = HasReadAll old.files entries g
GivesJobs old new entries (Err halts.Memory) = Unit {0}
GivesJobs old new entries (Err (halts.End ending)) = Settled (JobsRun entries 1 0 []) 1 ⊥ ⊥ old new ending

-- each job is what was read for it
abbrev pub AreHeld : Gathered → Type 0
AreHeld g = (reads : List AnyRead) × AllZip (IsHeld g.circuits.items) g.jobs.items reads

-- the end tells how `verify` ends on each of the jobs
abbrev pub TellsJobs : Gathered → Ending → Type 0
TellsJobs g ending =
    (reads : List AnyRead) → AllZip (IsHeld g.circuits.items) g.jobs.items reads
    → (ends : List Ended) × AreTold reads ends × IsEnding (batch_end ends) ending

-- how `verify` ends with a verdict over either field
abbrev pub any_end : AnyVerdict → Ended
any_end (verdicts.Gold v) = verdict_end gold.number v
any_end (verdicts.Gf v) = verdict_end gf.number v
