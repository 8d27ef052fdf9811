-- What a batch answers.
use Rattle.std.specs.Prelude.{◌≡◌, ◌≤◌, ◌^◌, ◌++◌, ℕ, nat_lt, nat_le, List, [], ◌∷◌, length, map, filter, drop, count_by, Any, Contains, flat_map, Vec, slice_get, Some}
use Rattle.std.specs.Global.{Global}
use Rattle.std.specs.List.{AllZip}
use Rattle.lzk_circuit.specs.Valid.{Wiring}
use Rattle.lzk_circbytes.specs.declared.any.AnyCircuit.{AnyCircuit}
use Rattle.lzk_circbytes.specs.declared.any.AnyCircuit.TheVariants as circuits
use Rattle.lzk_field.specs.Coding.{Coding, coding}
use Rattle.lzk_goldilocks.specs.declared.element.Gold.{Gold}
use Rattle.lzk_gf128.specs.declared.element.Gf128.{Gf128}
use Rattle.lzk_goldilocks.specs.Prime.{p, element_bytes, field_byte}
use Rattle.lzk_goldilocks.specs.Elements as gold
use Rattle.lzk_gf128.specs.Elements as gf
use Rattle.lzk_verify.specs.Verdict.{IsVerdict}
use Rattle.lzk_batch.specs.declared.job.JobOf.{JobOf}
use Rattle.lzk_batch.specs.declared.job.Job.{Job}
use Rattle.lzk_batch.specs.declared.job.Job.TheVariants as jobs
use Rattle.lzk_batch.specs.declared.job.AnyVerdict.{AnyVerdict}
use Rattle.lzk_batch.specs.declared.job.AnyVerdict.TheVariants as verdicts
use Rattle.lzk_batch.specs.declared.job.Judged.{Judged}
use Rattle.lzk_batch.specs.Passes.{PassState}

-- ---- a job and its circuit

-- how the elements of the two fields are numbered and written
abbrev pub gold_coding : Coding Gold
gold_coding = coding gold.of_number gold.number element_bytes p field_byte

abbrev pub gf_coding : Coding Gf128
gf_coding = coding gf.of_number gf.number 16 (2 ^ 128) 2

-- a job may be verified for a circuit: its session is short enough, and it has as many public inputs as the circuit
pub record IsFit {A : Type 0} (circuit : Wiring A) (job : JobOf A) : Type 0 where
  pub session : length job.session.items ≤ 64
  pub public : length job.public.items ≡ circuit.publics

-- the same, where both are over one field
abbrev pub IsFitFor : AnyCircuit → Job → Type 0
IsFitFor (circuits.Gold circuit) (jobs.Gold job) = IsFit circuit job
IsFitFor (circuits.Gf circuit) (jobs.Gf job) = IsFit circuit job
IsFitFor circuit job = ⊥

-- the place of a job's circuit among those of the batch
abbrev pub place_of : Job → ℕ
place_of (jobs.Gold job) = job.circuit
place_of (jobs.Gf job) = job.circuit

-- the circuit stands where the job says
abbrev pub IsCircuitOf : List AnyCircuit → Job → AnyCircuit → Type 0
IsCircuitOf batch job circuit = slice_get batch (place_of job) ≡ Some circuit

-- the job may be verified: a circuit stands where it says, and it is fit for that
pub record IsJobFit (batch : List AnyCircuit) (job : Job) : Type 0 where
  pub circuit : AnyCircuit
  pub there : IsCircuitOf batch job circuit
  pub fits : IsFitFor circuit job

-- ---- a job and its verdict

-- the verdict on a job's proof, for a circuit
abbrev pub IsJobVerdict : AnyCircuit → Job → AnyVerdict → Type 0
IsJobVerdict (circuits.Gold c) (jobs.Gold job) (verdicts.Gold v) =
    IsVerdict gold.ops gold_coding c job.session.items job.public.items job.proof.items v
IsJobVerdict (circuits.Gf c) (jobs.Gf job) (verdicts.Gf v) =
    IsVerdict gf.ops gf_coding c job.session.items job.public.items job.proof.items v
IsJobVerdict c job v = ⊥

-- this verdict alone is that on a job's proof
abbrev pub IsOnlyJobVerdict : AnyCircuit → Job → AnyVerdict → Type 0
IsOnlyJobVerdict circuit job v = (w : AnyVerdict) → IsJobVerdict circuit job w → w ≡ v

-- the verdict is that on the job's proof, for the circuit that stands where the job says, and no other is
pub record HasVerdict (batch : List AnyCircuit) (job : Job) (v : AnyVerdict) : Type 0 where
  pub circuit : AnyCircuit
  pub there : IsCircuitOf batch job circuit
  pub verdict : IsJobVerdict circuit job v
  pub one : IsOnlyJobVerdict circuit job v

-- the number is that of a job of the list, and the verdict that on its proof
pub record IsJudged (batch : List AnyCircuit) (list : List Job) (judged : Judged) : Type 0 where
  pub job : Job
  pub there : slice_get list judged.job ≡ Some job
  pub verdict : HasVerdict batch job judged.verdict

-- each job has its verdict, in the order of the jobs
abbrev pub HaveVerdicts : List AnyCircuit → List Job → List AnyVerdict → Type 0
HaveVerdicts batch list verdicts = AllZip (HasVerdict batch) list verdicts

-- ---- passes that are lent

-- the numbers of the jobs that were judged
abbrev pub numbers_of : List Judged → List ℕ
numbers_of list = map (λ judged. judged.job) list

-- the pass has drawn these numbers more, and nothing else of it has changed
pub record HasDrawnMore (old new : PassState) (numbers : List ℕ) : Type 0 where
  pub table : new.table ≡ old.table
  pub spare : new.spare ≡ old.spare
  pub drawn : new.drawn ≡ old.drawn ++ numbers

-- the pass may have drawn more numbers, and nothing else of it has changed
abbrev pub DrawsOn : PassState → PassState → Type 0
DrawsOn old new = (numbers : List ℕ) × HasDrawnMore old new numbers

-- what a pass has drawn since it was old
abbrev pub drawn_since : PassState → PassState → List ℕ
drawn_since old new = drop (length old.drawn) new.drawn

-- the jobs that were judged are those whose numbers the pass has drawn, in this order
abbrev pub AreJobsDrawn : ℕ → PassState → PassState → List Judged → Type 0
AreJobsDrawn jobs old new list = numbers_of list ≡ filter (λ n. nat_lt n jobs) (drawn_since old new)

-- the same of a pass that was lent with nothing drawn
abbrev pub AreAllJobsDrawn : ℕ → PassState → List Judged → Type 0
AreAllJobsDrawn jobs pass list = numbers_of list ≡ filter (λ n. nat_lt n jobs) pass.drawn

-- one of the numbers that a pass has drawn is no job's
abbrev pub HasDrawnOneLate : ℕ → PassState → Type 0
HasDrawnOneLate jobs pass = count_by (λ n. nat_le jobs n) pass.drawn ≡ 1

-- the three lists are as long, and this holds of the three that stand at each place
abbrev pub AllZip₃ : {A B C : Type 0} → (A → B → C → Type 0) → List A → List B → List C → Type 0
AllZip₃ P [] [] [] = Unit {0}
AllZip₃ P (x ∷ xs) (y ∷ ys) (z ∷ zs) = P x y z × AllZip₃ P xs ys zs
AllZip₃ P xs ys zs = ⊥

-- ---- the lists of several passes

-- the numbers in all of them
abbrev pub numbers_in : List (Vec Judged Global) → List ℕ
numbers_in lists = flat_map (λ list. numbers_of list.items) lists

abbrev pub judged_as : ℕ → AnyVerdict → Judged
judged_as job verdict = record { job = job; verdict = verdict }

-- one of them has this verdict on the job with the number
abbrev pub HasVerdictIn : List (Vec Judged Global) → ℕ → AnyVerdict → Type 0
HasVerdictIn lists job v = Any (λ list. Contains list.items (judged_as job v)) lists
