-- The ends of a holder's run.
use Rattle.std.proofs.Common.{◌≡◌, ℕ, Bool, true, false, List, [], length, Result, Ok, Err, inl, inr, refl, ◌∙◌, arith}
use Rattle.std.specs.Result.{IsErrAnd}
use Rattle.lzk_cmd_files.specs.declared.ending.Ending.{Ending}
use Rattle.lzk_cmd_files.specs.declared.ending.Halt.{Halt}
use Rattle.lzk_cmd_files.specs.declared.ending.Halt.TheVariants as halts
use Rattle.lzk_cmd_files.specs.Seen.{Seen}
use Rattle.lzk_cmd_files.specs.Walks.{OnlyReads}
use Rattle.lzk_cmd_files.proofs.Steps.{handed_on}
use Rattle.lzk_policy.specs.Policies.{Contents}
use Rattle.lzk_policy_inputs.specs.declared.value.Value.{Value}
use Rattle.lzk_policy_inputs.specs.Both.{Inputs}
use Rattle.lzk_credential_run.specs.Proofs.{AreProvable}
use Rattle.lzk_credential_run.specs.Ends.{Settles}
use Rattle.lzk_credential_run.specs.Files.{kind_files, path_files, record_files}
use Rattle.lzk_policy_texts.specs.Seals.{is_sealed}
use Rattle.lzk_credential_run.specs.Given.{MakesInputs, value_files}
use Rattle.lzk_policy_texts.specs.Inputs.{IsInputs}
use Rattle.lzk_credential_run.specs.Holding.{HoldingRun, Keeps, Prove, Purpose, Put, Serves, ShowsBeside, ShowsBoth, ShowsOther, ShowsPath, ShowsPlaced, ShowsRecord, ShowsSecret, ShowsValues, by_beside}
use Rattle.lzk_credential_run.specs.Orders.{Beside, Holding, Nothing, One, Two, file_count}
use Rattle.lzk_policy_texts.specs.Paths.{Placed, alone, with_secret}
use Rattle.lzk_credential_run.proofs.InputEnds.{none_small, one_later, puts_inputs_later, puts_inputs_small, values_small}
use Rattle.lzk_credential_run.proofs.ProveEnds.{draws_proof_later, draws_proof_small}
use Rattle.lzk_credential_run.proofs.Steps.{IsLate, IsSmall, nothing_later, reads_later, reads_small}

-- ---- since an earlier sight

serves_later : (purpose : Purpose) (p : Contents) (i : Inputs) → IsLate (Serves purpose p i)
serves_later (Put public private) p i = puts_inputs_later public private i
serves_later (Prove order) p i = draws_proof_later order p i

pub keeps_later : (purpose : Purpose) (old mid new : Seen) → OnlyReads old mid → Keeps purpose mid new → Keeps purpose old new
keeps_later (Put public private) old mid new first h = one_later public old mid new first h
keeps_later (Prove order) old mid new first h = nothing_later old mid new first h

-- want of memory behind reads alone
pub keeps_all : (purpose : Purpose) (old new : Seen) → new.files ≡ old.files → Keeps purpose old new
keeps_all (Put public private) old new same = inl same
keeps_all (Prove order) old new same = same

module _ (path : List ℕ) (x : Placed) (purpose : Purpose) where
  pub values_later : (p : Contents) (m : List ℕ) (vs : List Value) → IsLate (ShowsValues path x purpose p m vs)
  values_later p m vs old mid new e first (inl (cause, refused, refusal, same)) = inl (cause, refused, refusal, same ∙ first.files)
  values_later p m vs old mid new e first (inr (i, is, more)) = inr (i, is, serves_later purpose p i old mid new e first more)

  pub record_later : (values : List ℕ) (p : Contents) (m : List ℕ) → IsLate (ShowsRecord values path x purpose p m)
  record_later values p m = reads_later (value_files p x.secret) values (ShowsValues path x purpose p m) (values_later p m)

  pub placed_later : (holding : Holding) (p : Contents) → IsLate (ShowsPlaced holding path x purpose p)
  placed_later holding p = reads_later (record_files p.size) holding.name (ShowsRecord holding.values path x purpose p) (record_later holding.values p)

module _ (holding : Holding) (purpose : Purpose) (p : Contents) where
  pub path_later : (path secret : List ℕ) → IsLate (ShowsPath holding path secret purpose p)
  path_later path secret =
      reads_later path_files path (λ x. ShowsPlaced holding path (with_secret secret x) purpose p) (λ x. placed_later path (with_secret secret x) purpose holding p)

  secret_later : (secret : List ℕ) → IsLate (ShowsSecret holding secret purpose p)
  secret_later secret =
      reads_later (record_files 16) secret (λ s. ShowsPlaced holding [] (alone s) purpose p) (λ s. placed_later [] (alone s) purpose holding p)

  other_later : (sealed : Bool) (other : List ℕ) → IsLate (ShowsOther sealed holding other purpose p)
  other_later true other = secret_later other
  other_later false other = path_later other []

  both_later : (secret path : List ℕ) → IsLate (ShowsBoth holding secret path purpose p)
  both_later secret path =
      reads_later (record_files 16) secret (λ s. ShowsPath holding path s purpose p) (λ s. path_later path s)

  by_later : (beside : Beside) → IsLate (by_beside beside holding purpose p)
  by_later Nothing = placed_later [] (alone []) purpose holding p
  by_later (One other) = other_later (is_sealed p) other
  by_later (Two secret path) = both_later secret path

  pub beside_later : IsLate (ShowsBeside holding purpose p)
  beside_later = by_later holding.beside

-- ---- the inputs

pub provable : (p : Contents) (m : List ℕ) (vs : List Value) (x : Placed) (i : Inputs) → IsInputs p m vs x i → AreProvable p i
provable p m vs x i is = record { publics = is.publics; privates = is.count; satisfied = is.satisfied }

module _ (path : List ℕ) (x : Placed) (purpose : Purpose) (p : Contents) (m : List ℕ) (vs : List Value) where
  -- there are none
  pub no_inputs : (old : Seen) (h : Halt) (r : Result Ending Halt) → MakesInputs path p m vs x (Err h) → IsErrAnd r (λ y. y ≡ h) → Settles (ShowsValues path x purpose p m vs) (Keeps purpose) old old r
  no_inputs old h r made is = handed_on (Settles (ShowsValues path x purpose p m vs) (Keeps purpose) old old) r h is (go h made)
    where
      go : (h : Halt) → MakesInputs path p m vs x (Err h) → Settles (ShowsValues path x purpose p m vs) (Keeps purpose) old old (Err h)
      go halts.Memory made = keeps_all purpose old old refl
      go (halts.End e) (cause, refused, refusal) = inl (cause, refused, refusal, refl)

  -- they serve their purpose
  pub inputs_serve : (i : Inputs) (old new : Seen) (r : Result Ending Halt) → IsInputs p m vs x i → Settles (Serves purpose p i) (Keeps purpose) old new r → Settles (ShowsValues path x purpose p m vs) (Keeps purpose) old new r
  inputs_serve i old new (Ok e) is h = inr (i, is, h)
  inputs_serve i old new (Err halts.Memory) is h = h
  inputs_serve i old new (Err (halts.End e)) is h = inr (i, is, h)

-- ---- statuses

serves_small : (purpose : Purpose) (p : Contents) (i : Inputs) → IsSmall (Serves purpose p i)
serves_small (Put public private) p i = puts_inputs_small public private i
serves_small (Prove order) p i = draws_proof_small order p i

values_shown_small : (path : List ℕ) (x : Placed) (purpose : Purpose) (p : Contents) (m : List ℕ) (vs : List Value) → IsSmall (ShowsValues path x purpose p m vs)
values_shown_small path x purpose p m vs old new e (inl (cause, refused, refusal, same)) = none_small path p (length x.nodes) cause e refusal
values_shown_small path x purpose p m vs old new e (inr (i, is, more)) = serves_small purpose p i old new e more

module _ (holding : Holding) (purpose : Purpose) (p : Contents) where
  placed_small : (path : List ℕ) (x : Placed) → IsSmall (ShowsPlaced holding path x purpose p)
  placed_small path x =
      reads_small (record_files p.size) holding.name (ShowsRecord holding.values path x purpose p) (λ fault. omega arith) (λ m.
      reads_small (value_files p x.secret) holding.values (ShowsValues path x purpose p m) (values_small holding.values p x.secret) (values_shown_small path x purpose p m))

  path_small : (path secret : List ℕ) → IsSmall (ShowsPath holding path secret purpose p)
  path_small path secret =
      reads_small path_files path (λ x. ShowsPlaced holding path (with_secret secret x) purpose p) (λ fault. omega arith) (λ x. placed_small path (with_secret secret x))

  other_small : (sealed : Bool) (other : List ℕ) → IsSmall (ShowsOther sealed holding other purpose p)
  other_small true other =
      reads_small (record_files 16) other (λ s. ShowsPlaced holding [] (alone s) purpose p) (λ fault. omega arith) (λ s. placed_small [] (alone s))
  other_small false other = path_small other []

  by_small : (beside : Beside) → IsSmall (by_beside beside holding purpose p)
  by_small Nothing = placed_small [] (alone [])
  by_small (One other) = other_small (is_sealed p) other
  by_small (Two secret path) =
      reads_small (record_files 16) secret (λ s. ShowsPath holding path s purpose p) (λ fault. omega arith) (λ s. path_small path s)

pub holding_small : (policy : List ℕ) (holding : Holding) (purpose : Purpose) → IsSmall (HoldingRun policy holding purpose)
holding_small policy holding purpose =
    reads_small (kind_files (file_count holding.beside)) policy (ShowsBeside holding purpose) (λ fault. omega arith) (λ p. by_small holding purpose p holding.beside)
