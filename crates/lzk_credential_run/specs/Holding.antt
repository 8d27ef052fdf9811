-- What a holder does: the commands `inputs` and `prove`.
use Rattle.std.specs.Prelude.{◌≡◌, ◌⊎◌, ℕ, Bool, true, false, List, [], length}
use Rattle.lzk_cmd_files.specs.Seen.{Seen}
use Rattle.lzk_policy.specs.Policies.{Contents}
use Rattle.lzk_policy_inputs.specs.declared.value.Value.{Value}
use Rattle.lzk_policy_inputs.specs.Both.{Inputs}
use Rattle.lzk_policy_inputs.specs.declared.refusal.RootedInputsError.{RootedInputsError}
use Rattle.lzk_policy_inputs.specs.Placed.{IsCredentialRefusal}
use Rattle.lzk_credential_run.specs.declared.holding.Purpose as memory
use Rattle.lzk_credential_run.specs.declared.holding.Purpose.TheVariants as made
use Rattle.lzk_credential_run.specs.Ends.{Way, Reads, NothingPut}
use Rattle.lzk_credential_run.specs.Files.{kind_files, path_files, record_files}
use Rattle.lzk_policy_texts.specs.Inputs.{IsInputs}
use Rattle.lzk_policy_texts.specs.Seals.{is_sealed}
use Rattle.lzk_credential_run.specs.Given.{IsNoInputs, PutsInputs, PutsOne, value_files}
use Rattle.lzk_credential_run.specs.Orders.{Beside, Nothing, One, Two, Holding, Order, file_count, order_of}
use Rattle.lzk_policy_texts.specs.Paths.{Placed, alone, with_secret}
use Rattle.lzk_credential_run.specs.Proved.{Draws, PutsProof}

-- what inputs are made for: to be put in two files, or for a proof
pub data Purpose : Type 0 where
  Put : List ℕ → List ℕ → Purpose
  Prove : Order → Purpose

abbrev pub purpose_of : memory.Purpose → Purpose
purpose_of (made.Put outputs) = Put outputs.public.now outputs.private.now
purpose_of (made.Prove task) = Prove (order_of task.order)

-- the inputs are put, or a seed is drawn and their proof is put
abbrev pub Serves : Purpose → Contents → Inputs → Way
Serves (Put public private) p i = PutsInputs public private i
Serves (Prove order) p i = Draws (PutsProof order p i)

-- what want of memory leaves: all as it was, or with the first of two files
abbrev pub Keeps : Purpose → Seen → Seen → Type 0
Keeps (Put public private) old new = PutsOne public old new
Keeps (Prove order) old new = NothingPut old new

-- the run has policy, record, values and a leaf: there are no inputs, or they serve their purpose
abbrev pub ShowsValues : List ℕ → Placed → Purpose → Contents → List ℕ → List Value → Way
ShowsValues path x purpose p m vs old new e =
    ((cause : RootedInputsError)
    × IsCredentialRefusal p m vs x.leaf (length x.nodes) cause
    × IsNoInputs path p (length x.nodes) cause e × (new.files ≡ old.files))
    ⊎ ((i : Inputs) × IsInputs p m vs x i × Serves purpose p i old new e)

abbrev pub ShowsRecord : List ℕ → List ℕ → Placed → Purpose → Contents → List ℕ → Way
ShowsRecord values path x purpose p m =
    Reads (value_files p x.secret) values (ShowsValues path x purpose p m)

-- the record is read, and then the values
abbrev pub ShowsPlaced : Holding → List ℕ → Placed → Purpose → Contents → Way
ShowsPlaced holding path x purpose p =
    Reads (record_files p.size) holding.name (ShowsRecord holding.values path x purpose p)

-- a digest is shown and nothing sealed: there is no path and no secret
abbrev pub ShowsAlone : Holding → Purpose → Contents → Way
ShowsAlone holding purpose p = ShowsPlaced holding [] (alone []) purpose p

-- the path is read, beside a secret
abbrev pub ShowsPath : Holding → List ℕ → List ℕ → Purpose → Contents → Way
ShowsPath holding path secret purpose p =
    Reads path_files path (λ x. ShowsPlaced holding path (with_secret secret x) purpose p)

-- the secret is read, and there is no path
abbrev pub ShowsSecret : Holding → List ℕ → Purpose → Contents → Way
ShowsSecret holding secret purpose p =
    Reads (record_files 16) secret (λ s. ShowsPlaced holding [] (alone s) purpose p)

-- the file beside the values is the secret of a sealed policy, or a path
abbrev pub ShowsOther : Bool → Holding → List ℕ → Purpose → Contents → Way
ShowsOther true holding other purpose p = ShowsSecret holding other purpose p
ShowsOther false holding other purpose p = ShowsPath holding other [] purpose p

-- the secret is read, and then the path
abbrev pub ShowsBoth : Holding → List ℕ → List ℕ → Purpose → Contents → Way
ShowsBoth holding secret path purpose p =
    Reads (record_files 16) secret (λ s. ShowsPath holding path s purpose p)

abbrev pub by_beside : Beside → Holding → Purpose → Contents → Way
by_beside Nothing holding purpose p = ShowsAlone holding purpose p
by_beside (One other) holding purpose p = ShowsOther (is_sealed p) holding other purpose p
by_beside (Two secret path) holding purpose p = ShowsBoth holding secret path purpose p

abbrev pub ShowsBeside : Holding → Purpose → Contents → Way
ShowsBeside holding purpose p = by_beside holding.beside holding purpose p

-- the policy is read, and then what it wants beside the values
abbrev pub HoldingRun : List ℕ → Holding → Purpose → Way
HoldingRun policy holding purpose =
    Reads (kind_files (file_count holding.beside)) policy (ShowsBeside holding purpose)
