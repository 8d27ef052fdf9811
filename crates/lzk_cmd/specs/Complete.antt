-- Runs in which nothing is refused.
use Rattle.std.specs.Prelude.{◌≡◌, ◌⊎◌, ◌^◌, ℕ, ◌+◌, ◌≤◌, List, ◌++◌, length, All, sum_by, Option, Some, None, true}
use Rattle.lzk_batch.specs.Lists.{Listed}
use Rattle.lzk_circbytes.specs.declared.any.AnyCircuit.{AnyCircuit}
use Rattle.lzk_circbytes.specs.declared.any.AnyCircuit.TheVariants.{Gold, Gf}
use Rattle.lzk_circuit.specs.Valid.{Wiring}
use Rattle.lzk_expr.specs.Numbers.{NumberText}
use Rattle.lzk_expr.specs.Trees.{SourceTree}
use Rattle.lzk_goldilocks.specs.declared.element.Gold.{Gold as GoldElement}
use Rattle.lzk_goldilocks.specs.Prime.{p}
use Rattle.lzk_outside.specs.Outside.{Files}
use Rattle.lzk_cmd_circuits.specs.Compiled.{limit_as}
use Rattle.lzk_cmd_batch.specs.Batched.{list_files, total_limit}
use Rattle.lzk_cmd_files.specs.Decoded.{circuit_files, source_files, proof_files, text_limit}
use Rattle.lzk_cmd_files.specs.Ends.{End, Nowhere, Leaves}
use Rattle.lzk_cmd_files.specs.Formats.{HasFile, Has}
use Rattle.lzk_cmd_prove.specs.Hashed.{is_for}
use Rattle.lzk_cmd_words.specs.Digits.{message_of}
use Rattle.lzk_cmd.specs.Run.{RunOf}
use Rattle.lzk_cmd_files.specs.Seen.{ReadFailed, PutFailed, WriteFailed}
use Rattle.lzk_cmd.specs.Sights.{Before, After}
use Rattle.lzk_cmd_words.specs.declared.words.Version.{Version}
use Rattle.lzk_cmd_words.specs.Words.{Command, Eval, Compile, Upgrade, Show, Prove, Verify, Batch, Demo, ShaCircuit, Sha256, command_of}

-- a file of so many numbers, each below size, is there, within its limit
abbrev pub HasNumbers : Files → List ℕ → ℕ → ℕ → Type 0
HasNumbers files name size count =
    (text : List ℕ) × (list : List ℕ) × HasFile (files name) text_limit text × NumberText size count text list

abbrev pub HasInputs : {A : Type 0} → ℕ → Files → Wiring A → List ℕ → List ℕ → Type 0
HasInputs size files c public private =
    HasNumbers files public size c.publics × HasNumbers files private size c.privates

abbrev pub HasInputsOf : AnyCircuit → Files → List ℕ → List ℕ → Type 0
HasInputsOf (Gold c) files public private = HasInputs p files c public private
HasInputsOf (Gf c) files public private = HasInputs (2 ^ 128) files c public private

-- the circuit's public inputs are there
abbrev pub HasPublicsOf : AnyCircuit → Files → List ℕ → Type 0
HasPublicsOf (Gold c) files public = HasNumbers files public p c.publics
HasPublicsOf (Gf c) files public = HasNumbers files public (2 ^ 128) c.publics

-- the source's file is there, within its limit, and its circuit of this version keeps the limits
abbrev pub HasSource : Files → List ℕ → Version → SourceTree → Type 0
HasSource files name version source = Has source_files files name source × (limit_as version source ≡ None)

-- the files of `verify` are there
pub record IsJobReady (files : Files) (job : Listed) : Type 0 where
  pub circuit : AnyCircuit
  pub proof : List ℕ
  pub has_circuit : Has circuit_files files job.circuit circuit
  pub has_publics : HasPublicsOf circuit files job.public
  pub has_proof : Has proof_files files job.proof proof

-- how many bytes a file has that is there
abbrev pub file_size : Option (List ℕ) → ℕ
file_size None = 0
file_size (Some bytes) = length bytes

abbrev pub job_size : Files → Listed → ℕ
job_size files job = file_size (files job.circuit) + file_size (files job.public) + file_size (files job.proof)

-- a list of jobs is there, and the files of each job, which have no more bytes together than they may
pub record IsBatchReady (files : Files) (list : List ℕ) : Type 0 where
  pub jobs : List Listed
  pub has : Has list_files files list jobs
  pub each : All (IsJobReady files) jobs
  pub few : sum_by (job_size files) jobs ≤ total_limit

-- the files that a command reads are there, within their limits and of their formats, and a circuit that is to be
-- proved for a message has its counts
abbrev pub IsReady : Files → Command → Type 0
IsReady files (Eval circuit public private) =
    (c : AnyCircuit) × Has circuit_files files circuit c × HasInputsOf c files public private
IsReady files (Compile source circuit version) = (s : SourceTree) × HasSource files source version s
IsReady files (Upgrade old new) = (c : AnyCircuit) × Has circuit_files files old c
IsReady files (Show circuit) = (c : AnyCircuit) × Has circuit_files files circuit c
IsReady files (Prove circuit public private proof seed session) =
    (c : AnyCircuit) × Has circuit_files files circuit c × HasInputsOf c files public private
IsReady files (Verify circuit public proof session) =
    (c : AnyCircuit)
    × (bytes : List ℕ)
    × Has circuit_files files circuit c
    × HasPublicsOf c files public
    × Has proof_files files proof bytes
IsReady files (Batch list) = IsBatchReady files list
IsReady files (Demo count seed) = Unit {0}
IsReady files (ShaCircuit count circuit) = Unit {0}
IsReady files (Sha256 circuit proof message seed session) =
    (c : Wiring GoldElement)
    × Has circuit_files files circuit (Gold c)
    × (is_for (length (message_of message)) c ≡ true)

-- the run is done, or its inputs don't satisfy the circuit or its proof is rejected, its text is printed to the end,
-- and its file is put
pub record Completed (before : Before) (after : After) (files : Files) (text : List ℕ) : Type 0 where
  pub end : End
  pub run : RunOf before.words files Nowhere end
  pub done : (end.status ≡ 0) ⊎ (end.status ≡ 1)
  pub answer : after.status ≡ end.status
  pub printed : after.sink.written ≡ Some (text ++ end.text)
  pub left : Leaves files Nowhere end.put after.shelf.files

-- where the words are a command, its files are ready and nothing failed, the run completes, or there is no memory
abbrev pub Completes : Before → After → Files → List ℕ → Type 0
Completes before after files text =
    (command : Command) → command_of before.words ≡ Some command → IsReady files command
    → ¬ ReadFailed before.shelf after.shelf → ¬ PutFailed before.shelf after.shelf
    → ¬ WriteFailed before.sink after.sink
    → Completed before after files text ⊎ (after.status ≡ 6)
