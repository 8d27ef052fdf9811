-- Which words are a command.
use Rattle.std.specs.Prelude.{ℕ, List, [], ◌∷◌, Option, Some, None, codes, if◌then◌else◌}
use Rattle.std.specs.Str.{bytes_eq}
use Rattle.lzk_policy.specs.Lines.{and_then}
use Rattle.lzk_credential_run.specs.Keys.{asked_in, is_key, session_in}
use Rattle.lzk_credential_run.specs.Orders.{Beside, Nothing, One, Two, Holding, holding_of}
use Rattle.lzk_credential_run.specs.declared.words.Command as memory
use Rattle.lzk_credential_run.specs.declared.words.Command.TheVariants as held

-- a command, with the names of its files
pub data Command : Type 0 where
  -- the policy, and the circuit that is put
  Circuit : List ℕ → List ℕ → Command
  -- the policy and the record
  Digest : List ℕ → List ℕ → Command
  -- the policy, the holder's files, and the two files of inputs that are put
  Inputs : List ℕ → Holding → List ℕ → List ℕ → Command
  -- the policy, the holder's files, the proof that is put, and the session's digits; not the number of workers
  Prove : List ℕ → Holding → List ℕ → List ℕ → Command
  -- the policy
  Show : List ℕ → Command
  -- the policy, what was shown, the proof, and the session's digits
  Verify : List ℕ → List ℕ → List ℕ → List ℕ → Command

-- the command of a word and two names
abbrev pub pair_of : List ℕ → List ℕ → List ℕ → Option Command
pair_of verb policy other =
    if bytes_eq verb (codes "circuit") then Some (Circuit policy other) else
    (if bytes_eq verb (codes "digest") then Some (Digest policy other) else None)

abbrev pub verify_of : List ℕ → List ℕ → List ℕ → List ℕ → Option Command
verify_of policy shown proof key = and_then (session_in key) (λ session. Some (Verify policy shown proof session))

abbrev pub held_with : List ℕ → List ℕ → Beside → Holding
held_with taken values beside = record { name = taken; values = values; beside = beside }

abbrev pub inputs_with : List ℕ → List ℕ → List ℕ → Beside → List ℕ → List ℕ → Command
inputs_with policy taken values beside public private = Inputs policy (held_with taken values beside) public private

-- the last two words are the files that are put
abbrev pub inputs_of : List ℕ → List ℕ → List ℕ → List ℕ → List (List ℕ) → Option Command
inputs_of policy taken values fourth (private ∷ []) = Some (inputs_with policy taken values Nothing fourth private)
inputs_of policy taken values fourth (public ∷ private ∷ []) =
    Some (inputs_with policy taken values (One fourth) public private)
inputs_of policy taken values fourth (path ∷ public ∷ private ∷ []) =
    Some (inputs_with policy taken values (Two fourth path) public private)
inputs_of policy taken values fourth others = None

abbrev pub or_command : Option Command → Option Command → Option Command
or_command None other = other
or_command (Some command) other = Some command

-- the words behind the proof are keys, and the proof's name is none
abbrev pub prove_of : List ℕ → List ℕ → List ℕ → Beside → List ℕ → List (List ℕ) → Option Command
prove_of policy taken values beside proof keys =
    if is_key proof then None else
    and_then (asked_in keys) (λ session. Some (Prove policy (held_with taken values beside) proof session))

abbrev pub prove_with_two : List ℕ → List ℕ → List ℕ → List ℕ → List ℕ → List (List ℕ) → Option Command
prove_with_two policy taken values secret path [] = None
prove_with_two policy taken values secret path (proof ∷ keys) =
    prove_of policy taken values (Two secret path) proof keys

-- a file stands beside the values: the word behind it is the proof where all others are keys, and otherwise a second
-- such file
abbrev pub prove_with : List ℕ → List ℕ → List ℕ → List ℕ → List (List ℕ) → Option Command
prove_with policy taken values fourth [] = None
prove_with policy taken values fourth (fifth ∷ keys) =
    or_command (prove_of policy taken values (One fourth) fifth keys)
    (prove_with_two policy taken values fourth fifth keys)

-- the fourth word is the proof where all behind it are keys, and otherwise a file beside the values
abbrev pub proves : List ℕ → List ℕ → List ℕ → List ℕ → List (List ℕ) → Option Command
proves policy taken values fourth others =
    or_command (prove_of policy taken values Nothing fourth others) (prove_with policy taken values fourth others)

abbrev pub verifies : List ℕ → List ℕ → List ℕ → List ℕ → List (List ℕ) → Option Command
verifies policy shown proof key [] = verify_of policy shown proof key
verifies policy shown proof key (other ∷ others) = None

-- the command of a word and four words or more behind it
abbrev pub long_of : List ℕ → List ℕ → List ℕ → List ℕ → List ℕ → List (List ℕ) → Option Command
long_of verb first second third fourth others =
    if bytes_eq verb (codes "inputs") then inputs_of first second third fourth others else
    (if bytes_eq verb (codes "prove") then proves first second third fourth others else
    (if bytes_eq verb (codes "verify") then verifies first second third fourth others else None))

-- the command of a word and the words behind it
abbrev pub named : List ℕ → List (List ℕ) → Option Command
named verb (policy ∷ []) = if bytes_eq verb (codes "show") then Some (Show policy) else None
named verb (policy ∷ other ∷ []) = pair_of verb policy other
named verb (first ∷ second ∷ third ∷ fourth ∷ others) = long_of verb first second third fourth others
named verb names = None

-- the command of a list of words, if they are one
unfoldable pub command_of : List (List ℕ) → Option Command
command_of [] = None
command_of (verb ∷ names) = named verb names

-- a command in memory as its words
abbrev pub command_view : memory.Command → Command
command_view (held.Circuit policy circuit) = Circuit policy.now circuit.now
command_view (held.Digest policy taken) = Digest policy.now taken.now
command_view (held.Inputs words) =
    Inputs words.policy.now (holding_of words.holding) words.public.now words.private.now
command_view (held.Prove words) =
    Prove words.policy.now (holding_of words.holding) words.proof.now words.asked.session.digits.now
command_view (held.Show policy) = Show policy.now
command_view (held.Verify words) =
    Verify words.policy.now words.shown.now words.proof.now words.session.digits.now
