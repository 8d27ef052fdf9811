-- Which lists of words are commands.
use Rattle.std.specs.Prelude.{ℕ, List, [], ◌∷◌, Option, Some, None, cond, codes}
use Rattle.std.specs.Str.{bytes_eq}
use Rattle.lzk_cmd_words.specs.declared.table.Verb.{Verb}
use Rattle.lzk_cmd_words.specs.declared.table.Verb.TheVariants as verbs
use Rattle.lzk_cmd_words.specs.declared.words.Version.{Version}
use Rattle.lzk_cmd_words.specs.declared.words.Version.TheVariants.{One, Two}
use Rattle.lzk_cmd_words.specs.Grammar.{request_of}
use Rattle.lzk_cmd_words.specs.Keys.{Keys, or_else}

-- a command, with the names of its files
pub data Command : Type 0 where
  Eval : List ℕ → List ℕ → List ℕ → Command
  -- and the version that the circuit is to have
  Compile : List ℕ → List ℕ → Version → Command
  -- the circuit that is read, and the one that is put
  Upgrade : List ℕ → List ℕ → Command
  Show : List ℕ → Command
  -- and the digits of the seed, and of the session, if there is one; not the number of workers
  Prove : List ℕ → List ℕ → List ℕ → List ℕ → List ℕ → Option (List ℕ) → Command
  Verify : List ℕ → List ℕ → List ℕ → Option (List ℕ) → Command
  -- not the number of workers
  Batch : List ℕ → Command
  -- the digits of the number of private inputs, and of the seed; not the number of workers
  Demo : List ℕ → List ℕ → Command
  -- the digits of the number of bytes, and the circuit
  ShaCircuit : List ℕ → List ℕ → Command
  -- circuit and proof, and the digits of the message and the seed, and of the session, if there is one; not the number
  -- of workers
  Sha256 : List ℕ → List ℕ → List ℕ → List ℕ → Option (List ℕ) → Command

-- the version of a text: 1 where none stands
abbrev pub version_of : Option (List ℕ) → Version
version_of None = One
version_of (Some text) = cond (bytes_eq text (codes "2")) Two One

-- the command of a word, names and keys that keep its row
abbrev pub built : Verb → List (List ℕ) → Keys → Option Command
built verbs.Eval (circuit ∷ public ∷ private ∷ []) keys = Some (Eval circuit public private)
built verbs.Compile (source ∷ circuit ∷ []) keys = Some (Compile source circuit (version_of keys.version))
built verbs.Upgrade (old ∷ new ∷ []) keys = Some (Upgrade old new)
built verbs.Show (circuit ∷ []) keys = Some (Show circuit)
built verbs.Prove (circuit ∷ public ∷ private ∷ proof ∷ []) keys =
    or_else keys.seed (λ seed. Some (Prove circuit public private proof seed keys.session)) None
built verbs.Verify (circuit ∷ public ∷ proof ∷ []) keys = Some (Verify circuit public proof keys.session)
built verbs.Batch (list ∷ []) keys = Some (Batch list)
built verbs.Demo (count ∷ []) keys = or_else keys.seed (λ seed. Some (Demo count seed)) None
built verbs.ShaCircuit (count ∷ circuit ∷ []) keys = Some (ShaCircuit count circuit)
built verbs.Sha256 (circuit ∷ proof ∷ []) keys =
    or_else keys.message
    (λ message. or_else keys.seed (λ seed. Some (Sha256 circuit proof message seed keys.session)) None) None
built verb names keys = None

-- the command of a list of words, if they are one
unfoldable pub command_of : List (List ℕ) → Option Command
command_of words = or_else (request_of words) (λ request. built request.verb request.names request.keys) None

-- the words are a command that puts a file
abbrev pub PutsFile : Option Command → Type 0
PutsFile None = ⊥
PutsFile (Some (Eval circuit public private)) = ⊥
PutsFile (Some (Compile source circuit version)) = Unit {0}
PutsFile (Some (Upgrade old new)) = Unit {0}
PutsFile (Some (Show circuit)) = ⊥
PutsFile (Some (Prove circuit public private proof seed session)) = Unit {0}
PutsFile (Some (Verify circuit public proof session)) = ⊥
PutsFile (Some (Batch list)) = ⊥
PutsFile (Some (Demo count seed)) = ⊥
PutsFile (Some (ShaCircuit count circuit)) = Unit {0}
PutsFile (Some (Sha256 circuit proof message seed session)) = Unit {0}

-- the words are no command, or a command that reads and puts no file
abbrev pub LeavesShelf : Option Command → Type 0
LeavesShelf None = Unit {0}
LeavesShelf (Some (Eval circuit public private)) = ⊥
LeavesShelf (Some (Compile source circuit version)) = ⊥
LeavesShelf (Some (Upgrade old new)) = ⊥
LeavesShelf (Some (Show circuit)) = ⊥
LeavesShelf (Some (Prove circuit public private proof seed session)) = ⊥
LeavesShelf (Some (Verify circuit public proof session)) = ⊥
LeavesShelf (Some (Batch list)) = ⊥
LeavesShelf (Some (Demo count seed)) = Unit {0}
LeavesShelf (Some (ShaCircuit count circuit)) = ⊥
LeavesShelf (Some (Sha256 circuit proof message seed session)) = ⊥
