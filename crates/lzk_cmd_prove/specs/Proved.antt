-- How a run ends that proves.
use Rattle.std.specs.Prelude.{◌≡◌, ◌≤◌, ℕ, List, length, Option, None, MatchOption}
use Rattle.lzk_circbytes.specs.declared.any.AnyCircuit.{AnyCircuit}
use Rattle.lzk_circbytes.specs.declared.any.AnyCircuit.TheVariants.{Gold, Gf}
use Rattle.lzk_circuit.specs.Valid.{Wiring}
use Rattle.lzk_circuit.specs.Checks.{checks_of}
use Rattle.lzk_circuit.specs.Wires.{inputs_of, IsFirstNonzero}
use Rattle.lzk_field.specs.Coding.{Coding}
use Rattle.lzk_field.specs.Ring.{Ops}
use Rattle.lzk_field.specs.Words.{seeded_word}
use Rattle.lzk_goldilocks.specs.Drawn.{drawn}
use Rattle.lzk_goldilocks.specs.Elements as gold
use Rattle.lzk_gf128.specs.Elements as gf
use Rattle.lzk_ligero_proof.specs.Proving.{IsProofFile, words_of}
use Rattle.lzk_outside.specs.Outside.{Files}
use Rattle.lzk_cmd_files.specs.Decoded.{circuit_files, number_files, proof_limit}
use Rattle.lzk_cmd_files.specs.Ends.{End, says, Stop, puts}
use Rattle.lzk_cmd_files.specs.Formats.{At}
use Rattle.lzk_cmd_files.specs.Lines.{told_line, nonzero_line}
use Rattle.lzk_cmd_words.specs.Digits.{seed_of, session_of}
use Rattle.lzk_cmd_verify.specs.Verified.{gold_coding, gf_coding}

-- the end where a check is not 0
abbrev pub nonzero_end : {A : Type 0} → (A → ℕ) → ℕ × A → End
nonzero_end number first = says 1 (nonzero_line first.0 (number first.1))

-- the random words of a seed, over either field
abbrev pub gold_word : List ℕ → ℕ → ℕ
gold_word seed = drawn (seeded_word seed)

abbrev pub gf_word : List ℕ → ℕ → ℕ
gf_word = seeded_word

-- the file of the proof of these random words is put, and it is within the limit of proofs; the line tells of it, and
-- of the digest that it is of, if it is of one
abbrev pub PutsProof : {A : Type 0} → Ops A → Coding A → Wiring A → List ℕ → Option (List ℕ) → List ℕ → (ℕ → ℕ)
    → List A → List A → Stop → End
    → Type 0
PutsProof o e c proof digest session word publics privates stop end =
    (bytes : List ℕ)
    × IsProofFile o e c session publics privates (words_of word) bytes
    × (length bytes ≤ proof_limit)
    × (end ≡ puts stop proof bytes (told_line proof digest (length bytes)))

-- The walk has its inputs: where all checks are 0 it puts the proof, and otherwise tells the first that is not.
abbrev pub Proves : {A : Type 0} → Ops A → Coding A → Wiring A → List ℕ → Option (List ℕ) → List ℕ → (ℕ → ℕ) → List A
    → List A → Stop → End
    → Type 0
Proves {A} o e c proof digest session word publics privates stop end =
    (first : Option (ℕ × A))
    × IsFirstNonzero o (checks_of o e.number c.layers (inputs_of o publics privates)) first
    × MatchOption first (PutsProof o e c proof digest session word publics privates stop end)
    (λ found. end ≡ nonzero_end e.number found)

-- a proof over a circuit over a field, for a session and random words, of the inputs of two number files
unfoldable pub ProveOver : {A : Type 0} → Ops A → Coding A → Wiring A → List ℕ → List ℕ → List ℕ → List ℕ → (ℕ → ℕ)
    → Files → Stop → End
    → Type 0
ProveOver o e c public private proof session word files stop end =
    At (number_files e.size e.number c.publics) files stop 1 public end (λ publics.
    At (number_files e.size e.number c.privates) files stop 2 private end (λ privates.
    Proves o e c proof None session word publics privates stop end))

abbrev pub ProveAny : AnyCircuit → List ℕ → List ℕ → List ℕ → List ℕ → List ℕ → Files → Stop → End → Type 0
ProveAny (Gold c) public private proof session seed =
    ProveOver gold.ops gold_coding c public private proof session (gold_word seed)
ProveAny (Gf c) public private proof session seed =
    ProveOver gf.ops gf_coding c public private proof session (gf_word seed)

unfoldable pub ProveRun : List ℕ → List ℕ → List ℕ → List ℕ → List ℕ → Option (List ℕ) → Files → Stop → End → Type 0
ProveRun circuit public private proof seed session files stop end =
    At circuit_files files stop 0 circuit end
    (λ c. ProveAny c public private proof (session_of session) (seed_of seed) files stop end)
