-- What a program is told that proves.
use Rattle.std.specs.Prelude.{◌≡◌, ◌⊎◌, ℕ, List, Option, None, Result, Err, MatchOption}
use Rattle.lzk_circbytes.specs.Files.{CircuitBytes}
use Rattle.lzk_circbytes.specs.declared.any.AnyCircuit.{AnyCircuit}
use Rattle.lzk_circbytes.specs.declared.any.AnyCircuit.TheVariants.{Gold, Gf}
use Rattle.lzk_circuit.specs.Checks.{checks_of}
use Rattle.lzk_circuit.specs.Valid.{Wiring}
use Rattle.lzk_circuit.specs.Wires.{inputs_of, IsFirstNonzero}
use Rattle.lzk_field.specs.Coding.{Coding}
use Rattle.lzk_field.specs.Ring.{Ops}
use Rattle.lzk_field.specs.Words.{seeded_word}
use Rattle.lzk_goldilocks.specs.Drawn.{drawn}
use Rattle.lzk_goldilocks.specs.Elements as gold
use Rattle.lzk_gf128.specs.Elements as gf
use Rattle.lzk_ligero_proof.specs.Proving.{IsProofFile, words_of}
use Rattle.lzk_verify.specs.Verdict.{IsVerdict}
use Rattle.lzk_verify.specs.declared.verdict.Verdict.TheVariants.{Accepted}
use Rattle.lzk_calls.specs.declared.refusal.Refusal.{Refusal}
use Rattle.lzk_calls.specs.declared.refusal.Refusal.TheVariants.{Unsatisfied}
use Rattle.lzk_calls.specs.Inputs.{AreInputs, LacksInputs, IsUnread, gold_coding, gf_coding}
use Rattle.lzk_calls.specs.Room.{Puts}

module _ {A : Type 0} (o : Ops A) (e : Coding A) (c : Wiring A)
    (session : List ℕ) (word : ℕ → ℕ) (old new : List ℕ) (told : Result ℕ Refusal) where
  -- the one proof of these inputs with these random words is put, and the verdict on it is that it is accepted
  abbrev pub PutsProof : List A → List A → Type 0
  PutsProof publics privates =
      (bytes : List ℕ) × IsProofFile o e c session publics privates (words_of word) bytes
      × IsVerdict o e c session publics bytes Accepted × Puts bytes old new told

  -- that, where all checks are 0; and otherwise the first that is not is told, and the room is as it was
  abbrev pub ProvesInputs : List A → List A → Type 0
  ProvesInputs publics privates =
      (first : Option (ℕ × A)) × IsFirstNonzero o (checks_of o e.number c.layers (inputs_of o publics privates)) first
      × MatchOption first (PutsProof publics privates)
      (λ check. (told ≡ Err (Unsatisfied check.0 (e.number check.1))) × (new ≡ old))

  -- the same, of the inputs of two texts; or why they give none
  abbrev pub ProvesOver : List ℕ → List ℕ → Type 0
  ProvesOver public private =
      ((refusal : Refusal) × (told ≡ Err refusal) × LacksInputs e c session public private refusal × (new ≡ old))
      ⊎ ((publics : List A) × (privates : List A)
      × AreInputs e c session public private publics privates × ProvesInputs publics privates)

abbrev pub ProvesOf : AnyCircuit → List ℕ → List ℕ → List ℕ → List ℕ → Result ℕ Refusal → List ℕ → List ℕ → Type 0
ProvesOf (Gold c) session seed = ProvesOver gold.ops gold_coding c session (drawn (seeded_word seed))
ProvesOf (Gf c) session seed = ProvesOver gf.ops gf_coding c session (seeded_word seed)

-- what is told of a circuit's file, two texts, a session and a seed, and becomes of a room
abbrev pub Proves : List ℕ → List ℕ → List ℕ → List ℕ → List ℕ → List ℕ → List ℕ → Result ℕ Refusal → Type 0
Proves circuit public private session seed old new told =
    ((refusal : Refusal) × (told ≡ Err refusal) × IsUnread circuit refusal × (new ≡ old))
    ⊎ ((c : AnyCircuit) × CircuitBytes c circuit × ProvesOf c session seed old new told public private)
