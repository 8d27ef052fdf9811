-- What `prove` and `sha256` put is accepted, and what `demo` proves.
use Rattle.std.specs.Prelude.{◌≡◌, ◌⊎◌, ℕ, List, length, Option, Some}
use Rattle.lzk_circbytes.specs.declared.any.AnyCircuit.{AnyCircuit}
use Rattle.lzk_circbytes.specs.declared.any.AnyCircuit.TheVariants.{Gold, Gf}
use Rattle.lzk_circuit.specs.Valid.{Wiring}
use Rattle.lzk_field.specs.Coding.{Coding}
use Rattle.lzk_field.specs.Ring.{Ops}
use Rattle.lzk_goldilocks.specs.declared.element.Gold.{Gold as GoldElement}
use Rattle.lzk_goldilocks.specs.Elements as gold
use Rattle.lzk_gf128.specs.Elements as gf
use Rattle.lzk_outside.specs.Outside.{Files, Appends}
use Rattle.lzk_circuit.specs.Checks.{checks_of}
use Rattle.lzk_circuit.specs.Wires.{wires_of, inputs_of}
use Rattle.lzk_sha_circuit.specs.Outputs.{sha_outputs}
use Rattle.lzk_sha_circuit.specs.Places.{private_count}
use Rattle.lzk_verify.specs.Verdict.{IsVerdict}
use Rattle.lzk_verify.specs.declared.verdict.Verdict.TheVariants.{Accepted}
use Rattle.lzk_cmd_files.specs.Decoded.{circuit_files, number_files}
use Rattle.lzk_cmd_prove.specs.Demo.{IsDemo}
use Rattle.lzk_cmd_files.specs.Ends.{End, Stop}
use Rattle.lzk_cmd_files.specs.Formats.{Has}
use Rattle.lzk_cmd_prove.specs.Hashed.{digest_inputs}
use Rattle.lzk_cmd_words.specs.Digits.{message_of, seed_of, session_of}
use Rattle.lzk_cmd_words.specs.Keys.{number_of}
use Rattle.lzk_cmd_files.specs.Lines.{demo_line}
use Rattle.lzk_cmd.specs.Run.{RunOf}
use Rattle.lzk_cmd_files.specs.Seen.{WriteFailed}
use Rattle.lzk_cmd.specs.Sights.{Before, After}
use Rattle.lzk_cmd_verify.specs.Verified.{gold_coding, gf_coding}
use Rattle.lzk_cmd_words.specs.Words.{Prove, Demo, Sha256, command_of}

-- the end puts bytes under a name that are accepted over a circuit, for a session and the public inputs of a number
-- file
abbrev pub PutsAccepted : {A : Type 0} → Ops A → Coding A → Wiring A → List ℕ → List ℕ → List ℕ → Files → End → Type 0
PutsAccepted {A} o e c public proof session files end =
    (publics : List A)
    × (bytes : List ℕ)
    × Has (number_files e.size e.number c.publics) files public publics
    × (end.put ≡ Some (proof, bytes))
    × IsVerdict o e c session publics bytes Accepted

abbrev pub PutsAcceptedAny : AnyCircuit → List ℕ → List ℕ → List ℕ → Files → End → Type 0
PutsAcceptedAny (Gold c) = PutsAccepted gold.ops gold_coding c
PutsAcceptedAny (Gf c) = PutsAccepted gf.ops gf_coding c

-- Where `prove` is done, the proof that it put is accepted for the same circuit, public inputs and session.
abbrev pub ProvedIsAccepted : Type 0
ProvedIsAccepted =
    (words : List (List ℕ)) (files : Files) (stop : Stop) (end : End) (circuit public private proof seed : List ℕ)
    (session : Option (List ℕ))
    → command_of words ≡ Some (Prove circuit public private proof seed session) → RunOf words files stop end
    → end.status ≡ 0
    → (c : AnyCircuit)
    × Has circuit_files files circuit c
    × PutsAcceptedAny c public proof (session_of session) files end

-- Where `sha256` is done, the proof that it put is accepted for the same circuit and session, and the digest's words as
-- public inputs.
abbrev pub HashedIsAccepted : Type 0
HashedIsAccepted =
    (words : List (List ℕ)) (files : Files) (stop : Stop) (end : End) (circuit proof message seed : List ℕ)
    (session : Option (List ℕ))
    → command_of words ≡ Some (Sha256 circuit proof message seed session) → RunOf words files stop end → end.status ≡ 0
    → (c : Wiring GoldElement)
    × (bytes : List ℕ)
    × Has circuit_files files circuit (Gold c)
    × (end.put ≡ Some (proof, bytes))
    × IsVerdict gold.ops gold_coding c (session_of session) (digest_inputs (message_of message)) bytes Accepted

-- on all inputs of these counts, the circuit's outputs are the definition's for messages of so many bytes
abbrev pub HasShaOutputs : ℕ → Wiring GoldElement → Type 0
HasShaOutputs len c =
    (public private : List GoldElement) → length public ≡ 8 → length private ≡ private_count len
    → wires_of gold.ops c.layers (inputs_of gold.ops public private)
    ≡ sha_outputs gold.ops gold.of_number len public private

-- on all these inputs its checks are: a circuit of version 1 has its outputs as checks, and one of version 2 may have
-- more
abbrev pub HasShaChecks : ℕ → Wiring GoldElement → Type 0
HasShaChecks len c =
    (public private : List GoldElement) → length public ≡ 8 → length private ≡ private_count len
    → checks_of gold.ops gold.number c.layers (inputs_of gold.ops public private)
    ≡ sha_outputs gold.ops gold.of_number len public private

-- Over a circuit whose checks are the definition's outputs for messages of so many bytes, no end of `sha256` tells of a
-- check that is not 0. So it is over a circuit of version 1 with these outputs.
abbrev pub HashesAreSatisfied : Type 0
HashesAreSatisfied =
    (words : List (List ℕ)) (files : Files) (stop : Stop) (end : End) (circuit proof message seed : List ℕ)
    (session : Option (List ℕ)) (c : Wiring GoldElement)
    → command_of words ≡ Some (Sha256 circuit proof message seed session) → Has circuit_files files circuit (Gold c)
    → HasShaChecks (length (message_of message)) c ⊎ ((c.version ≡ 1) × HasShaOutputs (length (message_of message)) c)
    → RunOf words files stop end → end.status ≡ 1
    → ⊥

-- The run is done, and tells of the demo with n private inputs: of a circuit of its source, and of the proof of these
-- inputs, which is accepted.
pub record HasDemo (before : Before) (after : After) (n : ℕ) (seed : List ℕ) : Type 0 where
  pub circuit : Wiring GoldElement
  pub bytes : List ℕ
  pub is : IsDemo n seed circuit bytes
  pub done : after.status ≡ 0
  pub printed : Appends before.sink.written (demo_line n (length circuit.layers) (length bytes)) after.sink.written

-- The words of `demo` end so for every number of inputs that they take and every seed, or a write failed, or there was
-- no memory. Neither shelf nor sink need tell its contents.
abbrev pub DemoIsAccepted : Before → After → Type 0
DemoIsAccepted before after =
    (count seed : List ℕ) → command_of before.words ≡ Some (Demo count seed)
    → HasDemo before after (number_of count) (seed_of seed)
    ⊎ (((after.status ≡ 5) × WriteFailed before.sink after.sink) ⊎ (after.status ≡ 6))
