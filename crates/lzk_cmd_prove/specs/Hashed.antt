-- How a run ends that proves for a message.
use Rattle.std.specs.Prelude.{◌≡◌, ◌==◌, ◌&&◌, ℕ, Bool, List, length, map, Option, Some, MatchBool}
use Rattle.sha2.specs.Sha256.{sha256}
use Rattle.lzk_circbytes.specs.declared.any.AnyCircuit.{AnyCircuit}
use Rattle.lzk_circbytes.specs.declared.any.AnyCircuit.TheVariants.{Gold, Gf}
use Rattle.lzk_circuit.specs.Valid.{Wiring}
use Rattle.lzk_goldilocks.specs.declared.element.Gold.{Gold as GoldElement}
use Rattle.lzk_goldilocks.specs.Elements as gold
use Rattle.lzk_outside.specs.Outside.{Files}
use Rattle.lzk_sha_circuit.specs.Digest.{digest_words}
use Rattle.lzk_sha_circuit.specs.Inputs.{sha_private}
use Rattle.lzk_sha_circuit.specs.Places.{private_count}
use Rattle.lzk_cmd_files.specs.Decoded.{circuit_files}
use Rattle.lzk_cmd_files.specs.Ends.{End, says, Stop}
use Rattle.lzk_cmd_files.specs.Formats.{At}
use Rattle.lzk_cmd_files.specs.Lines.{unfit_line}
use Rattle.lzk_cmd_prove.specs.Proved.{Proves, gold_word}
use Rattle.lzk_cmd_words.specs.Digits.{message_of, seed_of, session_of}
use Rattle.lzk_cmd_verify.specs.Verified.{gold_coding}

-- the public inputs of a message are the words of its digest
abbrev pub digest_inputs : List ℕ → List GoldElement
digest_inputs message = map gold.of_number (digest_words message)

-- whether a circuit has the counts of messages of so many bytes
abbrev pub is_for : ℕ → Wiring GoldElement → Bool
is_for len c = (c.publics == 8) && (c.privates == private_count len)

-- the walk has a circuit of these counts: it proves on the message's digest and the words that lead to it, and tells
-- the digest
abbrev pub ProvesHash : Wiring GoldElement → List ℕ → List ℕ → List ℕ → List ℕ → Stop → End → Type 0
ProvesHash c message proof session seed =
    Proves gold.ops gold_coding c proof (Some (sha256 message)) session (gold_word seed) (digest_inputs message)
    (sha_private gold.of_number message)

-- the walk has a circuit under a name: it proves for the message, or refuses a circuit of other counts or another field
abbrev pub HashAny : List ℕ → AnyCircuit → List ℕ → List ℕ → List ℕ → List ℕ → Stop → End → Type 0
HashAny name (Gold c) message proof session seed stop end =
    MatchBool (is_for (length message) c) (ProvesHash c message proof session seed stop end)
    (end ≡ says 3 (unfit_line name (length message)))
HashAny name (Gf c) message proof session seed stop end = end ≡ says 3 (unfit_line name (length message))

unfoldable pub HashRun : List ℕ → List ℕ → List ℕ → List ℕ → Option (List ℕ) → Files → Stop → End → Type 0
HashRun circuit proof message seed session files stop end =
    At circuit_files files stop 0 circuit end
    (λ c. HashAny circuit c (message_of message) proof (session_of session) (seed_of seed) stop end)
