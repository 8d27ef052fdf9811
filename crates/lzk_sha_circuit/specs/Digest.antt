-- A message among the private inputs, and its digest as public inputs.
use Rattle.std.specs.Prelude.{◌≡◌, ℕ, ◌-◌, ◌*◌, ◌/◌, ◌%◌, ◌<◌, List, map, take, length, slice_index, EachIndex}
use Rattle.std.specs.List.{range_with_len}
use Rattle.std.specs.Int.{bit_at}
use Rattle.sha2.specs.Sha256.{sha256, word_at}

abbrev pub AreBytes : List ℕ → Type 0
AreBytes message = EachIndex message (λ k. slice_index message k < 256)

-- the bits of a message, byte by byte, the most significant first
abbrev pub message_bits : List ℕ → List ℕ
message_bits message =
    map (λ j. bit_at (slice_index message (j / 8)) (7 - j % 8)) (range_with_len 0 (8 * length message))

-- the eight words of a message's digest, big-endian
unfoldable pub digest_words : List ℕ → List ℕ
digest_words message = map (λ i. word_at (sha256 message) (4 * i)) (range_with_len 0 8)

-- the first private inputs are the bits of the message, and the public inputs the words of its digest
pub record HaveDigest {A : Type 0} (element : ℕ → A) (public private : List A) (message : List ℕ) : Type 0 where
  pub bits : take (8 * length message) private ≡ map element (message_bits message)
  pub words : public ≡ map element (digest_words message)
