-- The tape (the profile in docs/FORMATS.md, section 7): what each write appends, and what each draw gives.
use Rattle.std.specs.Prelude.{ℕ, ◌+◌, ◌%◌, ◌^◌, List, [], ◌∷◌, ◌++◌, cond, nat_eq, length, replicate}
use Rattle.sha2.specs.Sha256.{sha256}
use Rattle.lzk_aes.specs.Aes.{aes}
use Rattle.lzk_field.specs.Bytes.{bytes_of, number_from, elements_bytes}

-- a seed of 32 bytes, the bytes pending since that seed, and a counter
pub record TapeState : Type 0 where
  pub seed : List ℕ
  pub pending : List ℕ
  pub counter : ℕ

-- the tape of a seed
unfoldable pub of_seed : List ℕ → TapeState
of_seed s = record { seed = s; pending = []; counter = 0 }

-- the new tape: a seed of zeros
unfoldable pub new_tape : TapeState
new_tape = of_seed (replicate 32 0)

-- these bytes are appended to the pending ones
unfoldable pub appended : List ℕ → TapeState → TapeState
appended more t = record { seed = t.seed; pending = t.pending ++ more; counter = t.counter }

-- what a byte list appends: its mark, its length in eight bytes, the list
unfoldable pub bytes_entry : List ℕ → List ℕ
bytes_entry b = 0 ∷ bytes_of 8 (length b) ++ b

-- what an element of so many bytes appends, by its number: its mark, its bytes
unfoldable pub element_entry : ℕ → ℕ → List ℕ
element_entry width n = 1 ∷ bytes_of width n

-- what a list of elements appends, by their numbers: its mark, how many they are in eight bytes, their bytes
unfoldable pub array_entry : ℕ → List ℕ → List ℕ
array_entry width ns = 2 ∷ bytes_of 8 (length ns) ++ elements_bytes width ns

-- what a draw does first: where bytes are pending, the seed becomes the hash of the seed and these bytes
unfoldable pub flushed : TapeState → TapeState
flushed t = cond (nat_eq (length t.pending) 0) t (of_seed (sha256 (t.seed ++ t.pending)))

-- the number that a draw gives: the counter's block under the seed, the lowest byte first
unfoldable pub drawn : TapeState → ℕ
drawn t = number_from (aes (flushed t).seed (bytes_of 16 (flushed t).counter))

-- the tape after a draw: the counter goes up by one
unfoldable pub after_draw : TapeState → TapeState
after_draw t = record {
  seed = (flushed t).seed;
  pending = (flushed t).pending;
  counter = ((flushed t).counter + 1) % 2 ^ 128;
}
