-- What the code's 32-bit words stand for: four bytes, the first the lowest.
use Rattle.std.specs.Prelude.{ℕ, List, [], ◌∷◌, ◌++◌, map, take}
use Rattle.std.specs.List.{concat}
use Rattle.std.specs.Int.{w32, to_le_bytes, byte_at}
use Rattle.lzk_aes.specs.Bytes.{times, sbox}

-- a word's bytes
abbrev pub word_bytes : ℕ → List ℕ
word_bytes w = to_le_bytes w32 w

-- the key that these key words begin with
abbrev pub key_of : List ℕ → List ℕ
key_of ws = concat (map word_bytes (take 8 ws))

-- the bytes of four columns
abbrev pub state_bytes : ℕ → ℕ → ℕ → ℕ → List ℕ
state_bytes a b c d = word_bytes a ++ word_bytes b ++ word_bytes c ++ word_bytes d

-- a byte through the S-box, times each of these factors
abbrev pub products : List ℕ → ℕ → List ℕ
products factors b = map (λ m. times m (sbox b)) factors

-- what SubBytes and ShiftRows bring into one column: row 0 of a, row 1 of b, row 2 of c and row 3 of d
abbrev pub gathered : ℕ → ℕ → ℕ → ℕ → List ℕ
gathered a b c d = sbox (byte_at 0 a) ∷ sbox (byte_at 1 b) ∷ sbox (byte_at 2 c) ∷ sbox (byte_at 3 d) ∷ []
