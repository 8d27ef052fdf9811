-- AES-256 (FIPS 197) on lists of bytes. The state has 16 bytes: byte i stands in row i % 4 and column i / 4.
use Rattle.std.specs.Prelude.{ℕ, zero, suc, ◌+◌, ◌-◌, ◌*◌, ◌/◌, ◌%◌, ◌^◌, cond, nat_eq, nat_lt, List, [], ◌∷◌, ◌++◌, map, take, drop, bit_xor, slice_index, slice_index_or}
use Rattle.lzk_aes.specs.Bytes.{times, sbox}

-- the exclusive or of two lists, byte by byte
abbrev pub xor_bytes : List ℕ → List ℕ → List ℕ
xor_bytes [] ys = []
xor_bytes (x ∷ xs) [] = []
xor_bytes (x ∷ xs) (y ∷ ys) = bit_xor x y ∷ xor_bytes xs ys

-- the state's byte in this column and row
abbrev pub entry : List ℕ → ℕ → ℕ → ℕ
entry s column row = slice_index s (4 * column + row)

-- the column with these entries, by row
abbrev pub column_of : (ℕ → ℕ) → List ℕ
column_of f = f 0 ∷ f 1 ∷ f 2 ∷ f 3 ∷ []

-- the state with these entries, by column and row
abbrev pub state_of : (ℕ → ℕ → ℕ) → List ℕ
state_of f = column_of (f 0) ++ column_of (f 1) ++ column_of (f 2) ++ column_of (f 3)

-- SubBytes: each byte through the S-box
abbrev pub sub_bytes : List ℕ → List ℕ
sub_bytes s = map sbox s

-- ShiftRows: each row moved left by its number of places
unfoldable pub shift_rows : List ℕ → List ℕ
shift_rows s = state_of (λ column row. entry s ((column + row) % 4) row)

-- the rows of the matrix of MixColumns
abbrev pub matrix : List (List ℕ)
matrix =
    (2 ∷ 3 ∷ 1 ∷ 1 ∷ [])
    ∷ (1 ∷ 2 ∷ 3 ∷ 1 ∷ [])
    ∷ (1 ∷ 1 ∷ 2 ∷ 3 ∷ [])
    ∷ (3 ∷ 1 ∷ 1 ∷ 2 ∷ [])
    ∷ []

-- a row of a matrix times a column, over GF(2^8)
abbrev pub row_times : List ℕ → List ℕ → ℕ
row_times [] ys = 0
row_times (m ∷ ms) [] = 0
row_times (m ∷ ms) (y ∷ ys) = bit_xor (times m y) (row_times ms ys)

-- the matrix times a column
abbrev pub mix_column : List ℕ → List ℕ
mix_column c = map (λ row. row_times row c) matrix

-- MixColumns: each column times the matrix
unfoldable pub mix_columns : List ℕ → List ℕ
mix_columns s =
    mix_column (column_of (entry s 0)) ++ mix_column (column_of (entry s 1))
    ++ mix_column (column_of (entry s 2)) ++ mix_column (column_of (entry s 3))

-- a word of four bytes moved left by one place
abbrev pub rot_word : List ℕ → List ℕ
rot_word [] = []
rot_word (b ∷ bs) = bs ++ b ∷ []

-- a word with each byte through the S-box
abbrev pub sub_word : List ℕ → List ℕ
sub_word w = map sbox w

-- the round constant j, from 1 to 7
abbrev pub round_constant : ℕ → List ℕ
round_constant j = 2 ^ (j - 1) ∷ 0 ∷ 0 ∷ 0 ∷ []

-- what key word i adds to word i - 8, where word i - 1 is t
unfoldable pub key_mask : ℕ → List ℕ → List ℕ
key_mask i t =
    cond (nat_eq (i % 8) 0) (xor_bytes (sub_word (rot_word t)) (round_constant (i / 8)))
    (cond (nat_eq (i % 8) 4) (sub_word t) t)

-- key word i of this key, after the words ws before it
unfoldable pub next_key_word : List ℕ → List (List ℕ) → ℕ → List ℕ
next_key_word key ws i =
    cond (nat_lt i 8) (take 4 (drop (4 * i) key))
    (xor_bytes (slice_index_or ws (i - 8) []) (key_mask i (slice_index_or ws (i - 1) [])))

-- KeyExpansion: the first n key words
unfoldable pub key_words : List ℕ → ℕ → List (List ℕ)
key_words key zero = []
key_words key (suc n) = key_words key n ++ next_key_word key (key_words key n) n ∷ []

-- the round key r: four key words, one a column
abbrev pub round_key : List (List ℕ) → ℕ → List ℕ
round_key ws r =
    slice_index_or ws (4 * r) [] ++ slice_index_or ws (4 * r + 1) []
    ++ slice_index_or ws (4 * r + 2) [] ++ slice_index_or ws (4 * r + 3) []

-- AddRoundKey: the state exclusive or the round key r
abbrev pub add_round_key : List (List ℕ) → ℕ → List ℕ → List ℕ
add_round_key ws r s = xor_bytes s (round_key ws r)

-- round r of those that mix columns
abbrev pub round : List (List ℕ) → ℕ → List ℕ → List ℕ
round ws r s = add_round_key ws r (mix_columns (shift_rows (sub_bytes s)))

-- the state after the first n rounds that mix columns; before them stands the round key 0
unfoldable pub after_round : List (List ℕ) → List ℕ → ℕ → List ℕ
after_round ws block zero = add_round_key ws 0 block
after_round ws block (suc n) = round ws (suc n) (after_round ws block n)

-- the block under these 60 key words: 13 rounds, and the last round that mixes no columns
abbrev pub cipher : List (List ℕ) → List ℕ → List ℕ
cipher ws block = add_round_key ws 14 (shift_rows (sub_bytes (after_round ws block 13)))

-- AES-256: the block under a key of 32 bytes
unfoldable pub aes : List ℕ → List ℕ → List ℕ
aes key block = cipher (key_words key 60) block
