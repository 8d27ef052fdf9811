-- Where the words of one compression stand among the private inputs. In order: the inputs that it is given, W 16 to W
-- 63 with carries of 2 bits, for each round A and E with carries of 3 bits, and the eight words of the result with
-- carries of 1 bit. The most significant bit of each word, carry and byte comes first.
use Rattle.std.specs.Prelude.{◌≡◌, ℕ, zero, suc, ◌+◌, ◌-◌, ◌*◌, ◌/◌, ◌%◌, ◌<◌, ◌≤◌, nat_lt, if◌then◌else◌, List, length, map, slice_index, slice_index_or}
use Rattle.std.specs.List.{range_with_len}
use Rattle.std.specs.Int.{bit_at}
use Rattle.sha2.specs.Sha256.{padding, initial_hash_256}
use Rattle.lzk_sha_circuit.specs.declared.bit.Bit.{Bit}
use Rattle.lzk_sha_circuit.specs.declared.bit.Bit.TheVariants.{Zero, One, Input}

-- ---- what is given: so many private inputs, and where among them, or as constants, the bits of the state and of the
-- block are found
pub record Places : Type 0 where
  pub inputs : ℕ
  pub state : List Bit
  pub block : List Bit

-- an input bit is one of the first n
abbrev pub IsBitOf : ℕ → Bit → Type 0
IsBitOf n x = (j : ℕ) → x ≡ Input j → j < n

-- bit j of a list of bits
abbrev pub bit_of : List Bit → ℕ → Bit
bit_of bits j = slice_index_or bits j Zero

abbrev pub AreBitsOf : ℕ → List Bit → Type 0
AreBitsOf n bits = (j : ℕ) → IsBitOf n (bit_of bits j)

-- the state has eight words, the block 64 bytes, and both are found among the inputs
pub record IsPlaced (given : Places) : Type 0 where
  pub few : given.inputs ≤ 768
  pub state_bits : length given.state ≡ 256
  pub block_bits : length given.block ≡ 512
  pub state_within : AreBitsOf given.inputs given.state
  pub block_within : AreBitsOf given.inputs given.block

-- ---- the one block of a message of so many bytes, from the initial hash value

abbrev pub bit_constant : ℕ → Bit
bit_constant zero = Zero
bit_constant (suc n) = One

-- the bits past the message are those of its padding
abbrev pub message_bit : ℕ → ℕ → Bit
message_bit len j =
    if nat_lt j (8 * len) then Input j else bit_constant (bit_at (slice_index (padding len) (j / 8 - len)) (7 - j % 8))

unfoldable pub message_block : ℕ → List Bit
message_block len = map (message_bit len) (range_with_len 0 512)

-- the bits of words, each word's most significant first
abbrev pub word_bits : List ℕ → List ℕ
word_bits words = map (λ j. bit_at (slice_index words (j / 32)) (31 - j % 32)) (range_with_len 0 (32 * length words))

unfoldable pub initial_state : List Bit
initial_state =
    map (λ j. bit_constant (bit_at (slice_index initial_hash_256 (j / 32)) (31 - j % 32))) (range_with_len 0 256)

abbrev pub message_places : ℕ → Places
message_places len = record { inputs = 8 * len; state = initial_state; block = message_block len }

-- ---- the words

abbrev pub private_count : ℕ → ℕ
private_count len = 8 * len + 6376

-- how many private inputs there are
abbrev pub total_count : Places → ℕ
total_count given = given.inputs + 6376

-- where W t begins, t being from 16 to 63
abbrev pub w_place : Places → ℕ → ℕ
w_place given t = given.inputs + 34 * (t - 16)

-- where A t and E t begin
abbrev pub a_place : Places → ℕ → ℕ
a_place given t = given.inputs + 1632 + 70 * t

abbrev pub e_place : Places → ℕ → ℕ
e_place given t = given.inputs + 1632 + 70 * t + 35

-- where word i of the result begins
abbrev pub f_place : Places → ℕ → ℕ
f_place given i = given.inputs + 6112 + 33 * i

-- n bits from a place on
abbrev pub bits_from : {A : Type 0} → (ℕ → A) → ℕ → ℕ → ℕ → A
bits_from input place n i = input (place + (n - 1 - i))

module _ {A : Type 0} (element : ℕ → A) where
  -- the value of a bit
  abbrev pub bit_value : (ℕ → A) → Bit → A
  bit_value input Zero = element 0
  bit_value input One = element 1
  bit_value input (Input j) = input j

  module _ (given : Places) (input : ℕ → A) where
    -- bit j of the state, bit 0 being the most significant one of the first word
    abbrev pub state_bit : ℕ → A
    state_bit j = bit_value input (bit_of given.state j)

    -- bit j of the block, bit 0 being the most significant one of the first byte
    abbrev pub block_bit : ℕ → A
    block_bit j = bit_value input (bit_of given.block j)

    -- W t: the first 16 words are the block
    abbrev pub schedule_word : ℕ → ℕ → A
    schedule_word t i = if nat_lt t 16 then block_bit (32 * t + (31 - i)) else bits_from input (w_place given t) 32 i

    -- A (s - 4), where A (-1) to A (-4) are the first four words of the state
    abbrev pub a_word : ℕ → ℕ → A
    a_word s i =
        if nat_lt s 4 then state_bit (32 * (3 - s) + (31 - i)) else bits_from input (a_place given (s - 4)) 32 i

    -- E (s - 4), where E (-1) to E (-4) are the last four words of the state
    abbrev pub e_word : ℕ → ℕ → A
    e_word s i =
        if nat_lt s 4 then state_bit (32 * (7 - s) + (31 - i)) else bits_from input (e_place given (s - 4)) 32 i

    -- word i of the state
    abbrev pub start_word : ℕ → ℕ → A
    start_word i j = state_bit (32 * i + (31 - j))

    -- word i of A 63, A 62, A 61, A 60, E 63, E 62, E 61, E 60
    abbrev pub last_word : ℕ → ℕ → A
    last_word i = if nat_lt i 4 then a_word (67 - i) else e_word (71 - i)

    -- word i of the result
    abbrev pub final_word : ℕ → ℕ → A
    final_word i = bits_from input (f_place given i) 32
