-- How the blocks of a message stand beside one another. Behind the bits of the message, the private inputs have for
-- each block what its compression adds, and between two blocks the eight words of the state.
use Rattle.std.specs.Prelude.{ℕ, zero, suc, ◌+◌, ◌-◌, ◌*◌, ◌/◌, ◌%◌, nat_lt, if◌then◌else◌, List, map, slice_index}
use Rattle.std.specs.List.{range_with_len}
use Rattle.std.specs.Int.{bit_at}
use Rattle.sha2.specs.Sha256.{padding}
use Rattle.lzk_sha_circuit.specs.declared.bit.Bit.{Bit}
use Rattle.lzk_sha_circuit.specs.declared.bit.Bit.TheVariants.{Input}
use Rattle.lzk_sha_circuit.specs.Places.{Places, bit_constant, initial_state}

-- how many blocks the padded message has
abbrev pub blocks : ℕ → ℕ
blocks len = (len + 72) / 64

-- how many bytes of the message block i holds: at most 64
abbrev pub held : ℕ → ℕ → ℕ
held len i = len - 64 * i - (len - 64 * i - 64)

-- where what block i adds begins among the private inputs
abbrev pub added : ℕ → ℕ → ℕ
added len i = 8 * len + 6384 * i

-- how many private inputs there are
abbrev pub private_count : ℕ → ℕ
private_count len = added len (blocks len) - 8

-- ---- what block i is given: its bits of the message, and behind them those of the state, but for the first block

abbrev pub state_count : ℕ → ℕ
state_count zero = 0
state_count (suc i) = 256

abbrev pub given_count : ℕ → ℕ → ℕ
given_count len i = 8 * held len i + state_count i

-- bit j of the block, a constant where it is past the message
abbrev pub block_bit : ℕ → ℕ → ℕ → Bit
block_bit len i j =
    if nat_lt (512 * i + j) (8 * len) then Input j else bit_constant
    (bit_at (slice_index (padding len) ((512 * i + j) / 8 - len)) (7 - j % 8))

unfoldable pub block_bits : ℕ → ℕ → List Bit
block_bits len i = map (block_bit len i) (range_with_len 0 512)

unfoldable pub state_bits : ℕ → ℕ → List Bit
state_bits len zero = initial_state
state_bits len (suc i) = map (λ j. Input (8 * held len (suc i) + j)) (range_with_len 0 256)

abbrev pub block_places : ℕ → ℕ → Places
block_places len i = record { inputs = given_count len i; state = state_bits len i; block = block_bits len i }

-- ---- the wires of the whole's input layer that it sees: the one is wire 0, the public inputs follow, and then the
-- private ones

-- where word k of the state behind block i is: a public input behind the last one
abbrev pub public_wire : ℕ → ℕ → ℕ → ℕ
public_wire len i k = if nat_lt (i + 1) (blocks len) then 9 + added len i + 6376 + k else 1 + k

-- where bit j of the state behind block i is
abbrev pub state_wire : ℕ → ℕ → ℕ → ℕ
state_wire len i j = 9 + added len i + 6112 + 33 * (j / 32) + j % 32

-- where private input j of block i is
abbrev pub private_wire : ℕ → ℕ → ℕ → ℕ
private_wire len i j =
    if nat_lt j (8 * held len i) then 9 + 512 * i + j
    else if nat_lt j (given_count len i) then state_wire len (i - 1) (j - 8 * held len i)
    else 9 + added len i + (j - given_count len i)

abbrev pub public_wires : ℕ → ℕ → List ℕ
public_wires len i = map (public_wire len i) (range_with_len 0 8)

abbrev pub private_wires : ℕ → ℕ → List ℕ
private_wires len i = map (private_wire len i) (range_with_len 0 (given_count len i + 6376))
