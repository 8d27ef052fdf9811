-- One level of a path, in terms of elements. Its private inputs are the bits of the left and of the right child, each
-- word's most significant first, the side on which the node below stands, and the rest of the compression.
use Rattle.std.specs.Prelude.{◌≡◌, ℕ, zero, suc, ◌+◌, ◌-◌, ◌*◌, ◌/◌, ◌%◌, ◌<◌, List, [], ◌∷◌, ◌++◌, map, slice_index}
use Rattle.std.specs.List.{range_with_len}
use Rattle.std.specs.Int.{bit_at}
use Rattle.lzk_field.specs.Sums.{entry}
use Rattle.lzk_goldilocks.specs.Elements.{ops, of_number}
use Rattle.lzk_goldilocks.specs.declared.element.Gold.{Gold}
use Rattle.lzk_sha_circuit.specs.declared.bit.Bit.{Bit}
use Rattle.lzk_sha_circuit.specs.declared.bit.Bit.TheVariants.{Input}
use Rattle.lzk_sha_circuit.specs.Outputs.{AreCompressing}
use Rattle.lzk_sha_circuit.specs.Places.{Places, bit_constant}
use Rattle.lzk_sha_path.specs.Roots.{node_state}

-- what n entries from a place on are worth as the bits of a number, the most significant first
unfoldable pub bits_worth : List Gold → ℕ → ℕ → Gold
bits_worth xs at zero = ops.zero
bits_worth xs at (suc n) =
    ops.plus (ops.times ops.one (entry ops xs (at + n))) (ops.times (of_number 2) (bits_worth xs at n))

-- the side on which the node below stands: 0 on the left, 1 on the right
abbrev pub side : List Gold → ℕ
side private = (entry ops private 512).n

-- word i of the child on that side
abbrev pub chosen_word : List Gold → ℕ → Gold
chosen_word private i = bits_worth private (256 * side private + 32 * i) 32

-- the first eight of these are the words of the child on that side
abbrev pub AreChosen : List Gold → List Gold → Type 0
AreChosen words private = (i : ℕ) → i < 8 → entry ops words i ≡ chosen_word private i

-- the bits of the state from which nodes are made, as constants, each word's most significant first
unfoldable pub node_bits : List Bit
node_bits = map (λ j. bit_constant (bit_at (slice_index node_state (j / 32)) (31 - j % 32))) (range_with_len 0 256)

-- the compression finds this state, and a block whose bits stand first
unfoldable pub block_bits : List Bit
block_bits = map Input (range_with_len 0 512)

abbrev pub level_places : Places
level_places = record { inputs = 513; state = node_bits; block = block_bits }

-- the words of a node, and of the node above it
pub record IsLevel (node above private : List Gold) : Type 0 where
  pub compressed : AreCompressing ops of_number level_places above private
  pub chosen : AreChosen node private

-- bit j of a block, the most significant of each byte first
abbrev pub block_number : List ℕ → ℕ → ℕ
block_number block j = bit_at (slice_index block (j / 8)) (7 - j % 8)

-- the first private inputs: the bits of a block, and a side
abbrev pub first_inputs : List ℕ → ℕ → List Gold
first_inputs block d = map (λ j. of_number (block_number block j)) (range_with_len 0 512) ++ of_number d ∷ []
