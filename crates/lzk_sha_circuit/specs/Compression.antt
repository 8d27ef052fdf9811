-- What the circuit of one compression claims.
use Rattle.std.specs.Prelude.{◌≡◌, ℕ, ◌+◌, ◌/◌, ◌%◌, ◌^◌, ◌<◌, ◌⊎◌, ◌↔◌, List, [], ◌∷◌, ◌++◌, map, length, slice_index, EachIndex}
use Rattle.std.specs.List.{range_with_len}
use Rattle.lzk_field.specs.Ring.{Ops}
use Rattle.lzk_field.specs.Sums.{entry}
use Rattle.sha2.specs.Sha256.{compress}
use Rattle.lzk_sha_circuit.specs.declared.bit.Bit.{Bit}
use Rattle.lzk_sha_circuit.specs.declared.bit.Bit.TheVariants.{Input}
use Rattle.lzk_sha_circuit.specs.Digest.{AreBytes, message_bits}
use Rattle.lzk_sha_circuit.specs.Outputs.{AreCompressing}
use Rattle.lzk_sha_circuit.specs.Places.{Places, IsPlaced, word_bits, bit_value, f_place, total_count}

-- a state: eight words of 32 bits
pub record IsState (state : List ℕ) : Type 0 where
  pub eight : length state ≡ 8
  pub words : EachIndex state (λ k. slice_index state k < 2 ^ 32)

-- a block: 64 bytes
pub record IsBlock (block : List ℕ) : Type 0 where
  pub long : length block ≡ 64
  pub bytes : AreBytes block

-- where the bits of the result stand, each word's most significant first
unfoldable pub result_bits : Places → List Bit
result_bits given = map (λ j. Input (f_place given (j / 32) + j % 32)) (range_with_len 0 256)

module _ {A : Type 0} (o : Ops A) (element : ℕ → A) where
  -- the values of bits
  abbrev pub found : List A → List Bit → List A
  found private bits = map (bit_value element (entry o private)) bits

  -- 0 or 1
  abbrev pub AreBits : List A → Type 0
  AreBits [] = Unit {0}
  AreBits (x ∷ xs) = ((x ≡ element 0) ⊎ (x ≡ element 1)) × AreBits xs

  -- the circuit finds this state and this block
  pub record Finds (given : Places) (private : List A) (state block : List ℕ) : Type 0 where
    pub is_state : IsState state
    pub is_block : IsBlock block
    pub found_state : found private given.state ≡ map element (word_bits state)
    pub found_block : found private given.block ≡ map element (message_bits block)

  -- and the public inputs are the words behind the block, whose bits stand among the private inputs too
  pub record IsCompression (given : Places) (public private : List A) (state block : List ℕ) : Type 0 where
    pub finds : Finds given private state block
    pub words : public ≡ map element (compress state block)
    pub bits : found private (result_bits given) ≡ map element (word_bits (compress state block))

  -- where all outputs are 0, the public inputs are the words behind whatever block it finds, from whatever state
  abbrev pub FoundIsCompressed : Type 0
  FoundIsCompressed =
      (given : Places) (public private : List A) (state block : List ℕ) → IsPlaced given → length public ≡ 8
      → AreCompressing o element given public private → Finds given private state block
      → IsCompression given public private state block

  -- where all outputs are 0, the private inputs are bits, and the public inputs are what they say
  abbrev pub SatisfiedIsCompression : Type 0
  SatisfiedIsCompression =
      (given : Places) (public private : List A) → IsPlaced given → length public ≡ 8
      → length private ≡ total_count given → AreCompressing o element given public private
      → AreBits private × ((state : List ℕ) × (block : List ℕ) × IsCompression given public private state block)

  -- inputs that it is given are completed to such at which all outputs are 0 exactly where they are bits, and it finds
  -- a state and a block at them, and the public inputs are the words behind the block
  abbrev pub IsSatisfiedExactly : Type 0
  IsSatisfiedExactly =
      (given : Places) (public first : List A) → IsPlaced given → length public ≡ 8 → length first ≡ given.inputs
      → ((further : List A) × (length further ≡ 6376) × AreCompressing o element given public (first ++ further))
      ↔ (AreBits first
      × ((state : List ℕ)
      × (block : List ℕ)
      × Finds given first state block
      × (public ≡ map element (compress state block))))
