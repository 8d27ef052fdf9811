-- The private inputs of a message of many blocks.
use Rattle.std.specs.Prelude.{ℕ, ◌-◌, ◌*◌, List, [], ◌++◌, length, map, take, drop}
use Rattle.std.specs.List.{range_with_len, flat_map}
use Rattle.sha2.specs.Sha256.{initial_hash_256, padded_message, hash_after}
use Rattle.lzk_sha_circuit.specs.Inputs.{bit_list, compression_private}
use Rattle.lzk_sha_blocks.specs.Layout.{blocks}

-- the state before block i, and the block
abbrev pub state_of : List ℕ → ℕ → List ℕ
state_of m i = hash_after initial_hash_256 (padded_message m) i

abbrev pub block_of : List ℕ → ℕ → List ℕ
block_of m i = take 64 (drop (i * 64) (padded_message m))

module _ {A : Type 0} (element : ℕ → A) (message : List ℕ) where
  -- what the compression of block i adds
  abbrev pub block_added : ℕ → List A
  block_added i = compression_private element [] (state_of message i) (block_of message i)

  -- the bits of the message, and what each block adds; before a block but the first stand the words of its state
  unfoldable pub digest_private : List A
  digest_private =
      flat_map (bit_list element 8) message ++ (block_added 0 ++ flat_map
      (λ i. map element (state_of message i) ++ block_added i) (range_with_len 1 (blocks (length message) - 1)))
