-- Where all outputs are 0, the private inputs have a state and a block, and the public inputs are the words of the state behind it.
use Rattle.std.specs.Prelude.{◌≡◌, ℕ, ◌+◌, ◌-◌, ◌*◌, ◌/◌, ◌%◌, ◌^◌, ◌<◌, ◌≤◌, List, length, map, slice_index}
use Rattle.std.specs.List.{range_with_len}
use Rattle.std.specs.Int.{bit_at}
use Rattle.std.proofs.Common.{refl, sym, ap, ◌∙◌, arith, subst, ext_get_or}
use Rattle.std.proofs.lemmas.List.{length-map, get_or-map}
use Rattle.std.proofs.lemmas.List.FromFn.{length-map-range_with_len, get_or-map-range_with_len}
use Rattle.lzk_field.specs.Ring.{Ops}
use Rattle.lzk_field.specs.Sums.{entry}
use Rattle.sha2.specs.Sha256.{compress}
use Rattle.lzk_sha_circuit.specs.declared.bit.Bit.TheVariants.{Zero, Input}
use Rattle.lzk_sha_circuit.specs.Places.{Places, IsPlaced, bit_of, bit_value, block_bit, start_word, final_word, f_place}
use Rattle.lzk_sha_circuit.specs.Digest.{AreBytes}
use Rattle.lzk_sha_circuit.specs.Compression.{Finds, IsCompression, result_bits, FoundIsCompressed, SatisfiedIsCompression}
use Rattle.lzk_sha_circuit.proofs.Numbered.{Numbered, IsBit}
use Rattle.lzk_sha_circuit.proofs.Held.{Held, held_from_bits}
use Rattle.lzk_sha_circuit.proofs.Found.{found_is, are_bits, held_start, block_value}
use Rattle.lzk_sha_circuit.proofs.Parts.{Parts, parts_of}
use Rattle.lzk_sha_circuit.proofs.Soundness.{spelled, length-spelled, spelled_bytes, spelled_bit, input_bit, held_result, public_is}
use Rattle.lzk_sha_circuit.proofs.Traces.{start_word_bit, block_bit_bit}

pub length-compress : (state block : List ℕ) → length (compress state block) ≡ 8
unfolding compress
length-compress state block = refl

-- ---- whatever state and block are found, the public inputs are the words behind it
module _ {A : Type 0} (o : Ops A) (element : ℕ → A) (size : ℕ) (h : Numbered o element size) (big : 8 * 2 ^ 32 ≤ size)
    (given : Places) (placed : IsPlaced given) (public private : List A) (short : length public ≡ 8) (p : Parts o element given public private)
    (state block : List ℕ) (finds : Finds o element given private state block) where
  result : List ℕ
  result = compress state block

  length-result : length result ≡ 8
  unfolding result
  length-result = length-compress state block

  held_final : (i : ℕ) → i < 8 → Held element 32 (final_word element given (entry o private) i) (slice_index (compress state block) i)
  held_final =
      held_result o element size h big given public private p state block finds.is_state.eight finds.is_block.long finds.is_block.bytes
      (held_start o element given placed private state block finds) (block_value o element given placed private state block finds)

  public_at : (i : ℕ) → i < 8 → entry o public i ≡ element (slice_index (compress state block) i)
  public_at =
      public_is o element size h big given public private p state block finds.is_state.eight finds.is_block.long finds.is_block.bytes
      (held_start o element given placed private state block finds) (block_value o element given placed private state block finds)

  result_bit : (j : ℕ) → j < 32 * length result → bit_value element (entry o private) (bit_of (result_bits given) j) ≡ element (bit_at (slice_index result (j / 32)) (31 - j % 32))
  unfolding result result_bits
  result_bit j lt =
      let f = λ (i : ℕ). Input (f_place given (i / 32) + i % 32) in
      let few : j < 256 = omega (arith, length-result, lt) in
      let k : j / 32 < 8 = omega (arith, few) in
      let there : f_place given (j / 32) + j % 32 ≡ f_place given (j / 32) + (32 - 1 - (31 - j % 32)) = omega arith in
      ap (bit_value element (entry o private)) (get_or-map-range_with_len f 0 256 j j Zero few (omega arith))
      ∙ ap (entry o private) there
      ∙ (held_final (j / 32) k).bits (31 - j % 32) (omega arith)

  length-result_bits : length (result_bits given) ≡ 256
  unfolding result_bits
  length-result_bits = length-map-range_with_len (λ i. Input (f_place given (i / 32) + i % 32)) 0 256

  pub found_compression : IsCompression o element given public private state block
  unfolding result
  found_compression = record {
    finds = finds;
    words =
        ext_get_or o.zero public (map element (compress state block)) (short ∙ sym (length-map (compress state block) element ∙ length-result)) (λ i lt.
        let few : i < 8 = omega (arith, short, lt) in
        public_at i few ∙ sym (get_or-map element (compress state block) i 0 o.zero (omega (arith, length-result, few))));
    bits = found_is o element private (result_bits given) (32 * length result) (λ j. bit_at (slice_index result (j / 32)) (31 - j % 32)) (omega (arith, length-result, length-result_bits)) result_bit;
  }

-- ---- and there are such a state and such a block
module _ {A : Type 0} (o : Ops A) (element : ℕ → A) (size : ℕ) (h : Numbered o element size) (big : 8 * 2 ^ 32 ≤ size)
    (given : Places) (placed : IsPlaced given) (public private : List A) (short : length public ≡ 8) (p : Parts o element given public private) where
  input : ℕ → A
  input = entry o private

  bit : (j : ℕ) → IsBit element (input j)
  unfolding input
  bit = input_bit o element size h given public private p

  word_held : (k : ℕ) → (n : ℕ) × Held element 32 (start_word element given input k) n
  word_held k = held_from_bits element 32 (start_word element given input k) (start_word_bit element given input bit k)

  word : ℕ → ℕ
  word k = (word_held k).0

  pub state : List ℕ
  state = map word (range_with_len 0 8)

  length-state : length state ≡ 8
  unfolding state
  length-state = length-map-range_with_len word 0 8

  word_is : (k : ℕ) → k < 8 → slice_index state k ≡ word k
  unfolding state
  word_is k lt = get_or-map-range_with_len word 0 8 k k 0 lt (omega arith)

  held_state : (k : ℕ) → k < 8 → Held element 32 (start_word element given (entry o private) k) (slice_index state k)
  unfolding input word
  held_state k lt = subst (λ n. Held element 32 (start_word element given (entry o private) k) n) (sym (word_is k lt)) (word_held k).1

  pub block : List ℕ
  block = spelled element 64 (block_bit element given input) (block_bit_bit element given input bit)

  length-block : length block ≡ 64
  unfolding block
  length-block = length-spelled element 64 (block_bit element given input) (block_bit_bit element given input bit)

  bytes : AreBytes block
  unfolding block
  bytes = spelled_bytes element 64 (block_bit element given input) (block_bit_bit element given input bit)

  block_bits : (j : ℕ) → j < 512 → block_bit element given (entry o private) j ≡ element (bit_at (slice_index block (j / 8)) (7 - j % 8))
  unfolding block input
  block_bits j lt = spelled_bit element 64 (block_bit element given input) (block_bit_bit element given input bit) j (omega (arith, lt))

  -- word k of a list whose words are held
  word_bit : (w : ℕ → A) (n j : ℕ) → Held element 32 w n → w (31 - j % 32) ≡ element (bit_at n (31 - j % 32))
  word_bit w n j held = held.bits (31 - j % 32) (omega arith)

  state_found : (j : ℕ) → j < 32 * length state → bit_value element (entry o private) (bit_of given.state j) ≡ element (bit_at (slice_index state (j / 32)) (31 - j % 32))
  state_found j lt =
      let k : j / 32 < 8 = omega (arith, length-state, lt) in
      let there : j ≡ 32 * (j / 32) + (31 - (31 - j % 32)) = omega arith in
      ap (λ i. bit_value element (entry o private) (bit_of given.state i)) there
      ∙ word_bit (start_word element given (entry o private) (j / 32)) (slice_index state (j / 32)) j (held_state (j / 32) k)

  pub finds : Finds o element given private state block
  finds = record {
    is_state = record {
      eight = length-state;
      words = λ k lt. (held_state k (omega (arith, length-state, lt))).below;
    };
    is_block = record { long = length-block; bytes = bytes };
    found_state = found_is o element private given.state (32 * length state) (λ j. bit_at (slice_index state (j / 32)) (31 - j % 32)) (let b = placed.state_bits in omega (arith, b, length-state)) state_found;
    found_block =
        found_is o element private given.block (8 * length block) (λ j. bit_at (slice_index block (j / 8)) (7 - j % 8)) (let b = placed.block_bits in omega (arith, b, length-block))
        (λ j lt. block_bits j (omega (arith, length-block, lt)));
  }

pub found_is_compressed : {A : Type 0} (o : Ops A) (element : ℕ → A) (size : ℕ) → Numbered o element size → 8 * 2 ^ 32 ≤ size → FoundIsCompressed o element
found_is_compressed o element size h big given public private state block placed short zeros finds =
    found_compression o element size h big given placed public private short (parts_of o element given public private zeros) state block finds

pub satisfied_is_compression : {A : Type 0} (o : Ops A) (element : ℕ → A) (size : ℕ) → Numbered o element size → 8 * 2 ^ 32 ≤ size → SatisfiedIsCompression o element
satisfied_is_compression o element size h big given public private placed short long zeros =
    let p = parts_of o element given public private zeros in
    let is = finds o element size h big given placed public private short p in (
      are_bits o element private (λ j lt. input_bit o element size h given public private p j),
      (_, _, found_compression o element size h big given placed public private short p _ _ is),
    )
