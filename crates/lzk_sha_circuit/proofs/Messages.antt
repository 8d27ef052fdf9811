-- The circuit for messages of one block: where all outputs are 0 the private inputs begin with a message, and the public inputs are the words of its
-- digest; and the inputs of every message are such.
use Rattle.std.specs.Prelude.{◌≡◌, ℕ, ◌-◌, ◌*◌, ◌/◌, ◌%◌, ◌^◌, ◌<◌, ◌≤◌, List, length, map, slice_index}
use Rattle.std.specs.List.{range_with_len, flat_map}
use Rattle.std.specs.Int.{bit_at}
use Rattle.std.proofs.Common.{refl, sym, ap, ◌∙◌, arith, subst, mod-lt, ext_get_or}
use Rattle.std.proofs.lemmas.List.{length-map, get_or-map}
use Rattle.std.proofs.lemmas.List.FromFn.{length-map-range_with_len, get_or-map-range_with_len}
use Rattle.lzk_field.specs.Ring.{Ops}
use Rattle.lzk_field.specs.Sums.{entry}
use Rattle.sha2.specs.Sha256.{initial_hash_256, padded_message, padding, word_at, compress, sha256}
use Rattle.lzk_sha_circuit.specs.Compression.{Finds, AreBits}
use Rattle.lzk_sha_circuit.specs.Digest.{AreBytes, HaveDigest, digest_words}
use Rattle.lzk_sha_circuit.specs.Inputs.{bit_list, sha_private}
use Rattle.lzk_sha_circuit.specs.Outputs.{AreSatisfying}
use Rattle.lzk_sha_circuit.specs.Places.{private_count, message_places}
use Rattle.lzk_sha_circuit.proofs.Block.{message_bytes, padding_bytes, both_bytes}
use Rattle.lzk_sha_circuit.proofs.Chunks.{chunk_bits, bit_list_bits}
use Rattle.lzk_sha_circuit.proofs.Completeness.{compressing}
use Rattle.lzk_sha_circuit.proofs.Compressed.{length-compress}
use Rattle.lzk_sha_circuit.proofs.Digests.{digest_word, length-padded}
use Rattle.lzk_sha_circuit.proofs.Found.{found_is, are_bits}
use Rattle.lzk_sha_circuit.proofs.Lookups.{first_entry, length-compression_private, length-message, message_entry}
use Rattle.lzk_sha_circuit.proofs.MessagePlaces.{message_placed, length-initial_state, length-message_block, initial_value, held_initial, block_value}
use Rattle.lzk_sha_circuit.proofs.Numbered.{Numbered, IsBit}
use Rattle.lzk_sha_circuit.proofs.Parts.{Parts}
use Rattle.lzk_sha_circuit.proofs.Soundness.{spelled, length-spelled, spelled_bytes, spelled_bit, begins_with, input_bit, public_is}
use Rattle.lzk_sha_circuit.proofs.Standard.{eight_cases}
use Rattle.lzk_sha_circuit.proofs.WordSums.{initial_below}

-- ---- the words of the state behind the one block are those of the digest
pub compress_below : (state block : List ℕ) (i : ℕ) → i < 8 → slice_index (compress state block) i < 2 ^ 32
unfolding compress
compress_below state block =
    eight_cases (λ i. slice_index (compress state block) i < 2 ^ 32)
    (mod-lt _ (omega arith)) (mod-lt _ (omega arith)) (mod-lt _ (omega arith)) (mod-lt _ (omega arith))
    (mod-lt _ (omega arith)) (mod-lt _ (omega arith)) (mod-lt _ (omega arith)) (mod-lt _ (omega arith))

pub digest_words_are : (m : List ℕ) → length m ≤ 55 → digest_words m ≡ compress initial_hash_256 (padded_message m)
unfolding digest_words
digest_words_are m few =
    let f = λ (i : ℕ). word_at (sha256 m) (4 * i) in
    let state = compress initial_hash_256 (padded_message m) in
    let eight = length-map-range_with_len f 0 8 in
    let long = length-compress initial_hash_256 (padded_message m) in
    ext_get_or 0 (map f (range_with_len 0 8)) state (eight ∙ sym long) (λ i lt.
    let inside : i < 8 = omega (arith, eight, lt) in
    get_or-map-range_with_len f 0 8 i i 0 inside (omega arith)
    ∙ digest_word m few state refl (λ j l. compress_below initial_hash_256 (padded_message m) j l) i inside)

padded_bytes : (m : List ℕ) → AreBytes m → AreBytes (padded_message m)
padded_bytes m bytes k lt = both_bytes m (padding (length m)) (message_bytes m bytes) (padding_bytes (length m)) k

-- ---- from outputs to a message
module _ {A : Type 0} (o : Ops A) (element : ℕ → A) (size : ℕ) (h : Numbered o element size) (big : 8 * 2 ^ 32 ≤ size)
    (len : ℕ) (few : len ≤ 55) (public private : List A) (long : length private ≡ private_count len) (p : Parts o element (message_places len) public private) where
  bit : (j : ℕ) → IsBit element (entry o private j)
  bit = input_bit o element size h (message_places len) public private p

  message : List ℕ
  message = spelled element len (entry o private) bit

  length-of : length message ≡ len
  unfolding message
  length-of = length-spelled element len (entry o private) bit

  bytes : AreBytes message
  unfolding message
  bytes = spelled_bytes element len (entry o private) bit

  bits : (j : ℕ) → j < 8 * len → entry o private j ≡ element (bit_at (slice_index message (j / 8)) (7 - j % 8))
  unfolding message
  bits = spelled_bit element len (entry o private) bit

  short : length message ≤ 55
  short = omega (arith, length-of, few)

  result_is : (i : ℕ) → i < 8 → entry o public i ≡ element (slice_index (compress initial_hash_256 (padded_message message)) i)
  result_is =
      public_is o element size h big (message_places len) public private p initial_hash_256 (padded_message message) refl (length-padded message short) (padded_bytes message bytes)
      (held_initial element (entry o private) len) (block_value element (entry o private) len message length-of bits)

  pub digest_spelled : length public ≡ 8 → (m : List ℕ) × (length m ≡ len) × AreBytes m × HaveDigest element public private m
  digest_spelled eight =
      let state = compress initial_hash_256 (padded_message message) in
      let words = length-compress initial_hash_256 (padded_message message) in
      let same : public ≡ map element state =
      ext_get_or o.zero public (map element state) (eight ∙ sym (length-map state element ∙ words)) (λ i lt.
      let inside : i < 8 = omega (arith, eight, lt) in
      result_is i inside ∙ sym (get_or-map element state i 0 o.zero (omega (arith, words, inside)))) in (
        message,
        length-of,
        bytes,
        record {
          bits = begins_with o element private message (omega (arith, long, length-of)) (λ j lt. bits j (omega (arith, lt, length-of)));
          words = same ∙ ap (map element) (sym (digest_words_are message short));
        },
      )

-- ---- from a message to inputs
module _ {A : Type 0} (o : Ops A) (element : ℕ → A) (size : ℕ) (h : Numbered o element size) (m : List ℕ) (short : length m ≤ 55) (bytes : AreBytes m) where
  first : List A
  first = flat_map (bit_list element 8) m

  length-first : length first ≡ 8 * length m
  unfolding first
  length-first = length-message element m

  first_bits : AreBits o element first
  unfolding first
  first_bits = are_bits o element (flat_map (bit_list element 8) m) (λ j lt. chunk_bits element o.zero h.zero_is (bit_list element 8) (bit_list_bits element o.zero h.zero_is 8) m j)

  first_bit : (j : ℕ) → j < 8 * length m → entry o first j ≡ element (bit_at (slice_index m (j / 8)) (7 - j % 8))
  unfolding first
  first_bit j lt = message_entry element m o.zero j lt

  finds : Finds o element (message_places (length m)) first initial_hash_256 (padded_message m)
  finds =
      let whole = length-padded m short in
      record {
        is_state = record { eight = refl; words = λ k lt. initial_below k };
        is_block = record { long = whole; bytes = padded_bytes m bytes };
        found_state = found_is o element first (message_places (length m)).state 256 (λ j. bit_at (slice_index initial_hash_256 (j / 32)) (31 - j % 32)) length-initial_state (initial_value element (entry o first));
        found_block =
            found_is o element first (message_places (length m)).block (8 * length (padded_message m)) (λ j. bit_at (slice_index (padded_message m) (j / 8)) (7 - j % 8))
            (let b = length-message_block (length m) in omega (arith, b, whole))
            (λ j lt. block_value element (entry o first) (length m) m refl first_bit j (omega (arith, lt, whole)));
      }

  pub satisfied : AreSatisfying o element (length m) (map element (digest_words m)) (sha_private element m)
  unfolding first
  satisfied =
      subst (λ (l : List A). AreSatisfying o element (length m) l (sha_private element m)) (ap (map element) (sym (digest_words_are m short)))
      (compressing o element size h (message_places (length m)) (message_placed (length m) short) first length-first first_bits initial_hash_256 (padded_message m) finds)

  pub length-sha_private : length (sha_private element m) ≡ private_count (length m)
  unfolding first
  length-sha_private = let all = length-compression_private element first initial_hash_256 (padded_message m) o.zero in omega (arith, all, length-first)

  pub has_digest : HaveDigest element (map element (digest_words m)) (sha_private element m) m
  unfolding first
  has_digest =
      let count = length-sha_private in
      let long = length-first in
      record {
        bits =
            begins_with o element (sha_private element m) m (omega (arith, count))
            (λ j lt. first_entry element (flat_map (bit_list element 8) m) initial_hash_256 (padded_message m) o.zero j (omega (arith, long, lt)) ∙ message_entry element m o.zero j lt);
        words = refl;
      }
