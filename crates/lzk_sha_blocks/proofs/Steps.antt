-- From block to block: the state behind one is found before the next.
use Rattle.std.specs.Prelude.{◌≡◌, ℕ, ◌+◌, ◌-◌, ◌*◌, ◌/◌, ◌%◌, ◌^◌, ◌<◌, ◌≤◌, if◌then◌else◌, List, ◌∷◌, ◌++◌, length, map, drop, replicate, slice_index}
use Rattle.std.specs.List.{range_with_len}
use Rattle.std.specs.Int.{bit_at, w64, to_be_bytes}
use Rattle.std.proofs.Common.{zero, suc, refl, sym, ap, ◌∙◌, arith, inl, inr, subst, lt-ltb, le-ltb, length-append, length-take-le, get_or-take, get_or-append-add, ext_get_or}
use Rattle.std.proofs.lemmas.Bool.{cases_lt}
use Rattle.std.proofs.lemmas.List.{length-map, length-replicate, length-drop, get_or-map, get_or-drop, get_or_append_left, get_or-append_right}
use Rattle.std.proofs.lemmas.List.FromFn.{length-map-range_with_len, get_or-map-range_with_len}
use Rattle.std.proofs.lemmas.Nat.Bits.{bit_at-lt}
use Rattle.lzk_field.specs.Ring.{Ops}
use Rattle.lzk_field.specs.Sums.{entry}
use Rattle.lzk_circuit.specs.Wires.{inputs_of}
use Rattle.sha2.specs.Sha256.{padding, padded_message, word_at, compress, hash_after, digest_bytes, sha256}
use Rattle.lzk_sha_circuit.specs.declared.bit.Bit.TheVariants.{Zero, Input}
use Rattle.lzk_sha_circuit.specs.Compression.{IsState, IsBlock, Finds, IsCompression, result_bits}
use Rattle.lzk_sha_circuit.specs.Digest.{AreBytes, digest_words}
use Rattle.lzk_sha_circuit.specs.Outputs.{AreCompressing}
use Rattle.lzk_sha_circuit.specs.Places.{bit_of, bit_value, bit_constant, f_place}
use Rattle.lzk_sha_circuit.proofs.Block.{message_bytes, padding_bytes, both_bytes}
use Rattle.lzk_sha_circuit.proofs.Compressed.{length-compress, found_is_compressed}
use Rattle.lzk_sha_circuit.proofs.Digests.{word_of_digest}
use Rattle.lzk_sha_circuit.proofs.Found.{found_is, found_at}
use Rattle.lzk_sha_circuit.proofs.MessagePlaces.{constant_value, initial_value}
use Rattle.lzk_sha_circuit.proofs.Messages.{compress_below}
use Rattle.lzk_sha_circuit.proofs.Numbered.{Numbered}
use Rattle.lzk_sha_circuit.proofs.WordSums.{initial_below}
use Rattle.lzk_sha_blocks.specs.Hashed.{block_public, block_private}
use Rattle.lzk_sha_blocks.specs.Witness.{state_of, block_of}
use Rattle.lzk_sha_blocks.specs.Layout.{blocks, held, added, given_count, block_bits, state_bits, block_places, public_wire, state_wire, private_wire, public_wires, private_wires}
use Rattle.lzk_sha_blocks.proofs.LayoutLaws.{block_placed, length-block_bits, block_bit_at, length-state_bits, state_bit_at, message_at, state_at, added_at}

-- ---- how many inputs a block sees
pub length-seen_public : {A : Type 0} (o : Ops A) (len i : ℕ) (inputs : List A) → length (block_public o len inputs i) ≡ 8
length-seen_public o len i inputs = length-map (public_wires len i) (entry o inputs) ∙ length-map-range_with_len (public_wire len i) 0 8

pub length-seen_private : {A : Type 0} (o : Ops A) (len i : ℕ) (inputs : List A) → length (block_private o len inputs i) ≡ given_count len i + 6376
length-seen_private o len i inputs = length-map (private_wires len i) (entry o inputs) ∙ length-map-range_with_len (private_wire len i) 0 (given_count len i + 6376)

-- ---- the padded message, block by block
pub length-padding : (n : ℕ) → n + length (padding n) ≡ 64 * blocks n
length-padding n =
    let zeros = length-replicate {A = ℕ} ((119 - n % 64) % 64) 0 in
    let both = length-append (replicate ((119 - n % 64) % 64) 0) (to_be_bytes w64 (n * 8 % 2 ^ 64)) in
    omega (arith, zeros, both)

pub length-padded : (m : List ℕ) → length (padded_message m) ≡ 64 * blocks (length m)
length-padded m = length-append m (padding (length m)) ∙ length-padding (length m)

padded_at : (m : List ℕ) → AreBytes m → (k : ℕ) → slice_index (padded_message m) k < 256
padded_at m bytes = both_bytes m (padding (length m)) (message_bytes m bytes) (padding_bytes (length m))

pub block_at : (m : List ℕ) (i k : ℕ) → k < 64 → slice_index (block_of m i) k ≡ slice_index (padded_message m) (64 * i + k)
block_at m i k lt =
    let there : i * 64 + k ≡ 64 * i + k = omega arith in
    get_or-take 64 (drop (i * 64) (padded_message m)) k 0 lt ∙ get_or-drop (i * 64) (padded_message m) k 0 ∙ ap (slice_index (padded_message m)) there

pub is_block : (m : List ℕ) → AreBytes m → (i : ℕ) → i < blocks (length m) → IsBlock (block_of m i)
is_block m bytes i lt =
    let all = length-padded m in
    let rest = length-drop (i * 64) (padded_message m) in
    let long = length-take-le 64 (drop (i * 64) (padded_message m)) (omega (arith, all, rest, lt)) in
    record {
      long = long;
      bytes = λ k inside. subst (λ n. n < 256) (sym (block_at m i k (omega (arith, long, inside)))) (padded_at m bytes (64 * i + k));
    }

pub is_state : (m : List ℕ) (i : ℕ) → IsState (state_of m i)
unfolding hash_after
is_state m zero = record { eight = refl; words = λ k lt. initial_below k }
is_state m (suc i) =
    let eight = length-compress (state_of m i) (block_of m i) in
    record { eight = eight; words = λ k lt. compress_below (state_of m i) (block_of m i) k (omega (arith, eight, lt)) }

pub next_state : (m : List ℕ) (i : ℕ) → compress (state_of m i) (block_of m i) ≡ state_of m (suc i)
unfolding hash_after
next_state m i = refl

-- ---- the words of the digest are those of the last state
pub digest_words_are : (m : List ℕ) → digest_words m ≡ state_of m (blocks (length m))
unfolding digest_words sha256
digest_words_are m =
    let n = blocks (length m) in
    let f = λ (i : ℕ). word_at (sha256 m) (4 * i) in
    let eight = length-map-range_with_len f 0 8 in
    let is = is_state m n in
    let long = is.eight in
    let all = length-padded m in
    let count : length (padded_message m) / 64 ≡ n = omega (arith, all) in
    ext_get_or 0 (map f (range_with_len 0 8)) (state_of m n) (eight ∙ sym long) (λ i lt.
    let inside : i < 8 = omega (arith, eight, lt) in
    get_or-map-range_with_len f 0 8 i i 0 inside (omega arith)
    ∙ ap (λ s. word_at (digest_bytes (state_of m s) 8) (4 * i)) count
    ∙ word_of_digest (state_of m n) (λ j l. is.words j (omega (arith, long, l))) i inside)

-- ---- the bits of block i, where the message's bits are these
module _ {A : Type 0} (o : Ops A) (element : ℕ → A) (len : ℕ) (m : List ℕ) (count : length m ≡ len) (i : ℕ) (private : List A)
    (own : (j : ℕ) → j < 8 * held len i → entry o private j ≡ element (bit_at (slice_index m ((512 * i + j) / 8)) (7 - j % 8))) where
  pub block_value : (j : ℕ) → j < 512 → bit_value element (entry o private) (bit_of (block_bits len i) j) ≡ element (bit_at (slice_index (block_of m i) (j / 8)) (7 - j % 8))
  block_value j lt =
      let at = (512 * i + j) / 8 in
      let v = bit_at (slice_index (padding len) (at - len)) (7 - j % 8) in
      let here : 64 * i + j / 8 ≡ at = omega arith in
      let byte : slice_index (block_of m i) (j / 8) ≡ slice_index (padded_message m) at = block_at m i (j / 8) (omega (arith, lt)) ∙ ap (slice_index (padded_message m)) here in
      ap (bit_value element (entry o private)) (block_bit_at len i j lt)
      ∙ elim (cases_lt (512 * i + j) (8 * len)) [
        | inl less ↦
            let inside : at < length m = omega (arith, count, less) in
            ap (λ b. bit_value element (entry o private) (if b then Input j else bit_constant v)) (lt-ltb (512 * i + j) (8 * len) less)
            ∙ own j (omega (arith, lt, less))
            ∙ ap (λ x. element (bit_at x (7 - j % 8))) (sym (byte ∙ get_or_append_left m (padding (length m)) 0 at inside))
        | inr more ↦
            let past : len ≤ at = omega (arith, more) in
            ap (λ b. bit_value element (entry o private) (if b then Input j else bit_constant v)) (le-ltb (512 * i + j) (8 * len) more)
            ∙ constant_value element (entry o private) v (bit_at-lt (slice_index (padding len) (at - len)) (7 - j % 8))
            ∙ ap (λ x. element (bit_at x (7 - j % 8))) (sym (byte ∙ get_or-append_right m (padding (length m)) len at 0 count past ∙ ap (λ n. slice_index (padding n) (at - len)) count))
      ]

-- ---- what the blocks see
module _ {A : Type 0} (o : Ops A) (len : ℕ) (public private : List A) (short : length public ≡ 8) where
  abbrev pub inputs : List A
  inputs = inputs_of o public private

  pub private_input : (j : ℕ) → entry o inputs (9 + j) ≡ entry o private j
  private_input j =
      let place : 9 + j ≡ suc (length public + j) = omega (arith, short) in
      ap (λ k. entry o (o.one ∷ (public ++ private)) k) place ∙ get_or-append-add public private j o.zero

  pub public_input : (k : ℕ) → k < 8 → entry o inputs (1 + k) ≡ entry o public k
  public_input k lt =
      let place : 1 + k ≡ suc k = omega arith in
      ap (λ n. entry o (o.one ∷ (public ++ private)) n) place ∙ get_or_append_left public private o.zero k (omega (arith, short, lt))

  pub private_entry : (i j : ℕ) → j < given_count len i + 6376 → entry o (block_private o len inputs i) j ≡ entry o inputs (private_wire len i j)
  private_entry i j lt =
      let n = length-map-range_with_len (private_wire len i) 0 (given_count len i + 6376) in
      get_or-map (entry o inputs) (private_wires len i) j 0 o.zero (omega (arith, n, lt))
      ∙ ap (entry o inputs) (get_or-map-range_with_len (private_wire len i) 0 (given_count len i + 6376) j j 0 lt (omega arith))

  pub own_entry : (i j : ℕ) → j < 8 * held len i → entry o (block_private o len inputs i) j ≡ entry o private (512 * i + j)
  own_entry i j lt =
      let there : 9 + 512 * i + j ≡ 9 + (512 * i + j) = omega arith in
      private_entry i j (omega (arith, lt)) ∙ ap (entry o inputs) (message_at len i j lt ∙ there) ∙ private_input (512 * i + j)

  pub added_entry : (i j : ℕ) → j < 6376 → entry o (block_private o len inputs i) (given_count len i + j) ≡ entry o private (added len i + j)
  added_entry i j lt =
      let there : 9 + added len i + (given_count len i + j - given_count len i) ≡ 9 + (added len i + j) = omega arith in
      private_entry i (given_count len i + j) (omega (arith, lt)) ∙ ap (entry o inputs) (added_at len i (given_count len i + j) (omega arith) ∙ there) ∙ private_input (added len i + j)

-- ---- where the private inputs begin with a message's bits
module _ {A : Type 0} (o : Ops A) (element : ℕ → A) (size : ℕ) (h : Numbered o element size) (big : 8 * 2 ^ 32 ≤ size)
    (len : ℕ) (public private : List A) (short : length public ≡ 8) (message : List ℕ) (length-message : length message ≡ len) (bytes : AreBytes message)
    (bits : (j : ℕ) → j < 8 * len → entry o private j ≡ element (bit_at (slice_index message (j / 8)) (7 - j % 8))) where
  abbrev seen_public : ℕ → List A
  seen_public i = block_public o len (inputs_of o public private) i

  abbrev seen_private : ℕ → List A
  seen_private i = block_private o len (inputs_of o public private) i

  pub own : (i j : ℕ) → j < 8 * held len i → entry o (seen_private i) j ≡ element (bit_at (slice_index message ((512 * i + j) / 8)) (7 - j % 8))
  own i j lt =
      let place : 7 - (512 * i + j) % 8 ≡ 7 - j % 8 = omega arith in
      own_entry o len public private short i j lt ∙ bits (512 * i + j) (omega (arith, lt)) ∙ ap (λ k. element (bit_at (slice_index message ((512 * i + j) / 8)) k)) place

  -- the state before the block, and the block
  block_found : (i : ℕ) → i < blocks len → (j : ℕ) → j < 8 * length (block_of message i) → bit_value element (entry o (seen_private i)) (bit_of (block_bits len i) j) ≡ element (bit_at (slice_index (block_of message i) (j / 8)) (7 - j % 8))
  block_found i lt j inside =
      let is = is_block message bytes i (subst (λ n. i < blocks n) (sym length-message) lt) in
      let whole = is.long in
      block_value o element len message length-message i (seen_private i) (own i) j (omega (arith, whole, inside))

  finds_of : (i : ℕ) → i < blocks len → ((j : ℕ) → j < 32 * length (state_of message i) → bit_value element (entry o (seen_private i)) (bit_of (state_bits len i) j) ≡ element (bit_at (slice_index (state_of message i) (j / 32)) (31 - j % 32)))
      → Finds o element (block_places len i) (seen_private i) (state_of message i) (block_of message i)
  finds_of i lt state =
      let is = is_block message bytes i (subst (λ n. i < blocks n) (sym length-message) lt) in
      let start = is_state message i in
      let whole = is.long in
      let eight = start.eight in
      let b0 = length-state_bits len i in
      let b1 = length-block_bits len i in
      record {
        is_state = start;
        is_block = is;
        found_state = found_is o element (seen_private i) (state_bits len i) (32 * length (state_of message i)) (λ j. bit_at (slice_index (state_of message i) (j / 32)) (31 - j % 32)) (omega (arith, b0, eight)) state;
        found_block = found_is o element (seen_private i) (block_bits len i) (8 * length (block_of message i)) (λ j. bit_at (slice_index (block_of message i) (j / 8)) (7 - j % 8)) (omega (arith, b1, whole)) (block_found i lt);
      }

  pub compressed : (i : ℕ) → AreCompressing o element (block_places len i) (seen_public i) (seen_private i) → Finds o element (block_places len i) (seen_private i) (state_of message i) (block_of message i)
      → IsCompression o element (block_places len i) (seen_public i) (seen_private i) (state_of message i) (block_of message i)
  compressed i zeros finds =
      found_is_compressed o element size h big (block_places len i) (seen_public i) (seen_private i) (state_of message i) (block_of message i) (block_placed len i) (length-seen_public o len i (inputs_of o public private)) zeros finds

  result_at : (i j : ℕ) → j < 256 → entry o (seen_private (suc i)) (8 * held len (suc i) + j) ≡ bit_value element (entry o (seen_private i)) (bit_of (result_bits (block_places len i)) j)
  unfolding result_bits
  result_at i j lt =
      let f = λ (k : ℕ). Input (f_place (block_places len i) (k / 32) + k % 32) in
      let there : f_place (block_places len i) (j / 32) + j % 32 ≡ given_count len i + (6112 + 33 * (j / 32) + j % 32) = omega arith in
      let wire : state_wire len (suc i - 1) (8 * held len (suc i) + j - 8 * held len (suc i)) ≡ 9 + (added len i + (6112 + 33 * (j / 32) + j % 32)) = spot in
      private_entry o len public private short (suc i) (8 * held len (suc i) + j) (omega (arith, lt))
      ∙ ap (entry o (inputs_of o public private)) (state_at len (suc i) (8 * held len (suc i) + j) (omega arith) (omega (arith, lt)) ∙ wire)
      ∙ private_input o len public private short (added len i + (6112 + 33 * (j / 32) + j % 32))
      ∙ sym (added_entry o len public private short i (6112 + 33 * (j / 32) + j % 32) (omega (arith, lt)))
      ∙ ap (entry o (block_private o len (inputs_of o public private) i)) (sym there)
      ∙ ap (bit_value element (entry o (block_private o len (inputs_of o public private) i))) (sym (get_or-map-range_with_len f 0 256 j j Zero lt (omega arith))) where
        spot : state_wire len (suc i - 1) (8 * held len (suc i) + j - 8 * held len (suc i)) ≡ 9 + (added len i + (6112 + 33 * (j / 32) + j % 32))
        spot =
            let k : 8 * held len (suc i) + j - 8 * held len (suc i) ≡ j = omega arith in
            let before : suc i - 1 ≡ i = omega arith in
            let flat : 9 + added len i + 6112 + 33 * (j / 32) + j % 32 ≡ 9 + (added len i + (6112 + 33 * (j / 32) + j % 32)) = omega arith in
            (λ x. state_wire len (before x) (k x)) ∙ flat

  length-result_bits : (i : ℕ) → length (result_bits (block_places len i)) ≡ 256
  unfolding result_bits
  length-result_bits i = length-map-range_with_len (λ k. Input (f_place (block_places len i) (k / 32) + k % 32)) 0 256

  pub first_finds : 0 < blocks len → Finds o element (block_places len 0) (seen_private 0) (state_of message 0) (block_of message 0)
  unfolding hash_after state_bits
  first_finds lt = finds_of 0 lt (λ j inside. initial_value element (entry o (seen_private 0)) j inside)

  pub next_finds : (i : ℕ) → suc i < blocks len → IsCompression o element (block_places len i) (seen_public i) (seen_private i) (state_of message i) (block_of message i)
      → Finds o element (block_places len (suc i)) (seen_private (suc i)) (state_of message (suc i)) (block_of message (suc i))
  unfolding hash_after
  next_finds i lt before =
      let words = compress (state_of message i) (block_of message i) in
      let eight = length-compress (state_of message i) (block_of message i) in
      let b = length-result_bits i in
      finds_of (suc i) lt (λ j inside.
      let few : j < 256 = omega (arith, eight, inside) in
      ap (bit_value element (entry o (seen_private (suc i)))) (state_bit_at len i j few)
      ∙ result_at i j few
      ∙ found_at o element (seen_private i) (result_bits (block_places len i)) (32 * length words) (λ k. bit_at (slice_index words (k / 32)) (31 - k % 32)) (omega (arith, b, eight)) before.bits j inside)
