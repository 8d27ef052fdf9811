-- Where every block is satisfied, the private inputs begin with a message, and the public inputs are the words of its digest.
use Rattle.std.specs.Prelude.{◌≡◌, ℕ, ◌+◌, ◌-◌, ◌*◌, ◌/◌, ◌%◌, ◌^◌, ◌<◌, ◌≤◌, List, length, map, take, slice_index}
use Rattle.std.specs.Int.{bit_at}
use Rattle.std.proofs.Common.{zero, suc, sym, ap, ◌∙◌, arith, inl, inr, subst, length-take-le, get_or-take, ext_get_or}
use Rattle.std.proofs.lemmas.Bool.{cases_lt}
use Rattle.std.proofs.lemmas.List.{length-map, get_or-map, get_or_past}
use Rattle.std.proofs.lemmas.List.FromFn.{length-map-range_with_len, get_or-map-range_with_len}
use Rattle.lzk_field.specs.Ring.{Ops}
use Rattle.lzk_field.specs.Sums.{entry}
use Rattle.lzk_sha_circuit.specs.Compression.{Finds}
use Rattle.lzk_sha_circuit.specs.Digest.{AreBytes, HaveDigest}
use Rattle.lzk_sha_circuit.specs.Outputs.{AreCompressing}
use Rattle.lzk_sha_circuit.proofs.Compressed.{satisfied_is_compression}
use Rattle.lzk_sha_circuit.proofs.Found.{each_bit}
use Rattle.lzk_sha_circuit.proofs.Numbered.{Numbered, IsBit}
use Rattle.lzk_sha_circuit.proofs.Soundness.{spelled, length-spelled, spelled_bytes, spelled_bit, begins_with}
use Rattle.lzk_sha_blocks.specs.Hashed.{block_public, block_private, AreHashing, HashingIsOfMessage}
use Rattle.lzk_sha_blocks.specs.Witness.{state_of, block_of}
use Rattle.lzk_sha_blocks.specs.Layout.{blocks, held, private_count, given_count, block_places, public_wire, private_wire, public_wires, private_wires}
use Rattle.lzk_sha_blocks.proofs.LayoutLaws.{block_placed, public_last}
use Rattle.lzk_sha_blocks.proofs.Steps.{next_state, digest_words_are, inputs, own_entry, public_input, compressed, first_finds, next_finds}

-- ---- from outputs to a message
module _ {A : Type 0} (o : Ops A) (element : ℕ → A) (size : ℕ) (h : Numbered o element size) (big : 8 * 2 ^ 32 ≤ size)
    (len : ℕ) (public private : List A) (short : length public ≡ 8) (long : length private ≡ private_count len) (all : AreHashing o element len public private) where
  seen_public : ℕ → List A
  seen_public i = block_public o len (inputs o len public private short) i

  seen_private : ℕ → List A
  seen_private i = block_private o len (inputs o len public private short) i

  length-public : (i : ℕ) → length (seen_public i) ≡ 8
  unfolding seen_public
  length-public i = length-map (public_wires len i) (entry o (inputs o len public private short)) ∙ length-map-range_with_len (public_wire len i) 0 8

  length-private : (i : ℕ) → length (seen_private i) ≡ given_count len i + 6376
  unfolding seen_private
  length-private i = length-map (private_wires len i) (entry o (inputs o len public private short)) ∙ length-map-range_with_len (private_wire len i) 0 (given_count len i + 6376)

  satisfied : (i : ℕ) → i < blocks len → AreCompressing o element (block_places len i) (seen_public i) (seen_private i)
  unfolding seen_public seen_private
  satisfied i lt = all i lt

  -- the message
  message_bit : (j : ℕ) → j < 8 * len → IsBit element (entry o private j)
  unfolding seen_private
  message_bit j lt =
      let i = j / 512 in
      let k = j % 512 in
      let within : i < blocks len = omega (arith, lt) in
      let own : k < 8 * held len i = omega (arith, lt) in
      let there : 512 * i + k ≡ j = omega arith in
      let bits = (satisfied_is_compression o element size h big (block_places len i) (seen_public i) (seen_private i) (block_placed len i) (length-public i) (length-private i) (satisfied i within)).0 in
      subst (IsBit element) (own_entry o len public private short i k own ∙ ap (entry o private) there) (each_bit o element h.zero_is (seen_private i) bits k)

  front : List A
  front = take (8 * len) private

  length-front : length front ≡ 8 * len
  unfolding front
  length-front = length-take-le (8 * len) private (omega (arith, long))

  front_at : (j : ℕ) → j < 8 * len → entry o front j ≡ entry o private j
  unfolding front
  front_at j lt = get_or-take (8 * len) private j o.zero lt

  front_bit : (j : ℕ) → IsBit element (entry o front j)
  front_bit j = elim (cases_lt j (8 * len)) [
    | inl less ↦ subst (IsBit element) (sym (front_at j less)) (message_bit j less)
    | inr more ↦ (0, omega arith, get_or_past front j o.zero (omega (arith, length-front, more)) ∙ h.zero_is)
  ]

  message : List ℕ
  message = spelled element len (entry o front) front_bit

  length-message : length message ≡ len
  unfolding message
  length-message = length-spelled element len (entry o front) front_bit

  bytes : AreBytes message
  unfolding message
  bytes = spelled_bytes element len (entry o front) front_bit

  bits : (j : ℕ) → j < 8 * len → entry o private j ≡ element (bit_at (slice_index message (j / 8)) (7 - j % 8))
  unfolding message
  bits j lt = sym (front_at j lt) ∙ spelled_bit element len (entry o front) front_bit j lt

  finds : (i : ℕ) → i < blocks len → Finds o element (block_places len i) (seen_private i) (state_of message i) (block_of message i)
  unfolding seen_private seen_public
  finds zero lt = first_finds o element size h big len public private short message length-message bytes bits lt
  finds (suc i) lt =
      let before : i < blocks len = omega (arith, lt) in
      next_finds o element size h big len public private short message length-message bytes bits i lt
      (compressed o element size h big len public private short message length-message bytes bits i (all i before) (finds i before))

  last_public : (i : ℕ) → i + 1 ≡ blocks len → seen_public i ≡ public
  unfolding seen_public
  last_public i e =
      let all = length-public i in
      ext_get_or o.zero (map (entry o (inputs o len public private short)) (public_wires len i)) public (all ∙ sym short) (λ k lt.
      let few : k < 8 = omega (arith, all, lt) in
      let n = length-map-range_with_len (public_wire len i) 0 8 in
      get_or-map (entry o (inputs o len public private short)) (public_wires len i) k 0 o.zero (omega (arith, n, few))
      ∙ ap (entry o (inputs o len public private short)) (get_or-map-range_with_len (public_wire len i) 0 8 k k 0 few (omega arith) ∙ public_last len i k (omega (arith, e)))
      ∙ public_input o len public private short k few)

  pub of_message : (m : List ℕ) × (length m ≡ len) × AreBytes m × HaveDigest element public private m
  unfolding seen_public seen_private
  of_message =
      let last = blocks len - 1 in
      let end : last + 1 ≡ blocks len = omega arith in
      let next : suc last ≡ blocks (length message) = omega (arith, length-message) in
      let lt : last < blocks len = omega arith in
      let is = compressed o element size h big len public private short message length-message bytes bits last (all last lt) (finds last lt) in (
        message,
        length-message,
        bytes,
        record {
          bits = begins_with o element private message (omega (arith, long, length-message)) (λ j inside. bits j (omega (arith, inside, length-message)));
          words = sym (last_public last end) ∙ is.words ∙ ap (map element) (next_state message last ∙ ap (state_of message) next ∙ sym (digest_words_are message));
        },
      )

pub hashing_is_of_message : {A : Type 0} (o : Ops A) (element : ℕ → A) (size : ℕ) → Numbered o element size → 8 * 2 ^ 32 ≤ size → HashingIsOfMessage o element
hashing_is_of_message o element size h big len public private short long all = of_message o element size h big len public private short long all
