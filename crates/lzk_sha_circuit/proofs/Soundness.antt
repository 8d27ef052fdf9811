-- Where all outputs are 0, the public inputs are the words of the state behind the block that the private inputs have.
use Rattle.std.specs.Prelude.{◌≡◌, ℕ, ◌+◌, ◌-◌, ◌*◌, ◌/◌, ◌%◌, ◌^◌, ◌<◌, ◌≤◌, List, length, map, take, slice_index}
use Rattle.std.specs.List.{range_with_len}
use Rattle.std.specs.Int.{bit_at}
use Rattle.std.proofs.Common.{sym, ap, ◌∙◌, arith, inl, inr, subst, length-take-le, get_or-take, ext_get_or}
use Rattle.std.proofs.lemmas.List.{get_or_past, length-map, get_or-map}
use Rattle.std.proofs.lemmas.List.FromFn.{length-map-range_with_len, get_or-map-range_with_len}
use Rattle.std.proofs.lemmas.Bool.{cases_lt}
use Rattle.lzk_field.specs.Ring.{Ops}
use Rattle.lzk_field.specs.Sums.{entry}
use Rattle.sha2.specs.Sha256.{round_constants, word_at, schedule, compress}
use Rattle.lzk_sha_circuit.specs.Words.{worth}
use Rattle.lzk_sha_circuit.specs.Places.{Places, bits_from, block_bit, schedule_word, a_word, e_word, start_word, final_word, w_place, a_place, e_place, f_place}
use Rattle.lzk_sha_circuit.specs.Outputs.{digest_output}
use Rattle.lzk_sha_circuit.specs.Digest.{AreBytes, message_bits}
use Rattle.lzk_sha_circuit.proofs.Numbered.{Numbered, IsBit}
use Rattle.lzk_sha_circuit.proofs.BitLaws.{number_of, number_of-lt, bit_at-number_of}
use Rattle.lzk_sha_circuit.proofs.Held.{Held, held_from_bits, held_same, held_one, worth_is}
use Rattle.lzk_sha_circuit.proofs.WordSums.{next_number, first_number, second_number}
use Rattle.lzk_sha_circuit.proofs.Standard.{variables, schedule_is, rounds_are, compress_is, eight_cases}
use Rattle.lzk_sha_circuit.proofs.Block.{held_block}
use Rattle.lzk_sha_circuit.proofs.Parts.{Parts}
use Rattle.lzk_sha_circuit.proofs.Traces.{a_word_first, e_word_first, schedule_word_bit, a_word_bit, e_word_bit, w_forward, a_forward, e_forward, f_forward}
use Rattle.lzk_field.proofs.RingBasics.{same_from_difference}

-- ---- the bytes that bits spell
module _ {A : Type 0} (element : ℕ → A) (len : ℕ) (input : ℕ → A) (bit : (j : ℕ) → IsBit element (input j)) where
  bits_of_byte : ℕ → ℕ → ℕ
  bits_of_byte k i = (bit (8 * k + (7 - i))).0

  byte : ℕ → ℕ
  byte k = number_of 8 (bits_of_byte k)

  pub spelled : List ℕ
  spelled = map byte (range_with_len 0 len)

  pub length-spelled : length spelled ≡ len
  unfolding spelled
  length-spelled = length-map-range_with_len byte 0 len

  entry_of_spelled : (k : ℕ) → k < len → slice_index spelled k ≡ byte k
  unfolding spelled
  entry_of_spelled k lt = get_or-map-range_with_len byte 0 len k k 0 lt (omega arith)

  pub spelled_bytes : AreBytes spelled
  unfolding byte bits_of_byte
  spelled_bytes k lt =
      let inside : k < len = omega (arith, length-spelled) in
      let below = number_of-lt 8 (bits_of_byte k) (λ i. (bit (8 * k + (7 - i))).1) in
      subst (λ (n : ℕ). n < 256) (sym (entry_of_spelled k inside)) below

  pub spelled_bit : (j : ℕ) → j < 8 * len → input j ≡ element (bit_at (slice_index spelled (j / 8)) (7 - j % 8))
  unfolding byte bits_of_byte
  spelled_bit j lt =
      let inside : j / 8 < len = omega arith in
      let here : 8 * (j / 8) + (7 - (7 - j % 8)) ≡ j = omega arith in
      let place : 7 - j % 8 < 8 = omega arith in
      (bit j).2
      ∙ ap (λ k. element (bit k).0) (sym here)
      ∙ ap element (sym (ap (λ n. bit_at n (7 - j % 8)) (entry_of_spelled (j / 8) inside) ∙ bit_at-number_of 8 (bits_of_byte (j / 8)) (λ i. (bit (8 * (j / 8) + (7 - i))).1) (7 - j % 8) place))

-- a list of inputs that begins with these bits
pub begins_with : {A : Type 0} (o : Ops A) (element : ℕ → A) (private : List A) (m : List ℕ) → 8 * length m ≤ length private
    → ((j : ℕ) → j < 8 * length m → entry o private j ≡ element (bit_at (slice_index m (j / 8)) (7 - j % 8)))
    → take (8 * length m) private ≡ map element (message_bits m)
begins_with o element private m le h =
    let n = 8 * length m in
    let f = λ (j : ℕ). bit_at (slice_index m (j / 8)) (7 - j % 8) in
    let left = length-take-le n private le in
    let bits = length-map-range_with_len f 0 n in
    let right = length-map (message_bits m) element ∙ bits in
    ext_get_or o.zero (take n private) (map element (message_bits m)) (left ∙ sym right) (λ j lt.
    let inside : j < n = subst (λ (k : ℕ). j < k) left lt in
    let there : j < length (message_bits m) = subst (λ (k : ℕ). j < k) (sym bits) inside in
    get_or-take n private j o.zero inside ∙ h j inside ∙ ap element (sym (get_or-map-range_with_len f 0 n j j 0 inside (omega arith))) ∙ sym (get_or-map element (message_bits m) j 0 o.zero there))

-- every private input is a bit, and so is what stands past them
pub input_bit : {A : Type 0} (o : Ops A) (element : ℕ → A) (size : ℕ) (h : Numbered o element size) (given : Places) (public private : List A)
    → Parts o element given public private → (j : ℕ) → IsBit element (entry o private j)
input_bit o element size h given public private p j = elim (cases_lt j (length private)) [
  | inl less ↦ h.is_bit (entry o private j) (p.bits j less)
  | inr more ↦ (0, omega arith, get_or_past private j o.zero more ∙ h.zero_is)
]

module _ {A : Type 0} (o : Ops A) (element : ℕ → A) (size : ℕ) (h : Numbered o element size) (big : 8 * 2 ^ 32 ≤ size)
    (given : Places) (public private : List A) (p : Parts o element given public private) where
  input : ℕ → A
  input = entry o private

  bit : (j : ℕ) → IsBit element (input j)
  unfolding input
  bit = input_bit o element size h given public private p

  -- ---- the numbers that the words hold
  w_held : (t : ℕ) → (n : ℕ) × Held element 32 (schedule_word element given input t) n
  w_held t = held_from_bits element 32 (schedule_word element given input t) (schedule_word_bit element given input bit t)

  a_held : (s : ℕ) → (n : ℕ) × Held element 32 (a_word element given input s) n
  a_held s = held_from_bits element 32 (a_word element given input s) (a_word_bit element given input bit s)

  e_held : (s : ℕ) → (n : ℕ) × Held element 32 (e_word element given input s) n
  e_held s = held_from_bits element 32 (e_word element given input s) (e_word_bit element given input bit s)

  inputs_held : (place bits : ℕ) → (n : ℕ) × Held element bits (bits_from input place bits) n
  inputs_held place bits = held_from_bits element bits (bits_from input place bits) (λ i. bit (place + (bits - 1 - i)))

  w_at : ℕ → ℕ
  w_at t = (w_held t).0

  a_at : ℕ → ℕ
  a_at s = (a_held s).0

  e_at : ℕ → ℕ
  e_at s = (e_held s).0

  f_at : ℕ → ℕ
  f_at i = (inputs_held (f_place given i) 32).0

  held_w : (t : ℕ) → t < 64 → Held element 32 (schedule_word element given input t) (w_at t)
  unfolding w_at
  held_w t lt = (w_held t).1

  held_a : (s : ℕ) → s < 68 → Held element 32 (a_word element given input s) (a_at s)
  unfolding a_at
  held_a s lt = (a_held s).1

  held_e : (s : ℕ) → s < 68 → Held element 32 (e_word element given input s) (e_at s)
  unfolding e_at
  held_e s lt = (e_held s).1

  held_f : (i : ℕ) → Held element 32 (final_word element given input i) (f_at i)
  unfolding f_at
  held_f i = (inputs_held (f_place given i) 32).1

  two : 2 ≤ size
  two = omega (arith, big)

  w_next : (t : ℕ) → 16 ≤ t → t < 64 → w_at t ≡ next_number w_at t % 2 ^ 32
  unfolding input
  w_next t le lt =
      let carry = inputs_held (w_place given t + 32) 2 in
      w_forward o element size h given input w_at a_at e_at held_w held_a held_e big t carry.0 le lt carry.1 (p.schedule t le lt)

  -- ---- where the state and the block that the inputs have are these
  module _ (state block : List ℕ) (eight : length state ≡ 8) (long : length block ≡ 64) (bytes : AreBytes block)
      (held_state : (i : ℕ) → i < 8 → Held element 32 (start_word element given (entry o private) i) (slice_index state i))
      (block_bits : (j : ℕ) → j < 512 → block_bit element given (entry o private) j ≡ element (bit_at (slice_index block (j / 8)) (7 - j % 8))) where
    w_first : (t : ℕ) → t < 16 → w_at t ≡ word_at block (4 * t)
    unfolding input
    w_first t lt =
        held_one o element size h 32 (schedule_word element given (entry o private) t) (w_at t) (word_at block (4 * t)) two (held_w t (omega arith))
        (held_block element given (entry o private) block long bytes block_bits t lt)

    w_is : (t : ℕ) → t < 64 → w_at t ≡ slice_index (schedule block 48) t
    w_is = schedule_is block w_at w_first w_next

    a_first : (s : ℕ) → s < 4 → slice_index state (3 - s) ≡ a_at s
    unfolding input
    a_first s lt =
        let n = slice_index state (3 - s) in
        held_one o element size h 32 (a_word element given (entry o private) s) n (a_at s) two
        (held_same element 32 (start_word element given (entry o private) (3 - s)) (a_word element given (entry o private) s) n (λ i l. a_word_first element given (entry o private) s lt i) (held_state (3 - s) (omega arith))) (held_a s (omega arith))

    e_first : (s : ℕ) → s < 4 → slice_index state (7 - s) ≡ e_at s
    unfolding input
    e_first s lt =
        let n = slice_index state (7 - s) in
        held_one o element size h 32 (e_word element given (entry o private) s) n (e_at s) two
        (held_same element 32 (start_word element given (entry o private) (7 - s)) (e_word element given (entry o private) s) n (λ i l. e_word_first element given (entry o private) s lt i) (held_state (7 - s) (omega arith))) (held_e s (omega arith))

    a_next : (t : ℕ) → t < 64 → a_at (t + 4) ≡ (first_number (slice_index round_constants t) (slice_index (schedule block 48) t) e_at t + second_number a_at t) % 2 ^ 32
    unfolding input
    a_next t lt =
        let carry = inputs_held (a_place given t + 32) 3 in
        a_forward o element size h given input w_at a_at e_at held_w held_a held_e big t carry.0 lt carry.1 (p.rounds t lt).0
        ∙ ap (λ w. (first_number (slice_index round_constants t) w e_at t + second_number a_at t) % 2 ^ 32) (w_is t lt)

    e_next : (t : ℕ) → t < 64 → e_at (t + 4) ≡ (a_at t + first_number (slice_index round_constants t) (slice_index (schedule block 48) t) e_at t) % 2 ^ 32
    unfolding input
    e_next t lt =
        let carry = inputs_held (e_place given t + 32) 3 in
        e_forward o element size h given input w_at a_at e_at held_w held_a held_e big t carry.0 lt carry.1 (p.rounds t lt).1
        ∙ ap (λ w. (a_at t + first_number (slice_index round_constants t) w e_at t) % 2 ^ 32) (w_is t lt)

    start : state ≡ variables a_at e_at 0
    start =
        ext_get_or 0 state (variables a_at e_at 0) eight (λ i lt.
        eight_cases (λ k. slice_index state k ≡ slice_index (variables a_at e_at 0) k)
        (a_first 3 (omega arith)) (a_first 2 (omega arith)) (a_first 1 (omega arith)) (a_first 0 (omega arith))
        (e_first 3 (omega arith)) (e_first 2 (omega arith)) (e_first 1 (omega arith)) (e_first 0 (omega arith)) i (omega (arith, eight, lt)))

    f_is : (i : ℕ) → i < 8 → f_at i ≡ slice_index (compress state block) i
    unfolding input
    f_is i lt =
        let carry = inputs_held (f_place given i + 32) 1 in
        let all = rounds_are (schedule block 48) a_at e_at a_next e_next state start 64 (omega arith) in
        f_forward o element size h given input w_at a_at e_at held_w held_a held_e big i (slice_index state i) carry.0 (f_at i) lt (held_state i lt) (held_f i) carry.1 (p.finals i lt)
        ∙ sym (compress_is state block a_at e_at all i lt)

    pub held_result : (i : ℕ) → i < 8 → Held element 32 (final_word element given (entry o private) i) (slice_index (compress state block) i)
    unfolding input
    held_result i lt = subst (λ n. Held element 32 (final_word element given (entry o private) i) n) (f_is i lt) (held_f i)

    pub public_is : (i : ℕ) → i < 8 → entry o public i ≡ element (slice_index (compress state block) i)
    unfolding digest_output
    public_is i lt =
        sym (same_from_difference o h.ring (worth o element 32 (final_word element given (entry o private) i)) (entry o public i) (p.digest i lt))
        ∙ worth_is o element size h 32 (final_word element given (entry o private) i) (slice_index (compress state block) i) (held_result i lt)
