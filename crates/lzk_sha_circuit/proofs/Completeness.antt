-- The inputs of a compression satisfy its circuit.
use Rattle.std.specs.Prelude.{◌≡◌, ℕ, ◌+◌, ◌-◌, ◌*◌, ◌/◌, ◌%◌, ◌^◌, ◌<◌, ◌≤◌, List, [], ◌∷◌, length, map, slice_index, slice_index_or}
use Rattle.std.specs.Int.{bit_at}
use Rattle.std.proofs.Common.{refl, sym, ap, ◌∙◌, arith, zero, suc, inl, inr, subst, mul-le-mul_right, get_or-append-add, ext_get_or}
use Rattle.std.proofs.lemmas.Bool.{cases_lt}
use Rattle.std.proofs.lemmas.List.{get_or_append_left, get_or-map}
use Rattle.lzk_field.specs.Ring.{Ops}
use Rattle.lzk_field.specs.Sums.{entry}
use Rattle.sha2.specs.Sha256.{round_constants, schedule, rounds, round, compress}
use Rattle.sha2.proofs.Schedule256.{slice_index-schedule_first, slice_index-schedule_next}
use Rattle.lzk_sha_circuit.specs.Words.{worth}
use Rattle.lzk_sha_circuit.specs.Compression.{Finds, AreBits}
use Rattle.lzk_sha_circuit.specs.Places.{Places, IsPlaced, bits_from, block_bit, schedule_word, a_word, e_word, start_word, final_word, w_place, a_place, e_place, f_place}
use Rattle.lzk_sha_circuit.specs.Outputs.{bit_output, digest_output, AreCompressing}
use Rattle.lzk_sha_circuit.specs.Inputs.{sum_list, round_list, compression_private, next_total, first_total, second_total}
use Rattle.lzk_sha_circuit.proofs.Numbered.{Numbered, IsBit}
use Rattle.lzk_sha_circuit.proofs.Gates.{two_cases}
use Rattle.lzk_sha_circuit.proofs.Held.{Held, held_same, worth_is}
use Rattle.lzk_sha_circuit.proofs.Valued.{zero_from_same}
use Rattle.lzk_sha_circuit.proofs.WordSums.{first_number, second_number, next_sum_is}
use Rattle.lzk_sha_circuit.proofs.Standard.{last_number, variables, next_word_is, a_of_round, e_of_round, round_is, eight_cases}
use Rattle.lzk_sha_circuit.proofs.Block.{held_block}
use Rattle.lzk_sha_circuit.proofs.Compressed.{length-compress}
use Rattle.lzk_sha_circuit.proofs.Found.{each_bit, held_start, block_value, finds_longer}
use Rattle.lzk_sha_circuit.proofs.Parts.{Parts, satisfying_of}
use Rattle.lzk_sha_circuit.proofs.Chunks.{word_held, carry_held, compression_bits, length-sum_list}
use Rattle.lzk_sha_circuit.proofs.Lookups.{schedule_entry, round_entry, final_entry}
use Rattle.lzk_sha_circuit.proofs.Traces.{a_word_first, e_word_first, a_word_is, e_word_is, schedule_word_is, w_backward, a_backward, e_backward, f_backward, a_sum, e_sum, held_last}

-- ---- the words of the rounds, A (s - 4) and E (s - 4)
module _ (h ws : List ℕ) where
  abbrev pub a_from : ℕ → ℕ
  a_from s = slice_index (rounds h ws (s - 3)) (3 - s)

  abbrev pub e_from : ℕ → ℕ
  e_from s = slice_index (rounds h ws (s - 3)) (4 + (3 - s))

  pub a_step : (t : ℕ) → rounds h ws t ≡ variables a_from e_from t
      → a_from (t + 4) ≡ (first_number (slice_index round_constants t) (slice_index ws t) e_from t + second_number a_from t) % 2 ^ 32
  unfolding rounds
  a_step t shape =
      let k = slice_index round_constants t in
      let w = slice_index ws t in
      let turn : t + 4 - 3 ≡ suc t = omega arith in
      let place : 3 - (t + 4) ≡ 0 = omega arith in
      (λ i. slice_index (rounds h ws (turn i)) (place i)) ∙ a_of_round (rounds h ws t) k w ∙ ap (λ v. (first_total v k w + second_total v) % 2 ^ 32) shape

  pub e_step : (t : ℕ) → rounds h ws t ≡ variables a_from e_from t
      → e_from (t + 4) ≡ (a_from t + first_number (slice_index round_constants t) (slice_index ws t) e_from t) % 2 ^ 32
  unfolding rounds
  e_step t shape =
      let k = slice_index round_constants t in
      let w = slice_index ws t in
      let turn : t + 4 - 3 ≡ suc t = omega arith in
      let place : 4 + (3 - (t + 4)) ≡ 4 = omega arith in
      (λ i. slice_index (rounds h ws (turn i)) (place i)) ∙ e_of_round (rounds h ws t) k w ∙ ap (λ v. (slice_index v 3 + first_total v k w) % 2 ^ 32) shape

  pub shape_of : (a b c d e f g i : ℕ) → h ≡ a ∷ b ∷ c ∷ d ∷ e ∷ f ∷ g ∷ i ∷ [] → (t : ℕ) → rounds h ws t ≡ variables a_from e_from t
  unfolding rounds
  shape_of a b c d e f g i eh zero = eh ∙ ap (λ (v : List ℕ). slice_index v 0 ∷ slice_index v 1 ∷ slice_index v 2 ∷ slice_index v 3 ∷ slice_index v 4 ∷ slice_index v 5 ∷ slice_index v 6 ∷ slice_index v 7 ∷ []) (sym eh)
  shape_of a b c d e f g i eh (suc t) =
      let before = shape_of a b c d e f g i eh t in
      let k = slice_index round_constants t in
      let w = slice_index ws t in
      ap (λ v. round v k w) before ∙ round_is a_from e_from t k w (a_step t before) (e_step t before)

-- a sum as often as 2 ^ bits fits
fits : (m s count bits : ℕ) → s < count * m → count ≤ bits → s < bits * m
fits m s count bits lt le = let most = mul-le-mul_right m le in omega (arith, lt, most)

square : (v : ℕ) → v < 2 → v * v ≡ v
square = two_cases (λ v. v * v ≡ v) refl refl

module _ {A : Type 0} (o : Ops A) (element : ℕ → A) (size : ℕ) (h : Numbered o element size) (given : Places) (placed : IsPlaced given)
    (first : List A) (long : length first ≡ given.inputs) (are_bits : AreBits o element first) (state block : List ℕ) (finds : Finds o element given first state block) where
  input : ℕ → A
  input = entry o (compression_private element first state block)

  ws : List ℕ
  ws = schedule block 48

  abbrev a_at : ℕ → ℕ
  a_at = a_from state ws

  abbrev e_at : ℕ → ℕ
  e_at = e_from state ws

  eight_words : state ≡ slice_index state 0 ∷ slice_index state 1 ∷ slice_index state 2 ∷ slice_index state 3 ∷ slice_index state 4 ∷ slice_index state 5 ∷ slice_index state 6 ∷ slice_index state 7 ∷ []
  eight_words =
      let x = slice_index state in
      let all = x 0 ∷ x 1 ∷ x 2 ∷ x 3 ∷ x 4 ∷ x 5 ∷ x 6 ∷ x 7 ∷ [] in
      let eight = finds.is_state.eight in
      ext_get_or 0 state all eight (λ i lt. eight_cases (λ k. slice_index state k ≡ slice_index all k) refl refl refl refl refl refl refl refl i (omega (arith, eight, lt)))

  shape : (t : ℕ) → rounds state ws t ≡ variables a_at e_at t
  shape =
      let x = slice_index state in
      shape_of state ws (x 0) (x 1) (x 2) (x 3) (x 4) (x 5) (x 6) (x 7) eight_words

  -- ---- the state and the block
  still_finds : Finds o element given (compression_private element first state block) state block
  unfolding compression_private
  still_finds = finds_longer o element given placed first _ long state block finds

  held_first : (k : ℕ) → k < 8 → Held element 32 (start_word element given (entry o (compression_private element first state block)) k) (slice_index state k)
  held_first = held_start o element given placed (compression_private element first state block) state block still_finds

  block_bits : (j : ℕ) → j < 512 → block_bit element given (entry o (compression_private element first state block)) j ≡ element (bit_at (slice_index block (j / 8)) (7 - j % 8))
  block_bits = block_value o element given placed (compression_private element first state block) state block still_finds

  -- ---- the words and carries that the inputs hold
  w_value : (t : ℕ) → 16 ≤ t → t < 64 → slice_index ws t ≡ next_total ws t % 2 ^ 32
  unfolding ws
  w_value t le lt = slice_index-schedule_next block 48 t le lt ∙ next_word_is (schedule block 48) t

  held_w : (t : ℕ) → t < 64 → Held element 32 (schedule_word element given input t) (slice_index ws t)
  unfolding ws input
  held_w t lt = elim (cases_lt t 16) [
    | inl low ↦
        subst (λ n. Held element 32 (schedule_word element given input t) n) (sym (slice_index-schedule_first block 48 t low))
        (held_block element given (entry o (compression_private element first state block)) block finds.is_block.long finds.is_block.bytes block_bits t low)
    | inr high ↦
        held_same element 32 (bits_from input (w_place given t) 32) (schedule_word element given input t) (slice_index ws t) (λ i l. schedule_word_is element given input t high i)
        (subst (λ n. Held element 32 (bits_from input (w_place given t) 32) n) (sym (w_value t high lt))
        (word_held element input (w_place given t) 2 (next_total ws t) o.zero (λ j l. schedule_entry element given first long state block o.zero t j high lt l)))
  ]

  w_carry : (t : ℕ) → 16 ≤ t → t < 64 → Held element 2 (bits_from input (w_place given t + 32) 2) (next_total ws t / 2 ^ 32)
  unfolding ws input
  w_carry t le lt =
      carry_held element input (w_place given t) 2 (next_total ws t) o.zero (λ j l. schedule_entry element given first long state block o.zero t j le lt l)
      (next_sum_is o element size h given input (slice_index ws) t (λ s l. held_w s (omega arith)) le).below

  a_total : ℕ → ℕ
  a_total t = let v = rounds state ws t in first_total v (slice_index round_constants t) (slice_index ws t) + second_total v

  e_total : ℕ → ℕ
  e_total t = let v = rounds state ws t in slice_index v 3 + first_total v (slice_index round_constants t) (slice_index ws t)

  a_stands : (t : ℕ) → t < 64 → (j : ℕ) → j < 32 + 3 → input (a_place given t + j) ≡ slice_index_or (sum_list element 3 (a_total t)) j o.zero
  unfolding ws input a_total round_list
  a_stands t lt j l =
      let v = rounds state ws t in
      let k = slice_index round_constants t in
      let w = slice_index ws t in
      let count = length-sum_list element 3 (first_total v k w + second_total v) in
      round_entry element given first long state block o.zero t j lt (omega arith)
      ∙ get_or_append_left (sum_list element 3 (first_total v k w + second_total v)) (sum_list element 3 (slice_index v 3 + first_total v k w)) o.zero j (omega (arith, count))

  e_stands : (t : ℕ) → t < 64 → (j : ℕ) → j < 32 + 3 → input (e_place given t + j) ≡ slice_index_or (sum_list element 3 (e_total t)) j o.zero
  unfolding ws input e_total round_list
  e_stands t lt j l =
      let v = rounds state ws t in
      let k = slice_index round_constants t in
      let w = slice_index ws t in
      let count = length-sum_list element 3 (first_total v k w + second_total v) in
      let there : e_place given t + j ≡ a_place given t + (length (sum_list element 3 (first_total v k w + second_total v)) + j) = omega (arith, count) in
      ap input there
      ∙ round_entry element given first long state block o.zero t (length (sum_list element 3 (first_total v k w + second_total v)) + j) lt (omega (arith, count))
      ∙ get_or-append-add (sum_list element 3 (first_total v k w + second_total v)) (sum_list element 3 (slice_index v 3 + first_total v k w)) j o.zero

  a_number : ℕ → ℕ
  a_number t = first_number (slice_index round_constants t) (slice_index ws t) e_at t + second_number a_at t

  e_number : ℕ → ℕ
  e_number t = a_at t + first_number (slice_index round_constants t) (slice_index ws t) e_at t

  a_total_is : (t : ℕ) → a_total t ≡ a_number t
  unfolding a_total a_number
  a_total_is t = ap (λ v. first_total v (slice_index round_constants t) (slice_index ws t) + second_total v) (shape t)

  e_total_is : (t : ℕ) → e_total t ≡ e_number t
  unfolding e_total e_number
  e_total_is t = ap (λ v. slice_index v 3 + first_total v (slice_index round_constants t) (slice_index ws t)) (shape t)

  a_value : (t : ℕ) → a_at (t + 4) ≡ a_number t % 2 ^ 32
  unfolding a_number
  a_value t = a_step state ws t (shape t)

  e_value : (t : ℕ) → e_at (t + 4) ≡ e_number t % 2 ^ 32
  unfolding e_number
  e_value t = e_step state ws t (shape t)

  held_a : (s : ℕ) → s < 68 → Held element 32 (a_word element given input s) (a_at s)
  unfolding rounds input
  held_a s lt = elim (cases_lt s 4) [
    | inl low ↦
        let turn : 0 ≡ s - 3 = omega arith in
        subst (λ k. Held element 32 (a_word element given input s) (slice_index (rounds state ws k) (3 - s))) turn
        (held_same element 32 (start_word element given input (3 - s)) (a_word element given input s) (slice_index state (3 - s)) (λ i l. a_word_first element given input s low i) (held_first (3 - s) (omega arith)))
    | inr high ↦
        let t = s - 4 in
        let back : t + 4 ≡ s = omega arith in
        subst (λ k. Held element 32 (a_word element given input k) (a_at k)) back
        (held_same element 32 (bits_from input (a_place given t) 32) (a_word element given input (t + 4)) (a_at (t + 4)) (λ i l. a_word_is element given input t i)
        (subst (λ n. Held element 32 (bits_from input (a_place given t) 32) n) (ap (λ n. n % 2 ^ 32) (a_total_is t) ∙ sym (a_value t))
        (word_held element input (a_place given t) 3 (a_total t) o.zero (a_stands t (omega arith)))))
  ]

  held_e : (s : ℕ) → s < 68 → Held element 32 (e_word element given input s) (e_at s)
  unfolding rounds input
  held_e s lt = elim (cases_lt s 4) [
    | inl low ↦
        let turn : 0 ≡ s - 3 = omega arith in
        let place : 7 - s ≡ 4 + (3 - s) = omega arith in
        subst (λ k. Held element 32 (e_word element given input s) (slice_index (rounds state ws k) (4 + (3 - s)))) turn
        (subst (λ k. Held element 32 (e_word element given input s) (slice_index state k)) place
        (held_same element 32 (start_word element given input (7 - s)) (e_word element given input s) (slice_index state (7 - s)) (λ i l. e_word_first element given input s low i) (held_first (7 - s) (omega arith))))
    | inr high ↦
        let t = s - 4 in
        let back : t + 4 ≡ s = omega arith in
        subst (λ k. Held element 32 (e_word element given input k) (e_at k)) back
        (held_same element 32 (bits_from input (e_place given t) 32) (e_word element given input (t + 4)) (e_at (t + 4)) (λ i l. e_word_is element given input t i)
        (subst (λ n. Held element 32 (bits_from input (e_place given t) 32) n) (ap (λ n. n % 2 ^ 32) (e_total_is t) ∙ sym (e_value t))
        (word_held element input (e_place given t) 3 (e_total t) o.zero (e_stands t (omega arith)))))
  ]

  a_carry : (t : ℕ) → t < 64 → Held element 3 (bits_from input (a_place given t + 32) 3) (a_number t / 2 ^ 32)
  unfolding a_number
  a_carry t lt =
      let small : a_total t < 2 ^ 3 * 2 ^ 32 = subst (λ n. n < 8 * 2 ^ 32) (sym (a_total_is t)) (a_sum o element size h given input (slice_index ws) a_at e_at held_w held_a held_e t lt).below in
      subst (λ n. Held element 3 (bits_from input (a_place given t + 32) 3) (n / 2 ^ 32)) (a_total_is t) (carry_held element input (a_place given t) 3 (a_total t) o.zero (a_stands t lt) small)

  e_carry : (t : ℕ) → t < 64 → Held element 3 (bits_from input (e_place given t + 32) 3) (e_number t / 2 ^ 32)
  unfolding e_number
  e_carry t lt =
      let small : e_total t < 2 ^ 3 * 2 ^ 32 = subst (λ n. n < 8 * 2 ^ 32) (sym (e_total_is t)) (e_sum o element size h given input (slice_index ws) a_at e_at held_w held_a held_e t lt).below in
      subst (λ n. Held element 3 (bits_from input (e_place given t + 32) 3) (n / 2 ^ 32)) (e_total_is t) (carry_held element input (e_place given t) 3 (e_total t) o.zero (e_stands t lt) small)

  -- ---- the digest
  f_total : ℕ → ℕ
  f_total i = slice_index state i + slice_index (rounds state ws 64) i

  f_number : ℕ → ℕ
  f_number i = slice_index state i + last_number a_at e_at i

  last_is : (i : ℕ) → i < 8 → slice_index (variables a_at e_at 64) i ≡ last_number a_at e_at i
  last_is = eight_cases (λ i. slice_index (variables a_at e_at 64) i ≡ last_number a_at e_at i) refl refl refl refl refl refl refl refl

  f_total_is : (i : ℕ) → i < 8 → f_total i ≡ f_number i
  unfolding f_total f_number
  f_total_is i lt = ap (λ n. slice_index state i + n) (ap (λ v. slice_index v i) (shape 64) ∙ last_is i lt)

  f_stands : (i : ℕ) → i < 8 → (j : ℕ) → j < 32 + 1 → input (f_place given i + j) ≡ slice_index_or (sum_list element 1 (f_total i)) j o.zero
  unfolding ws input f_total
  f_stands i lt j l = final_entry element given first long state block o.zero i j lt l

  two_words : (a b : ℕ) → a < 2 ^ 32 → b < 2 ^ 32 → a + b < 2 ^ 1 * 2 ^ 32
  two_words a b la lb = omega arith

  f_small : (i : ℕ) → i < 8 → f_total i < 2 ^ 1 * 2 ^ 32
  unfolding f_number
  f_small i lt =
      let last = held_last o element size h given input (slice_index ws) a_at e_at held_w held_a held_e i lt in
      subst (λ n. n < 2 ^ 1 * 2 ^ 32) (sym (f_total_is i lt)) (two_words (slice_index state i) (last_number a_at e_at i) (held_first i lt).below last.below)

  held_f : (i : ℕ) → i < 8 → Held element 32 (final_word element given input i) (f_total i % 2 ^ 32)
  held_f i lt = word_held element input (f_place given i) 1 (f_total i) o.zero (f_stands i lt)

  f_carry : (i : ℕ) → i < 8 → Held element 1 (bits_from input (f_place given i + 32) 1) (f_number i / 2 ^ 32)
  f_carry i lt =
      subst (λ n. Held element 1 (bits_from input (f_place given i + 32) 1) (n / 2 ^ 32)) (f_total_is i lt) (carry_held element input (f_place given i) 1 (f_total i) o.zero (f_stands i lt) (f_small i lt))

  bit_zero : (x : A) → IsBit element x → bit_output o x ≡ o.zero
  bit_zero x (v, lt, e) =
      let once = square v lt in
      zero_from_same o element size h (o.times x x) x (v * v) v ((λ i. o.times (e i) (e i)) ∙ h.times_is v v) e once

  result_word : (i : ℕ) → i < 8 → slice_index (compress state block) i ≡ f_total i % 2 ^ 32
  unfolding compress f_total ws
  result_word = eight_cases (λ i. slice_index (compress state block) i ≡ (slice_index state i + slice_index (rounds state (schedule block 48) 64) i) % 2 ^ 32) refl refl refl refl refl refl refl refl

  public_entry : (i : ℕ) → i < 8 → entry o (map element (compress state block)) i ≡ element (f_total i % 2 ^ 32)
  public_entry i lt =
      let eight = length-compress state block in
      get_or-map element (compress state block) i 0 o.zero (omega (arith, eight, lt)) ∙ ap element (result_word i lt)

  parts : Parts o element given (map element (compress state block)) (compression_private element first state block)
  unfolding digest_output input f_number a_number e_number
  parts = record {
    bits = λ j lt. bit_zero (entry o (compression_private element first state block) j) (compression_bits element o.zero h.zero_is first state block (each_bit o element h.zero_is first are_bits) j);
    schedule = λ t le lt. w_backward o element size h given input (slice_index ws) a_at e_at held_w held_a held_e t le lt (w_value t le lt) (w_carry t le lt);
    rounds = λ t lt. (
      a_backward o element size h given input (slice_index ws) a_at e_at held_w held_a held_e t lt (a_value t) (a_carry t lt),
      e_backward o element size h given input (slice_index ws) a_at e_at held_w held_a held_e t lt (e_value t) (e_carry t lt),
    );
    finals = λ i lt. f_backward o element size h given input (slice_index ws) a_at e_at held_w held_a held_e i (slice_index state i) (f_total i % 2 ^ 32) lt (held_first i lt) (ap (λ n. n % 2 ^ 32) (f_total_is i lt)) (held_f i lt) (f_carry i lt);
    digest = λ i lt.
        zero_from_same o element size h (worth o element 32 (final_word element given input i)) (entry o (map element (compress state block)) i) (f_total i % 2 ^ 32) (f_total i % 2 ^ 32)
        (worth_is o element size h 32 (final_word element given input i) (f_total i % 2 ^ 32) (held_f i lt)) (public_entry i lt) refl;
  }

  pub compressing : AreCompressing o element given (map element (compress state block)) (compression_private element first state block)
  compressing = satisfying_of o element given (map element (compress state block)) (compression_private element first state block) parts
