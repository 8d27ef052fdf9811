-- Where the outputs of the words are 0, and what they say of the numbers that the words hold.
use Rattle.std.specs.Prelude.{◌≡◌, ℕ, ◌+◌, ◌-◌, ◌*◌, ◌/◌, ◌%◌, ◌^◌, ◌<◌, ◌≤◌, slice_index, nat_lt, if◌then◌else◌}
use Rattle.std.proofs.Common.{refl, sym, ap, ◌∙◌, arith, inl, inr, lt-ltb, le-ltb, Bool, true, false, subst, mul-le-mul_right}
use Rattle.std.proofs.lemmas.Bool.{cases_lt}
use Rattle.lzk_field.specs.Ring.{Ops}
use Rattle.sha2.specs.Sha256.{round_constants}
use Rattle.lzk_sha_circuit.specs.Words.{worth}
use Rattle.lzk_sha_circuit.specs.Places.{Places, bit_of, bit_value, bits_from, block_bit, schedule_word, a_word, e_word, start_word, last_word, final_word, w_place, a_place, e_place, f_place}
use Rattle.lzk_sha_circuit.specs.Outputs.{w_output, a_output, e_output, f_output, next_sum, first_sum, second_sum}
use Rattle.lzk_sha_circuit.specs.declared.bit.Bit.{Bit}
use Rattle.lzk_sha_circuit.specs.declared.bit.Bit.TheVariants.{Zero, One, Input}
use Rattle.lzk_sha_circuit.proofs.Numbered.{Numbered, IsBit}
use Rattle.lzk_sha_circuit.proofs.Held.{Held, held_same}
use Rattle.lzk_sha_circuit.proofs.Valued.{Valued, valued_plus, word_follows, word_meets}
use Rattle.lzk_sha_circuit.proofs.WordSums.{next_number, first_number, second_number, next_sum_is, first_sum_is, second_sum_is, worth_valued}
use Rattle.lzk_sha_circuit.proofs.Standard.{last_number}

-- ---- words behind those that are given are those of the inputs
module _ {A : Type 0} (element : ℕ → A) (given : Places) (input : ℕ → A) where
  pub schedule_word_is : (t : ℕ) → 16 ≤ t → (i : ℕ) → schedule_word element given input t i ≡ bits_from input (w_place given t) 32 i
  schedule_word_is t le i = ap (λ b. if b then block_bit element given input (32 * t + (31 - i)) else bits_from input (w_place given t) 32 i) (le-ltb t 16 le)

  pub a_word_first : (s : ℕ) → s < 4 → (i : ℕ) → a_word element given input s i ≡ start_word element given input (3 - s) i
  a_word_first s lt i = ap (λ b. if b then start_word element given input (3 - s) i else bits_from input (a_place given (s - 4)) 32 i) (lt-ltb s 4 lt)

  pub e_word_first : (s : ℕ) → s < 4 → (i : ℕ) → e_word element given input s i ≡ start_word element given input (7 - s) i
  e_word_first s lt i = ap (λ b. if b then start_word element given input (7 - s) i else bits_from input (e_place given (s - 4)) 32 i) (lt-ltb s 4 lt)

  pub a_word_is : (t i : ℕ) → a_word element given input (t + 4) i ≡ bits_from input (a_place given t) 32 i
  a_word_is t i =
      let past : 4 ≤ t + 4 = omega arith in
      let e : t + 4 - 4 ≡ t = omega arith in
      ap (λ b. if b then start_word element given input (3 - (t + 4)) i else bits_from input (a_place given (t + 4 - 4)) 32 i) (le-ltb (t + 4) 4 past)
      ∙ ap (λ s. bits_from input (a_place given s) 32 i) e

  pub e_word_is : (t i : ℕ) → e_word element given input (t + 4) i ≡ bits_from input (e_place given t) 32 i
  e_word_is t i =
      let past : 4 ≤ t + 4 = omega arith in
      let e : t + 4 - 4 ≡ t = omega arith in
      ap (λ b. if b then start_word element given input (7 - (t + 4)) i else bits_from input (e_place given (t + 4 - 4)) 32 i) (le-ltb (t + 4) 4 past)
      ∙ ap (λ s. bits_from input (e_place given s) 32 i) e

  -- ---- they are bits where the inputs are
  if_bit : (b : Bool) (x y : A) → IsBit element x → IsBit element y → IsBit element (if b then x else y)
  if_bit true x y hx hy = hx
  if_bit false x y hx hy = hy

  module _ (bit : (j : ℕ) → IsBit element (input j)) where
    found_bit : (x : Bit) → IsBit element (bit_value element input x)
    found_bit Zero = (0, omega arith, refl)
    found_bit One = (1, omega arith, refl)
    found_bit (Input j) = bit j

    pub start_word_bit : (k i : ℕ) → IsBit element (start_word element given input k i)
    start_word_bit k i = found_bit (bit_of given.state (32 * k + (31 - i)))

    pub block_bit_bit : (j : ℕ) → IsBit element (block_bit element given input j)
    block_bit_bit j = found_bit (bit_of given.block j)

    pub schedule_word_bit : (t i : ℕ) → IsBit element (schedule_word element given input t i)
    schedule_word_bit t i =
        if_bit (nat_lt t 16) (block_bit element given input (32 * t + (31 - i))) (bits_from input (w_place given t) 32 i) (block_bit_bit (32 * t + (31 - i))) (bit (w_place given t + (32 - 1 - i)))

    pub a_word_bit : (s i : ℕ) → IsBit element (a_word element given input s i)
    a_word_bit s i =
        if_bit (nat_lt s 4) (start_word element given input (3 - s) i) (bits_from input (a_place given (s - 4)) 32 i) (start_word_bit (3 - s) i) (bit (a_place given (s - 4) + (32 - 1 - i)))

    pub e_word_bit : (s i : ℕ) → IsBit element (e_word element given input s i)
    e_word_bit s i =
        if_bit (nat_lt s 4) (start_word element given input (7 - s) i) (bits_from input (e_place given (s - 4)) 32 i) (start_word_bit (7 - s) i) (bit (e_place given (s - 4) + (32 - 1 - i)))

raise : (m i s : ℕ) → i ≤ 8 → s < i * m → s < 8 * m
raise m i s le lt = let most = mul-le-mul_right m le in omega (arith, most)

-- the sums of the outputs, by the numbers that the words hold
module _ {A : Type 0} (o : Ops A) (element : ℕ → A) (size : ℕ) (h : Numbered o element size) (given : Places) (input : ℕ → A) (w a e : ℕ → ℕ)
    (held_w : (t : ℕ) → t < 64 → Held element 32 (schedule_word element given input t) (w t))
    (held_a : (s : ℕ) → s < 68 → Held element 32 (a_word element given input s) (a s))
    (held_e : (s : ℕ) → s < 68 → Held element 32 (e_word element given input s) (e s)) where
  abbrev first_at : ℕ → ℕ
  first_at t = first_number (slice_index round_constants t) (w t) e t

  as_eight : (i : ℕ) (x : A) (n : ℕ) → i ≤ 8 → Valued element (2 ^ 32) i x n → Valued element (2 ^ 32) 8 x n
  as_eight i x n le v = record { is = v.is; below = raise (2 ^ 32) i n le v.below }

  pub w_sum : (t : ℕ) → 16 ≤ t → t < 64 → Valued element (2 ^ 32) 8 (next_sum o element given input t) (next_number w t)
  w_sum t le lt = as_eight 4 (next_sum o element given input t) (next_number w t) (omega arith) (next_sum_is o element size h given input w t (λ s l. held_w s (omega arith)) le)

  first_valued : (t : ℕ) → t < 64 → Valued element (2 ^ 32) 5 (first_sum o element given input t) (first_at t)
  first_valued t lt = first_sum_is o element size h given input (w t) e t (held_w t lt) (λ s l. held_e s (omega arith))

  pub a_sum : (t : ℕ) → t < 64 → Valued element (2 ^ 32) 8 (o.plus (first_sum o element given input t) (second_sum o element given input t)) (first_at t + second_number a t)
  a_sum t lt =
      as_eight 7 (o.plus (first_sum o element given input t) (second_sum o element given input t)) (first_at t + second_number a t) (omega arith)
      (valued_plus o element size h (2 ^ 32) 5 2 (first_sum o element given input t) (second_sum o element given input t) (first_at t) (second_number a t) (first_valued t lt)
      (second_sum_is o element size h given input a t (λ s l. held_a s (omega arith))))

  pub e_sum : (t : ℕ) → t < 64 → Valued element (2 ^ 32) 8 (o.plus (worth o element 32 (a_word element given input t)) (first_sum o element given input t)) (a t + first_at t)
  e_sum t lt =
      as_eight 6 (o.plus (worth o element 32 (a_word element given input t)) (first_sum o element given input t)) (a t + first_at t) (omega arith)
      (valued_plus o element size h (2 ^ 32) 1 5 (worth o element 32 (a_word element given input t)) (first_sum o element given input t) (a t) (first_at t)
      (worth_valued o element size h (a_word element given input t) (a t) (held_a t (omega arith))) (first_valued t lt))

  pub held_last : (i : ℕ) → i < 8 → Held element 32 (last_word element given input i) (last_number a e i)
  held_last i lt =
      let choice = λ (b : Bool). Held element 32 (if b then a_word element given input (67 - i) else e_word element given input (71 - i)) (if b then a (67 - i) else e (71 - i)) in
      elim (cases_lt i 4) [
        | inl low ↦ subst choice (sym (lt-ltb i 4 low)) (held_a (67 - i) (omega arith))
        | inr high ↦ subst choice (sym (le-ltb i 4 high)) (held_e (71 - i) (omega arith))
      ]

  -- where a number is held by word i of the state
  pub f_sum : (i n : ℕ) → i < 8 → Held element 32 (start_word element given input i) n
      → Valued element (2 ^ 32) 8 (o.plus (worth o element 32 (start_word element given input i)) (worth o element 32 (last_word element given input i))) (n + last_number a e i)
  f_sum i n lt held =
      let x = worth o element 32 (start_word element given input i) in
      let y = worth o element 32 (last_word element given input i) in
      as_eight 2 (o.plus x y) (n + last_number a e i) (omega arith)
      (valued_plus o element size h (2 ^ 32) 1 1 x y n (last_number a e i)
      (worth_valued o element size h (start_word element given input i) n held)
      (worth_valued o element size h (last_word element given input i) (last_number a e i) (held_last i lt)))

  own_w : (t : ℕ) → 16 ≤ t → t < 64 → Held element 32 (bits_from input (w_place given t) 32) (w t)
  own_w t le lt = held_same element 32 (schedule_word element given input t) (bits_from input (w_place given t) 32) (w t) (λ i l. sym (schedule_word_is element given input t le i)) (held_w t lt)

  own_a : (t : ℕ) → t < 64 → Held element 32 (bits_from input (a_place given t) 32) (a (t + 4))
  own_a t lt = held_same element 32 (a_word element given input (t + 4)) (bits_from input (a_place given t) 32) (a (t + 4)) (λ i l. sym (a_word_is element given input t i)) (held_a (t + 4) (omega arith))

  own_e : (t : ℕ) → t < 64 → Held element 32 (bits_from input (e_place given t) 32) (e (t + 4))
  own_e t lt = held_same element 32 (e_word element given input (t + 4)) (bits_from input (e_place given t) 32) (e (t + 4)) (λ i l. sym (e_word_is element given input t i)) (held_e (t + 4) (omega arith))

  -- ---- from outputs to numbers
  module _ (big : 8 * 2 ^ 32 ≤ size) where
    pub w_forward : (t c : ℕ) → 16 ≤ t → t < 64 → Held element 2 (bits_from input (w_place given t + 32) 2) c
        → w_output o element given input t ≡ o.zero → w t ≡ next_number w t % 2 ^ 32
    unfolding w_output
    w_forward t c le lt hc z =
        word_follows o element size h given input (w_place given t) 2 (next_sum o element given input t) (next_number w t) (w t) c (omega arith) big (w_sum t le lt) (own_w t le lt) hc z

    pub a_forward : (t c : ℕ) → t < 64 → Held element 3 (bits_from input (a_place given t + 32) 3) c
        → a_output o element given input t ≡ o.zero → a (t + 4) ≡ (first_at t + second_number a t) % 2 ^ 32
    unfolding a_output
    a_forward t c lt hc z =
        word_follows o element size h given input (a_place given t) 3 (o.plus (first_sum o element given input t) (second_sum o element given input t)) (first_at t + second_number a t) (a (t + 4)) c (omega arith) big (a_sum t lt) (own_a t lt) hc z

    pub e_forward : (t c : ℕ) → t < 64 → Held element 3 (bits_from input (e_place given t + 32) 3) c
        → e_output o element given input t ≡ o.zero → e (t + 4) ≡ (a t + first_at t) % 2 ^ 32
    unfolding e_output
    e_forward t c lt hc z =
        word_follows o element size h given input (e_place given t) 3 (o.plus (worth o element 32 (a_word element given input t)) (first_sum o element given input t)) (a t + first_at t) (e (t + 4)) c (omega arith) big (e_sum t lt) (own_e t lt) hc z

    pub f_forward : (i n c f : ℕ) → i < 8 → Held element 32 (start_word element given input i) n → Held element 32 (final_word element given input i) f
        → Held element 1 (bits_from input (f_place given i + 32) 1) c → f_output o element given input i ≡ o.zero → f ≡ (n + last_number a e i) % 2 ^ 32
    unfolding f_output
    f_forward i n c f lt hn hf hc z =
        word_follows o element size h given input (f_place given i) 1 (o.plus (worth o element 32 (start_word element given input i)) (worth o element 32 (last_word element given input i))) (n + last_number a e i) f c (omega arith) big (f_sum i n lt hn) hf hc z

  -- ---- from numbers to outputs
  as_number : (place s n : ℕ) → n ≡ s → Held element 32 (bits_from input place 32) n → Held element 32 (bits_from input place 32) s
  as_number place s n eq g = subst (λ (k : ℕ). Held element 32 (bits_from input place 32) k) eq g

  pub w_backward : (t : ℕ) → 16 ≤ t → t < 64 → w t ≡ next_number w t % 2 ^ 32 → Held element 2 (bits_from input (w_place given t + 32) 2) (next_number w t / 2 ^ 32)
      → w_output o element given input t ≡ o.zero
  unfolding w_output
  w_backward t le lt eq hc =
      word_meets o element size h given input (w_place given t) 2 (next_sum o element given input t) (next_number w t) (w_sum t le lt).is (as_number (w_place given t) (next_number w t % 2 ^ 32) (w t) eq (own_w t le lt)) hc

  pub a_backward : (t : ℕ) → t < 64 → a (t + 4) ≡ (first_at t + second_number a t) % 2 ^ 32 → Held element 3 (bits_from input (a_place given t + 32) 3) ((first_at t + second_number a t) / 2 ^ 32)
      → a_output o element given input t ≡ o.zero
  unfolding a_output
  a_backward t lt eq hc =
      word_meets o element size h given input (a_place given t) 3 (o.plus (first_sum o element given input t) (second_sum o element given input t)) (first_at t + second_number a t) (a_sum t lt).is (as_number (a_place given t) ((first_at t + second_number a t) % 2 ^ 32) (a (t + 4)) eq (own_a t lt)) hc

  pub e_backward : (t : ℕ) → t < 64 → e (t + 4) ≡ (a t + first_at t) % 2 ^ 32 → Held element 3 (bits_from input (e_place given t + 32) 3) ((a t + first_at t) / 2 ^ 32)
      → e_output o element given input t ≡ o.zero
  unfolding e_output
  e_backward t lt eq hc =
      word_meets o element size h given input (e_place given t) 3 (o.plus (worth o element 32 (a_word element given input t)) (first_sum o element given input t)) (a t + first_at t) (e_sum t lt).is (as_number (e_place given t) ((a t + first_at t) % 2 ^ 32) (e (t + 4)) eq (own_e t lt)) hc

  pub f_backward : (i n f : ℕ) → i < 8 → Held element 32 (start_word element given input i) n → f ≡ (n + last_number a e i) % 2 ^ 32 → Held element 32 (final_word element given input i) f
      → Held element 1 (bits_from input (f_place given i + 32) 1) ((n + last_number a e i) / 2 ^ 32) → f_output o element given input i ≡ o.zero
  unfolding f_output
  f_backward i n f lt hn eq hf hc =
      word_meets o element size h given input (f_place given i) 1 (o.plus (worth o element 32 (start_word element given input i)) (worth o element 32 (last_word element given input i))) (n + last_number a e i) (f_sum i n lt hn).is (as_number (f_place given i) ((n + last_number a e i) % 2 ^ 32) f eq hf) hc
