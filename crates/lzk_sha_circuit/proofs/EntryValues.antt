-- What the entries of words and the rows of the outputs count, over the values of the inner layer.
use Rattle.std.specs.Prelude.{◌≡◌, ℕ, ◌+◌, ◌-◌, ◌*◌, ◌%◌, ◌^◌, ◌<◌, ◌≤◌, nat_lt, if◌then◌else◌, Bool, true, false, List, [], ◌∷◌, ◌++◌, length, slice_index}
use Rattle.std.proofs.Common.{suc, refl, ap, ◌∙◌, arith, get_or-append-add}
use Rattle.std.proofs.lemmas.List.{get_or_append_left}
use Rattle.lzk_field.specs.Ring.{Ops, RingLaws}
use Rattle.lzk_field.specs.Sums.{entry}
use Rattle.lzk_field.proofs.RingBasics.{one_times}
use Rattle.lzk_field.proofs.Solve.{var, unit, ◌⊞◌, ◌⊟◌, ◌⊠◌, opp, null, solve}
use Rattle.lzk_circuit.specs.Wires.{inputs_of}
use Rattle.sha2.specs.Sha256.{round_constants}
use Rattle.lzk_sha_circuit.specs.declared.products.Product.{Product}
use Rattle.lzk_sha_circuit.specs.declared.products.Entry.{Entry}
use Rattle.lzk_sha_circuit.specs.declared.bit.Bit.{Bit}
use Rattle.lzk_sha_circuit.specs.declared.bit.Bit.TheVariants.{Zero, One, Input}
use Rattle.lzk_sha_circuit.specs.declared.entries.Word.{Word}
use Rattle.lzk_sha_circuit.specs.declared.entries.Word.TheVariants.{State, Schedule, A, E}
use Rattle.lzk_sha_circuit.specs.Words.{worth, rotated, shifted, exclusive_or, ch, maj, big_sigma0, big_sigma1, small_sigma0, small_sigma1}
use Rattle.lzk_sha_circuit.specs.Places.{Places, IsBitOf, IsPlaced, bit_of, bit_value, bits_from, schedule_word, a_word, e_word, start_word, last_word, final_word, w_place, a_place, e_place, f_place}
use Rattle.lzk_sha_circuit.specs.Outputs.{with_carry, first_sum, w_output, a_output, e_output, f_output, digest_output, bit_output}
use Rattle.lzk_sha_circuit.specs.Products.{product_value, products_value, entry_value, linear, worth_list, or_word_list, ch_word_list, maj_word_list}
use Rattle.lzk_sha_circuit.specs.Layers.{input_count, IsWord, wire_entry, constant_entry, bit_entry, bits_entry, word_entry, turned_entry, shifted_entry, or_entry, or_place_w, or_place_round, carry_list, bit_row, w_row, first_list, a_row, e_row, last_word_of, f_row, digest_row}
use Rattle.lzk_sha_circuit.proofs.RowLaws.{value-append}
use Rattle.lzk_sha_circuit.proofs.RowValues.{worth_value, or_word_value, ch_word_value, maj_word_value}
use Rattle.lzk_sha_circuit.proofs.Within.{is_more}

module _ {X : Type 0} (o : Ops X) (r : RingLaws o) (element : ℕ → X) (given : Places) (ok : IsPlaced given) (public private : List X) (short : length public ≡ 8)
    (below : List X) (pass : (k : ℕ) → k < input_count given → entry o below k ≡ entry o (inputs_of o public private) k) where
  abbrev pub input : ℕ → X
  input = entry o private

  one : entry o below 0 ≡ o.one
  one = pass 0 (omega arith)

  private_wire : (j : ℕ) → entry o (inputs_of o public private) (9 + j) ≡ input j
  private_wire j =
      let place : 9 + j ≡ suc (length public + j) = omega (arith, short) in
      ap (λ k. entry o (o.one ∷ (public ++ private)) k) place ∙ get_or-append-add public private j o.zero

  wire_value : (j : ℕ) → 9 + j < input_count given → entry_value o below (wire_entry o (9 + j)) ≡ input j
  wire_value j lt = one_times o r (entry o below (9 + j)) ∙ pass (9 + j) lt ∙ private_wire j

  constant_value : (n : ℕ) → entry_value o below (constant_entry element n) ≡ element n
  constant_value n = ap (o.times (element n)) one ∙ r.times_one (element n)

  found_value : (x : Bit) → IsBitOf given.inputs x → entry_value o below (bit_entry o element x) ≡ bit_value element input x
  found_value Zero h = constant_value 0
  found_value One h = constant_value 1
  found_value (Input j) h = let lt = h j refl in wire_value j (omega (arith, lt))

  if_value : (b : Bool) (x y : Entry X) (u v : X) → (b ≡ true → entry_value o below x ≡ u) → (b ≡ false → entry_value o below y ≡ v)
      → entry_value o below (if b then x else y) ≡ (if b then u else v)
  if_value true x y u v hx hy = hx refl
  if_value false x y u v hx hy = hy refl

  -- the word of the definitions
  abbrev pub word_of : Word → ℕ → X
  word_of (State k) = start_word element given input k
  word_of (Schedule t) = schedule_word element given input t
  word_of (A s) = a_word element given input s
  word_of (E s) = e_word element given input s

  pub word_value : (w : Word) (i : ℕ) → IsWord w → entry_value o below (word_entry o element given w i) ≡ word_of w i
  unfolding word_entry
  word_value (State k) i hw = found_value (bit_of given.state (32 * k + (31 - i))) (ok.state_within (32 * k + (31 - i)))
  word_value (Schedule t) i hw =
      let x = bit_of given.block (32 * t + (31 - i)) in
      if_value (nat_lt t 16) (bit_entry o element x) (bits_entry o (w_place given t) 32 i) (bit_value element input x) (bits_from input (w_place given t) 32 i)
      (λ b. found_value x (ok.block_within (32 * t + (31 - i)))) (λ b. let l = is_more o element t 16 b in wire_value (w_place given t + (32 - 1 - i)) (omega (arith, l, hw)))
  word_value (A s) i hw =
      let x = bit_of given.state (32 * (3 - s) + (31 - i)) in
      if_value (nat_lt s 4) (bit_entry o element x) (bits_entry o (a_place given (s - 4)) 32 i) (bit_value element input x) (bits_from input (a_place given (s - 4)) 32 i)
      (λ b. found_value x (ok.state_within (32 * (3 - s) + (31 - i)))) (λ b. let l = is_more o element s 4 b in wire_value (a_place given (s - 4) + (32 - 1 - i)) (omega (arith, l, hw)))
  word_value (E s) i hw =
      let x = bit_of given.state (32 * (7 - s) + (31 - i)) in
      if_value (nat_lt s 4) (bit_entry o element x) (bits_entry o (e_place given (s - 4)) 32 i) (bit_value element input x) (bits_from input (e_place given (s - 4)) 32 i)
      (λ b. found_value x (ok.state_within (32 * (7 - s) + (31 - i)))) (λ b. let l = is_more o element s 4 b in wire_value (e_place given (s - 4) + (32 - 1 - i)) (omega (arith, l, hw)))

  pub turned_value : (w : Word) (k i : ℕ) → IsWord w → entry_value o below (turned_entry o element given w k i) ≡ rotated k (word_of w) i
  turned_value w k i hw = word_value w ((i + k) % 32) hw

  pub shifted_value : (w : Word) (k i : ℕ) → IsWord w → entry_value o below (shifted_entry o element given w k i) ≡ shifted o element k (word_of w) i
  shifted_value w k i hw =
      if_value (nat_lt (i + k) 32) (word_entry o element given w (i + k)) (constant_entry element 0) (word_of w (i + k)) (element 0)
      (λ b. word_value w (i + k) hw) (λ b. constant_value 0)

  -- ---- the rows, where the inner layer has the exclusive ors
  module _ (ors_w1 : (t i : ℕ) → 16 ≤ t → t < 64 → i < 32 → entry o below (input_count given + or_place_w o element t + i) ≡ exclusive_or o element (rotated 17 (word_of (Schedule (t - 2))) i) (rotated 19 (word_of (Schedule (t - 2))) i))
      (ors_w0 : (t i : ℕ) → 16 ≤ t → t < 64 → i < 32 → entry o below (input_count given + (or_place_w o element t + 32) + i) ≡ exclusive_or o element (rotated 7 (word_of (Schedule (t - 15))) i) (rotated 18 (word_of (Schedule (t - 15))) i)) where
    scaled_bits : (s : X) (place n : ℕ) → place + n ≤ given.inputs + 6376 → products_value o below (worth_list o element s n (bits_entry o place n)) ≡ o.times s (worth o element n (bits_from input place n))
    scaled_bits s place n le = worth_value o r element below one s n (bits_entry o place n) (bits_from input place n) (λ i lt. wire_value (place + (n - 1 - i)) (omega (arith, le, lt)))

    carry_value : (place bits : ℕ) → place + 32 + bits ≤ given.inputs + 6376
        → products_value o below (carry_list o element place bits) ≡ o.neg (with_carry o element given input place bits)
    carry_value place bits le =
        let x = worth o element 32 (bits_from input place 32) in
        let y = worth o element bits (bits_from input (place + 32) bits) in
        let m = element (2 ^ 32) in
        value-append o r below (worth_list o element (o.neg o.one) 32 (bits_entry o place 32)) (worth_list o element (o.neg m) bits (bits_entry o (place + 32) bits))
        ∙ (λ i. o.plus (scaled_bits (o.neg o.one) place 32 (omega (arith, le)) i) (scaled_bits (o.neg m) (place + 32) bits (omega (arith, le)) i))
        ∙ solve o r (x ∷ y ∷ m ∷ []) (opp unit ⊠ var 0 ⊞ opp (var 2) ⊠ var 1) (opp (var 0 ⊞ var 2 ⊠ var 1)) refl

    word_worth : (w : Word) → IsWord w → products_value o below (worth_list o element o.one 32 (word_entry o element given w)) ≡ worth o element 32 (word_of w)
    word_worth w hw = worth_value o r element below one o.one 32 (word_entry o element given w) (word_of w) (λ i lt. word_value w i hw) ∙ one_times o r (worth o element 32 (word_of w))

    or_wire : (place i : ℕ) (v : X) → entry o below (input_count given + place + i) ≡ v → entry_value o below (or_entry o element given place i) ≡ v
    or_wire place i v e = one_times o r (entry o below (input_count given + place + i)) ∙ e

    pub w_row_value : (t : ℕ) → 16 ≤ t → t < 64 → products_value o below (w_row o element given t) ≡ w_output o element given input t
    unfolding w_row w_output
    w_row_value t le lt =
        let w = schedule_word element given input in
        let s1 = worth o element 32 (small_sigma1 o element (w (t - 2))) in
        let s7 = worth o element 32 (w (t - 7)) in
        let s0 = worth o element 32 (small_sigma0 o element (w (t - 15))) in
        let s16 = worth o element 32 (w (t - 16)) in
        let last = with_carry o element given input (w_place given t) 2 in
        let l1 = or_word_list o element (or_entry o element given (or_place_w o element t)) (shifted_entry o element given (Schedule (t - 2)) 10) in
        let l7 = worth_list o element o.one 32 (word_entry o element given (Schedule (t - 7))) in
        let l0 = or_word_list o element (or_entry o element given (or_place_w o element t + 32)) (shifted_entry o element given (Schedule (t - 15)) 3) in
        let l16 = worth_list o element o.one 32 (word_entry o element given (Schedule (t - 16))) in
        let lc = carry_list o element (w_place given t) 2 in
        let v1 : products_value o below l1 ≡ s1 =
        or_word_value o r element below one (or_entry o element given (or_place_w o element t)) (shifted_entry o element given (Schedule (t - 2)) 10)
        (λ i. exclusive_or o element (rotated 17 (w (t - 2)) i) (rotated 19 (w (t - 2)) i)) (shifted o element 10 (w (t - 2)))
        (λ i l. or_wire (or_place_w o element t) i (exclusive_or o element (rotated 17 (w (t - 2)) i) (rotated 19 (w (t - 2)) i)) (ors_w1 t i le lt l)) (λ i l. shifted_value (Schedule (t - 2)) 10 i (omega arith)) in
        let v0 : products_value o below l0 ≡ s0 =
        or_word_value o r element below one (or_entry o element given (or_place_w o element t + 32)) (shifted_entry o element given (Schedule (t - 15)) 3)
        (λ i. exclusive_or o element (rotated 7 (w (t - 15)) i) (rotated 18 (w (t - 15)) i)) (shifted o element 3 (w (t - 15)))
        (λ i l. or_wire (or_place_w o element t + 32) i (exclusive_or o element (rotated 7 (w (t - 15)) i) (rotated 18 (w (t - 15)) i)) (ors_w0 t i le lt l)) (λ i l. shifted_value (Schedule (t - 15)) 3 i (omega arith)) in
        let v7 = word_worth (Schedule (t - 7)) (omega arith) in
        let v16 = word_worth (Schedule (t - 16)) (omega arith) in
        let vc = carry_value (w_place given t) 2 (omega arith) in
        value-append o r below l1 (l7 ++ (l0 ++ (l16 ++ lc)))
        ∙ ap (o.plus (products_value o below l1)) (value-append o r below l7 (l0 ++ (l16 ++ lc)) ∙ ap (o.plus (products_value o below l7)) (value-append o r below l0 (l16 ++ lc) ∙ ap (o.plus (products_value o below l0)) (value-append o r below l16 lc)))
        ∙ (λ i. o.plus (v1 i) (o.plus (v7 i) (o.plus (v0 i) (o.plus (v16 i) (vc i)))))
        ∙ solve o r (s1 ∷ s7 ∷ s0 ∷ s16 ∷ last ∷ []) (var 0 ⊞ (var 1 ⊞ (var 2 ⊞ (var 3 ⊞ opp (var 4))))) ((((var 0 ⊞ var 1) ⊞ var 2) ⊞ var 3) ⊟ var 4) refl

    -- ---- rounds
    module _ (ors_e : (t i : ℕ) → t < 64 → i < 32 → entry o below (input_count given + or_place_round o element t + i) ≡ exclusive_or o element (rotated 6 (word_of (E (t + 3))) i) (rotated 11 (word_of (E (t + 3))) i))
        (ors_a : (t i : ℕ) → t < 64 → i < 32 → entry o below (input_count given + (or_place_round o element t + 32) + i) ≡ exclusive_or o element (rotated 2 (word_of (A (t + 3))) i) (rotated 13 (word_of (A (t + 3))) i))
        (ors_m : (t i : ℕ) → t < 64 → i < 32 → entry o below (input_count given + (or_place_round o element t + 64) + i) ≡ exclusive_or o element (word_of (A (t + 3)) i) (word_of (A (t + 2)) i)) where
      number_value : (n : ℕ) → product_value o below (record { coef = element n; a = 0; b = 0 }) ≡ element n
      number_value n = (λ i. o.times (element n) (o.times (one i) (one i))) ∙ ap (o.times (element n)) (r.times_one o.one) ∙ r.times_one (element n)

      first_value : (t : ℕ) → t < 64 → products_value o below (first_list o element given t) ≡ first_sum o element given input t
      unfolding first_list
      first_value t lt =
          let e = e_word element given input in
          let s0 = worth o element 32 (e t) in
          let s1 = worth o element 32 (big_sigma1 o element (e (t + 3))) in
          let s2 = worth o element 32 (ch o element (e (t + 3)) (e (t + 2)) (e (t + 1))) in
          let s3 = element (slice_index round_constants t) in
          let s4 = worth o element 32 (schedule_word element given input t) in
          let l0 = worth_list o element o.one 32 (word_entry o element given (E t)) in
          let l1 = or_word_list o element (or_entry o element given (or_place_round o element t)) (turned_entry o element given (E (t + 3)) 25) in
          let l2 = ch_word_list o element (word_entry o element given (E (t + 3))) (word_entry o element given (E (t + 2))) (word_entry o element given (E (t + 1))) in
          let p3 : Product X = record { coef = s3; a = 0; b = 0 } in
          let l4 = worth_list o element o.one 32 (word_entry o element given (Schedule t)) in
          let v0 = word_worth (E t) (omega arith) in
          let v1 : products_value o below l1 ≡ s1 =
          or_word_value o r element below one (or_entry o element given (or_place_round o element t)) (turned_entry o element given (E (t + 3)) 25)
          (λ i. exclusive_or o element (rotated 6 (e (t + 3)) i) (rotated 11 (e (t + 3)) i)) (rotated 25 (e (t + 3)))
          (λ i l. or_wire (or_place_round o element t) i (exclusive_or o element (rotated 6 (e (t + 3)) i) (rotated 11 (e (t + 3)) i)) (ors_e t i lt l)) (λ i l. turned_value (E (t + 3)) 25 i (omega arith)) in
          let v2 : products_value o below l2 ≡ s2 =
          ch_word_value o r element below one (word_entry o element given (E (t + 3))) (word_entry o element given (E (t + 2))) (word_entry o element given (E (t + 1))) (e (t + 3)) (e (t + 2)) (e (t + 1))
          (λ i l. word_value (E (t + 3)) i (omega arith)) (λ i l. word_value (E (t + 2)) i (omega arith)) (λ i l. word_value (E (t + 1)) i (omega arith)) in
          let v4 = word_worth (Schedule t) lt in
          value-append o r below l0 (l1 ++ (l2 ++ (p3 ∷ l4)))
          ∙ ap (o.plus (products_value o below l0)) (value-append o r below l1 (l2 ++ (p3 ∷ l4)) ∙ ap (o.plus (products_value o below l1)) (value-append o r below l2 (p3 ∷ l4)))
          ∙ (λ i. o.plus (v0 i) (o.plus (v1 i) (o.plus (v2 i) (o.plus (number_value (slice_index round_constants t) i) (v4 i)))))
          ∙ solve o r (s0 ∷ s1 ∷ s2 ∷ s3 ∷ s4 ∷ []) (var 0 ⊞ (var 1 ⊞ (var 2 ⊞ (var 3 ⊞ var 4)))) ((((var 0 ⊞ var 1) ⊞ var 2) ⊞ var 3) ⊞ var 4) refl

      pub a_row_value : (t : ℕ) → t < 64 → products_value o below (a_row o element given t) ≡ a_output o element given input t
      unfolding a_row a_output
      a_row_value t lt =
          let a = a_word element given input in
          let f = first_sum o element given input t in
          let s1 = worth o element 32 (big_sigma0 o element (a (t + 3))) in
          let s2 = worth o element 32 (maj o element (a (t + 3)) (a (t + 2)) (a (t + 1))) in
          let last = with_carry o element given input (a_place given t) 3 in
          let l0 = first_list o element given t in
          let l1 = or_word_list o element (or_entry o element given (or_place_round o element t + 32)) (turned_entry o element given (A (t + 3)) 22) in
          let l2 = maj_word_list o element (word_entry o element given (A (t + 3))) (word_entry o element given (A (t + 2))) (word_entry o element given (A (t + 1))) (or_entry o element given (or_place_round o element t + 64)) in
          let lc = carry_list o element (a_place given t) 3 in
          let v1 : products_value o below l1 ≡ s1 =
          or_word_value o r element below one (or_entry o element given (or_place_round o element t + 32)) (turned_entry o element given (A (t + 3)) 22)
          (λ i. exclusive_or o element (rotated 2 (a (t + 3)) i) (rotated 13 (a (t + 3)) i)) (rotated 22 (a (t + 3)))
          (λ i l. or_wire (or_place_round o element t + 32) i (exclusive_or o element (rotated 2 (a (t + 3)) i) (rotated 13 (a (t + 3)) i)) (ors_a t i lt l)) (λ i l. turned_value (A (t + 3)) 22 i (omega arith)) in
          let v2 : products_value o below l2 ≡ s2 =
          maj_word_value o r element below one (word_entry o element given (A (t + 3))) (word_entry o element given (A (t + 2))) (word_entry o element given (A (t + 1))) (or_entry o element given (or_place_round o element t + 64)) (a (t + 3)) (a (t + 2)) (a (t + 1))
          (λ i l. word_value (A (t + 3)) i (omega arith)) (λ i l. word_value (A (t + 2)) i (omega arith)) (λ i l. word_value (A (t + 1)) i (omega arith)) (λ i l. or_wire (or_place_round o element t + 64) i (exclusive_or o element (a (t + 3) i) (a (t + 2) i)) (ors_m t i lt l)) in
          let vc = carry_value (a_place given t) 3 (omega arith) in
          value-append o r below l0 (l1 ++ (l2 ++ lc))
          ∙ ap (o.plus (products_value o below l0)) (value-append o r below l1 (l2 ++ lc) ∙ ap (o.plus (products_value o below l1)) (value-append o r below l2 lc))
          ∙ (λ i. o.plus (first_value t lt i) (o.plus (v1 i) (o.plus (v2 i) (vc i))))
          ∙ solve o r (f ∷ s1 ∷ s2 ∷ last ∷ []) (var 0 ⊞ (var 1 ⊞ (var 2 ⊞ opp (var 3)))) ((var 0 ⊞ (var 1 ⊞ var 2)) ⊟ var 3) refl

      pub e_row_value : (t : ℕ) → t < 64 → products_value o below (e_row o element given t) ≡ e_output o element given input t
      unfolding e_row e_output
      e_row_value t lt =
          let s0 = worth o element 32 (a_word element given input t) in
          let f = first_sum o element given input t in
          let last = with_carry o element given input (e_place given t) 3 in
          let l0 = worth_list o element o.one 32 (word_entry o element given (A t)) in
          let l1 = first_list o element given t in
          let lc = carry_list o element (e_place given t) 3 in
          value-append o r below l0 (l1 ++ lc) ∙ ap (o.plus (products_value o below l0)) (value-append o r below l1 lc)
          ∙ (λ i. o.plus (word_worth (A t) (omega arith) i) (o.plus (first_value t lt i) (carry_value (e_place given t) 3 (omega arith) i)))
          ∙ solve o r (s0 ∷ f ∷ last ∷ []) (var 0 ⊞ (var 1 ⊞ opp (var 2))) ((var 0 ⊞ var 1) ⊟ var 2) refl

      last_value : (i : ℕ) → i < 8 → products_value o below (worth_list o element o.one 32 (word_entry o element given (last_word_of o element i))) ≡ worth o element 32 (last_word element given input i)
      last_value i lt = pick (nat_lt i 4) (is_more o element i 4) where
        pick : (b : Bool) → (b ≡ false → 4 ≤ i) → products_value o below (worth_list o element o.one 32 (word_entry o element given (if b then A (67 - i) else E (71 - i)))) ≡ worth o element 32 (if b then a_word element given input (67 - i) else e_word element given input (71 - i))
        pick true high = word_worth (A (67 - i)) (omega arith)
        pick false high = let l = high refl in word_worth (E (71 - i)) (omega (arith, l))

      pub f_row_value : (i : ℕ) → i < 8 → products_value o below (f_row o element given i) ≡ f_output o element given input i
      unfolding f_row f_output
      f_row_value i lt =
          let n = worth o element 32 (start_word element given input i) in
          let s = worth o element 32 (last_word element given input i) in
          let last = with_carry o element given input (f_place given i) 1 in
          let l0 = worth_list o element o.one 32 (word_entry o element given (State i)) in
          let l1 = worth_list o element o.one 32 (word_entry o element given (last_word_of o element i)) in
          let lc = carry_list o element (f_place given i) 1 in
          value-append o r below l0 (l1 ++ lc) ∙ ap (o.plus (products_value o below l0)) (value-append o r below l1 lc)
          ∙ (λ j. o.plus (word_worth (State i) lt j) (o.plus (last_value i lt j) (carry_value (f_place given i) 1 (omega arith) j)))
          ∙ solve o r (n ∷ s ∷ last ∷ []) (var 0 ⊞ (var 1 ⊞ opp (var 2))) ((var 0 ⊞ var 1) ⊟ var 2) refl

      public_wire : (i : ℕ) → i < 8 → entry o below (1 + i) ≡ entry o public i
      public_wire i lt =
          let place : 1 + i ≡ suc i = omega arith in
          pass (1 + i) (omega arith) ∙ ap (λ k. entry o (o.one ∷ (public ++ private)) k) place ∙ get_or_append_left public private o.zero i (omega (arith, short))

      pub digest_row_value : (i : ℕ) → i < 8 → products_value o below (digest_row o element given i) ≡ digest_output o element given input public i
      unfolding digest_row digest_output
      digest_row_value i lt =
          let s = worth o element 32 (final_word element given input i) in
          let v = entry o public i in
          let l1 = worth_list o element o.one 32 (bits_entry o (f_place given i) 32) in
          let p = linear o (o.neg o.one) (wire_entry o (1 + i)) in
          value-append o r below l1 (p ∷ [])
          ∙ (λ j. o.plus ((scaled_bits o.one (f_place given i) 32 (omega (arith, lt)) ∙ one_times o r s) j) (o.plus (o.times (o.times (o.neg o.one) o.one) (o.times (one j) (public_wire i lt j))) o.zero))
          ∙ solve o r (s ∷ v ∷ []) (var 0 ⊞ ((opp unit ⊠ unit) ⊠ (unit ⊠ var 1) ⊞ null)) (var 0 ⊟ var 1) refl

      pub bit_row_value : (j : ℕ) → j < given.inputs + 6376 → products_value o below (bit_row o j) ≡ bit_output o (input j)
      unfolding bit_row
      bit_row_value j lt =
          let x = input j in
          let e = pass (9 + j) (omega (arith, lt)) ∙ private_wire j in
          (λ i. o.plus (o.times (o.times o.one (o.times o.one o.one)) (o.times (e i) (e i))) (o.plus (o.times (o.times (o.neg o.one) o.one) (o.times (one i) (e i))) o.zero))
          ∙ solve o r (x ∷ []) ((unit ⊠ (unit ⊠ unit)) ⊠ (var 0 ⊠ var 0) ⊞ ((opp unit ⊠ unit) ⊠ (unit ⊠ var 0) ⊞ null)) (var 0 ⊠ var 0 ⊟ var 0) refl
