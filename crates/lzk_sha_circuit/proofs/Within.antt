-- The rows name wires of the layer below.
use Rattle.std.specs.Prelude.{◌≡◌, ℕ, ◌+◌, ◌-◌, ◌*◌, ◌%◌, ◌^◌, ◌<◌, ◌≤◌, nat_lt, if◌then◌else◌, Bool, true, false, List, [], ◌∷◌, ◌++◌, length, slice_index}
use Rattle.std.specs.List.{range_with_len, flat_map}
use Rattle.std.proofs.Common.{zero, suc, inl, inr, refl, ap, ◌∙◌, arith, lt-ltb, le-ltb, length-append}
use Rattle.std.proofs.lemmas.Bool.{cases_lt}
use Rattle.std.proofs.lemmas.List.FromFn.{length-map-range_with_len}
use Rattle.lzk_field.specs.Ring.{Ops}
use Rattle.sha2.specs.Sha256.{round_constants}
use Rattle.lzk_sha_circuit.specs.declared.products.Product.{Product}
use Rattle.lzk_sha_circuit.specs.declared.products.Entry.{Entry}
use Rattle.lzk_sha_circuit.specs.declared.bit.Bit.{Bit}
use Rattle.lzk_sha_circuit.specs.declared.bit.Bit.TheVariants.{Zero, One, Input}
use Rattle.lzk_sha_circuit.specs.declared.entries.Word.{Word}
use Rattle.lzk_sha_circuit.specs.declared.entries.Word.TheVariants.{State, Schedule, A, E}
use Rattle.lzk_sha_circuit.specs.Places.{Places, IsBitOf, IsPlaced, bit_of, w_place, a_place, e_place, f_place}
use Rattle.lzk_sha_circuit.specs.Products.{AreWithin, linear, or_list, chosen_list, most_list, worth_list, or_word_list, ch_word_list, maj_word_list}
use Rattle.lzk_sha_circuit.specs.Layers.{input_count, inner_count, IsWord, constant_entry, bit_entry, bits_entry, word_entry, turned_entry, shifted_entry, or_entry, or_place_w, or_place_round, pair_rows, schedule_pairs, round_pairs, carry_list, bit_row, w_row, first_list, a_row, e_row, last_word_of, f_row, digest_row}
use Rattle.lzk_sha_circuit.proofs.RowLaws.{within-append}

within_chunks : {X : Type 0} (width : ℕ) (f : ℕ → List (Product X)) (n a : ℕ) → ((i : ℕ) → a ≤ i → i < a + n → AreWithin width (f i)) → AreWithin width (flat_map f (range_with_len a n))
within_chunks width f zero a h = tt
within_chunks width f (suc n) a h = within-append width (f a) (flat_map f (range_with_len (a + 1) n)) (h a (omega arith) (omega arith)) (within_chunks width f n (a + 1) (λ i le lt. h i (omega arith) (omega arith)))

module _ {X : Type 0} (o : Ops X) (element : ℕ → X) where
  -- an entry names a wire of so many
  if_within : (width : ℕ) (b : Bool) (x y : Entry X) → (b ≡ true → x.wire < width) → (b ≡ false → y.wire < width) → (if b then x else y).wire < width
  if_within width true x y hx hy = hx refl
  if_within width false x y hx hy = hy refl

  pub is_less : (m n : ℕ) → nat_lt m n ≡ true → m < n
  is_less m n e = elim (cases_lt m n) [ inl l ↦ l | inr l ↦ absurd (let f = le-ltb m n l in cc) ]

  pub is_more : (m n : ℕ) → nat_lt m n ≡ false → n ≤ m
  is_more m n e = elim (cases_lt m n) [ inl l ↦ absurd (let f = lt-ltb m n l in cc) | inr l ↦ l ]

  bit_within : (n : ℕ) (x : Bit) → IsBitOf n x → (bit_entry o element x).wire < n + 6385
  bit_within n Zero h = omega arith
  bit_within n One h = omega arith
  bit_within n (Input j) h = let lt = h j refl in omega (arith, lt)

  pub word_within : (given : Places) → IsPlaced given → (w : Word) (i : ℕ) → IsWord w → (word_entry o element given w i).wire < input_count given
  unfolding word_entry
  word_within given ok (State k) i hw = bit_within given.inputs (bit_of given.state (32 * k + (31 - i))) (ok.state_within (32 * k + (31 - i)))
  word_within given ok (Schedule t) i hw =
      if_within (input_count given) (nat_lt t 16) (bit_entry o element (bit_of given.block (32 * t + (31 - i)))) (bits_entry o (w_place given t) 32 i)
      (λ b. bit_within given.inputs (bit_of given.block (32 * t + (31 - i))) (ok.block_within (32 * t + (31 - i)))) (λ b. let l = is_more t 16 b in omega (arith, l, hw))
  word_within given ok (A s) i hw =
      if_within (input_count given) (nat_lt s 4) (bit_entry o element (bit_of given.state (32 * (3 - s) + (31 - i)))) (bits_entry o (a_place given (s - 4)) 32 i)
      (λ b. bit_within given.inputs (bit_of given.state (32 * (3 - s) + (31 - i))) (ok.state_within (32 * (3 - s) + (31 - i)))) (λ b. let l = is_more s 4 b in omega (arith, l, hw))
  word_within given ok (E s) i hw =
      if_within (input_count given) (nat_lt s 4) (bit_entry o element (bit_of given.state (32 * (7 - s) + (31 - i)))) (bits_entry o (e_place given (s - 4)) 32 i)
      (λ b. bit_within given.inputs (bit_of given.state (32 * (7 - s) + (31 - i))) (ok.state_within (32 * (7 - s) + (31 - i)))) (λ b. let l = is_more s 4 b in omega (arith, l, hw))

  -- ---- formulas
  pub or_within : (width : ℕ) (s : X) (x y : Entry X) → x.wire < width → y.wire < width → AreWithin width (or_list o element s x y)
  or_within width s x y hx hy = (omega (arith, hx), hx, (omega (arith, hx), hy, (hx, hy, tt)))

  chosen_within : (width : ℕ) (s : X) (e f g : Entry X) → e.wire < width → f.wire < width → g.wire < width → AreWithin width (chosen_list o s e f g)
  chosen_within width s e f g he hf hg = (he, hf, (he, hg, (omega (arith, he), hg, tt)))

  most_within : (width : ℕ) (s : X) (x y z u : Entry X) → x.wire < width → y.wire < width → z.wire < width → u.wire < width → AreWithin width (most_list o s x y z u)
  most_within width s x y z u hx hy hz hu = (hx, hy, (hz, hu, tt))

  module _ (width : ℕ) where
    worth_within : (s : X) (n : ℕ) (w : ℕ → Entry X) → 1 ≤ width → ((i : ℕ) → i < n → (w i).wire < width) → AreWithin width (worth_list o element s n w)
    unfolding worth_list
    worth_within s n w some h = within_chunks width (λ i. linear o (o.times s (element (2 ^ i))) (w i) ∷ []) n 0 (λ i le lt. (omega (arith, some), h i (omega arith), tt))

    or_word_within : (u z : ℕ → Entry X) → ((i : ℕ) → i < 32 → (u i).wire < width) → ((i : ℕ) → i < 32 → (z i).wire < width) → AreWithin width (or_word_list o element u z)
    unfolding or_word_list
    or_word_within u z hu hz = within_chunks width (λ i. or_list o element (element (2 ^ i)) (u i) (z i)) 32 0 (λ i le lt. or_within width (element (2 ^ i)) (u i) (z i) (hu i (omega arith)) (hz i (omega arith)))

    ch_word_within : (e f g : ℕ → Entry X) → ((i : ℕ) → i < 32 → (e i).wire < width) → ((i : ℕ) → i < 32 → (f i).wire < width) → ((i : ℕ) → i < 32 → (g i).wire < width) → AreWithin width (ch_word_list o element e f g)
    unfolding ch_word_list
    ch_word_within e f g he hf hg =
        within_chunks width (λ i. chosen_list o (element (2 ^ i)) (e i) (f i) (g i)) 32 0 (λ i le lt. chosen_within width (element (2 ^ i)) (e i) (f i) (g i) (he i (omega arith)) (hf i (omega arith)) (hg i (omega arith)))

    maj_word_within : (x y z u : ℕ → Entry X) → ((i : ℕ) → i < 32 → (x i).wire < width) → ((i : ℕ) → i < 32 → (y i).wire < width) → ((i : ℕ) → i < 32 → (z i).wire < width) → ((i : ℕ) → i < 32 → (u i).wire < width)
        → AreWithin width (maj_word_list o element x y z u)
    unfolding maj_word_list
    maj_word_within x y z u hx hy hz hu =
        within_chunks width (λ i. most_list o (element (2 ^ i)) (x i) (y i) (z i) (u i)) 32 0 (λ i le lt. most_within width (element (2 ^ i)) (x i) (y i) (z i) (u i) (hx i (omega arith)) (hy i (omega arith)) (hz i (omega arith)) (hu i (omega arith)))

  pub turned_within : (given : Places) → IsPlaced given → (w : Word) (k i : ℕ) → IsWord w → (turned_entry o element given w k i).wire < input_count given
  turned_within given ok w k i hw = word_within given ok w ((i + k) % 32) hw

  -- ---- the rows of the outputs
  module _ (given : Places) (ok : IsPlaced given) where
    below_inner : (k : ℕ) → k < input_count given → k < inner_count given
    below_inner k l = omega (arith, l)

    some : 1 ≤ inner_count given
    some = omega arith

    entries : (w : Word) → IsWord w → (i : ℕ) → i < 32 → (word_entry o element given w i).wire < inner_count given
    entries w hw i lt = below_inner _ (word_within given ok w i hw)

    turned_entries : (w : Word) (k : ℕ) → IsWord w → (i : ℕ) → i < 32 → (turned_entry o element given w k i).wire < inner_count given
    turned_entries w k hw i lt = below_inner _ (turned_within given ok w k i hw)

    shifted_entries : (w : Word) (k : ℕ) → IsWord w → (i : ℕ) → i < 32 → (shifted_entry o element given w k i).wire < inner_count given
    shifted_entries w k hw i lt =
        if_within (inner_count given) (nat_lt (i + k) 32) (word_entry o element given w (i + k)) (constant_entry element 0)
        (λ b. below_inner _ (word_within given ok w (i + k) hw)) (λ b. omega arith)

    ors : (place : ℕ) → place + 32 ≤ 9216 → (i : ℕ) → i < 32 → (or_entry o element given place i).wire < inner_count given
    ors place le i lt = omega (arith, le, lt)

    bits_within : (place n i : ℕ) → place + n ≤ given.inputs + 6376 → i < n → (bits_entry o place n i).wire < inner_count given
    bits_within place n i le lt = omega (arith, le, lt)

    carry_within : (place bits : ℕ) → place + 32 + bits ≤ given.inputs + 6376 → AreWithin (inner_count given) (carry_list o element place bits)
    carry_within place bits le =
        within-append (inner_count given) (worth_list o element (o.neg o.one) 32 (bits_entry o place 32)) (worth_list o element (o.neg (element (2 ^ 32))) bits (bits_entry o (place + 32) bits))
        (worth_within (inner_count given) (o.neg o.one) 32 (bits_entry o place 32) some (λ i lt. bits_within place 32 i (omega (arith, le)) lt))
        (worth_within (inner_count given) (o.neg (element (2 ^ 32))) bits (bits_entry o (place + 32) bits) some (λ i lt. bits_within (place + 32) bits i (omega (arith, le)) lt))

    word_worth : (w : Word) → IsWord w → AreWithin (inner_count given) (worth_list o element o.one 32 (word_entry o element given w))
    word_worth w hw = worth_within (inner_count given) o.one 32 (word_entry o element given w) some (entries w hw)

    pub bit_row_within : (j : ℕ) → j < given.inputs + 6376 → AreWithin (inner_count given) (bit_row o j)
    unfolding bit_row
    bit_row_within j lt = (omega (arith, lt), omega (arith, lt), (omega arith, omega (arith, lt), tt))

    pub w_row_within : (t : ℕ) → 16 ≤ t → t < 64 → AreWithin (inner_count given) (w_row o element given t)
    unfolding w_row
    w_row_within t le lt =
        within-append (inner_count given) (or_word_list o element (or_entry o element given (or_place_w o element t)) (shifted_entry o element given (Schedule (t - 2)) 10)) _
        (or_word_within (inner_count given) _ _ (ors (64 * (t - 16)) (omega arith)) (shifted_entries (Schedule (t - 2)) 10 (omega arith)))
        (within-append (inner_count given) (worth_list o element o.one 32 (word_entry o element given (Schedule (t - 7)))) _ (word_worth (Schedule (t - 7)) (omega arith))
        (within-append (inner_count given) (or_word_list o element (or_entry o element given (or_place_w o element t + 32)) (shifted_entry o element given (Schedule (t - 15)) 3)) _
        (or_word_within (inner_count given) _ _ (ors (64 * (t - 16) + 32) (omega arith)) (shifted_entries (Schedule (t - 15)) 3 (omega arith)))
        (within-append (inner_count given) (worth_list o element o.one 32 (word_entry o element given (Schedule (t - 16)))) _ (word_worth (Schedule (t - 16)) (omega arith))
        (carry_within (w_place given t) 2 (omega arith)))))

    first_within : (t : ℕ) → t < 64 → AreWithin (inner_count given) (first_list o element given t)
    unfolding first_list
    first_within t lt =
        within-append (inner_count given) (worth_list o element o.one 32 (word_entry o element given (E t))) _ (word_worth (E t) (omega arith))
        (within-append (inner_count given) (or_word_list o element (or_entry o element given (or_place_round o element t)) (turned_entry o element given (E (t + 3)) 25)) _
        (or_word_within (inner_count given) _ _ (ors (3072 + 96 * t) (omega arith)) (turned_entries (E (t + 3)) 25 (omega arith)))
        (within-append (inner_count given) (ch_word_list o element (word_entry o element given (E (t + 3))) (word_entry o element given (E (t + 2))) (word_entry o element given (E (t + 1)))) _
        (ch_word_within (inner_count given) _ _ _ (entries (E (t + 3)) (omega arith)) (entries (E (t + 2)) (omega arith)) (entries (E (t + 1)) (omega arith)))
        (within-append (inner_count given) (record { coef = element (slice_index round_constants t); a = 0; b = 0 } ∷ []) (worth_list o element o.one 32 (word_entry o element given (Schedule t))) (omega arith, omega arith, tt) (word_worth (Schedule t) lt))))

    pub a_row_within : (t : ℕ) → t < 64 → AreWithin (inner_count given) (a_row o element given t)
    unfolding a_row
    a_row_within t lt =
        within-append (inner_count given) (first_list o element given t) _ (first_within t lt)
        (within-append (inner_count given) (or_word_list o element (or_entry o element given (or_place_round o element t + 32)) (turned_entry o element given (A (t + 3)) 22)) _
        (or_word_within (inner_count given) _ _ (ors (3072 + 96 * t + 32) (omega arith)) (turned_entries (A (t + 3)) 22 (omega arith)))
        (within-append (inner_count given) (maj_word_list o element (word_entry o element given (A (t + 3))) (word_entry o element given (A (t + 2))) (word_entry o element given (A (t + 1))) (or_entry o element given (or_place_round o element t + 64))) _
        (maj_word_within (inner_count given) _ _ _ _ (entries (A (t + 3)) (omega arith)) (entries (A (t + 2)) (omega arith)) (entries (A (t + 1)) (omega arith)) (ors (3072 + 96 * t + 64) (omega arith)))
        (carry_within (a_place given t) 3 (omega arith))))

    pub e_row_within : (t : ℕ) → t < 64 → AreWithin (inner_count given) (e_row o element given t)
    unfolding e_row
    e_row_within t lt =
        within-append (inner_count given) (worth_list o element o.one 32 (word_entry o element given (A t))) _ (word_worth (A t) (omega arith))
        (within-append (inner_count given) (first_list o element given t) _ (first_within t lt) (carry_within (e_place given t) 3 (omega arith)))

    last_is_word : (b : Bool) (i : ℕ) → i < 8 → (b ≡ false → 4 ≤ i) → IsWord (if b then A (67 - i) else E (71 - i))
    last_is_word true i lt high = omega arith
    last_is_word false i lt high = let l = high refl in omega (arith, l)

    pub f_row_within : (i : ℕ) → i < 8 → AreWithin (inner_count given) (f_row o element given i)
    unfolding f_row
    f_row_within i lt =
        let last = last_is_word (nat_lt i 4) i lt (is_more i 4) in
        within-append (inner_count given) (worth_list o element o.one 32 (word_entry o element given (State i))) _ (word_worth (State i) lt)
        (within-append (inner_count given) (worth_list o element o.one 32 (word_entry o element given (last_word_of o element i))) _ (word_worth (last_word_of o element i) last) (carry_within (f_place given i) 1 (omega arith)))

    pub digest_row_within : (i : ℕ) → i < 8 → AreWithin (inner_count given) (digest_row o element given i)
    unfolding digest_row
    digest_row_within i lt =
        within-append (inner_count given) (worth_list o element o.one 32 (bits_entry o (f_place given i) 32)) _ (worth_within (inner_count given) o.one 32 (bits_entry o (f_place given i) 32) some (λ j l. bits_within (f_place given i) 32 j (omega (arith, lt)) l)) (omega arith, omega arith, tt)

  -- ---- how many rows
  module _ (given : Places) where
    pub length-pair_rows : (x : Word) (j : ℕ) (y : Word) (k : ℕ) → length (pair_rows o element given x j y k) ≡ 32
    unfolding pair_rows
    length-pair_rows x j y k = length-map-range_with_len (λ i. or_list o element o.one (turned_entry o element given x j i) (turned_entry o element given y k i)) 0 32

    pub length-schedule_pairs : (t : ℕ) → length (schedule_pairs o element given t) ≡ 64
    unfolding schedule_pairs
    length-schedule_pairs t =
        let p = pair_rows o element given (Schedule (t - 2)) 17 (Schedule (t - 2)) 19 in
        let q = pair_rows o element given (Schedule (t - 15)) 7 (Schedule (t - 15)) 18 in
        length-append p q ∙ (λ i. length-pair_rows (Schedule (t - 2)) 17 (Schedule (t - 2)) 19 i + length-pair_rows (Schedule (t - 15)) 7 (Schedule (t - 15)) 18 i)

    pub length-round_pairs : (t : ℕ) → length (round_pairs o element given t) ≡ 96
    unfolding round_pairs
    length-round_pairs t =
        let p = pair_rows o element given (E (t + 3)) 6 (E (t + 3)) 11 in
        let q = pair_rows o element given (A (t + 3)) 2 (A (t + 3)) 13 in
        let r = pair_rows o element given (A (t + 3)) 0 (A (t + 2)) 0 in
        length-append p (q ++ r) ∙ ap (λ n. length p + n) (length-append q r)
        ∙ (λ i. length-pair_rows (E (t + 3)) 6 (E (t + 3)) 11 i + (length-pair_rows (A (t + 3)) 2 (A (t + 3)) 13 i + length-pair_rows (A (t + 3)) 0 (A (t + 2)) 0 i))
