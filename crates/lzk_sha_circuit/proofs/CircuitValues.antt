-- The outputs of the two layers are those of the definition.
use Rattle.std.specs.Prelude.{◌≡◌, ℕ, ◌+◌, ◌-◌, ◌%◌, ◌<◌, ◌≤◌, List, [], ◌∷◌, ◌++◌, length, map}
use Rattle.std.specs.List.{range_with_len, flat_map}
use Rattle.std.proofs.Common.{zero, suc, refl, sym, ap, ◌∙◌, arith, ext_get_or, length-append}
use Rattle.std.proofs.lemmas.List.{map-append, length-map, get_or-map}
use Rattle.std.proofs.lemmas.List.FromFn.{length-map-range_with_len, get_or-map-range_with_len}
use Rattle.lzk_field.specs.Ring.{Ops, RingLaws}
use Rattle.lzk_field.specs.Sums.{entry}
use Rattle.lzk_field.proofs.RingBasics.{one_times}
use Rattle.lzk_circuit.specs.declared.layer.Term.{Term}
use Rattle.lzk_circuit.specs.Wires.{coef, wire, inputs_of, wires_of}
use Rattle.lzk_sha_circuit.specs.declared.entries.Word.{Word}
use Rattle.lzk_sha_circuit.specs.declared.entries.Word.TheVariants.{Schedule, A, E}
use Rattle.lzk_sha_circuit.specs.Words.{exclusive_or, rotated}
use Rattle.lzk_sha_circuit.specs.Places.{Places, IsPlaced, total_count, schedule_word, a_word, e_word}
use Rattle.lzk_sha_circuit.specs.Outputs.{w_output, a_output, e_output, f_output, digest_output, bit_output, compression_outputs}
use Rattle.lzk_sha_circuit.specs.Products.{products_value, or_list, entry_value}
use Rattle.lzk_sha_circuit.specs.Layers.{row_at, IsBuilt, input_count, inner_count, IsWord, turned_entry, inner_rows, output_rows, bit_row, w_row, a_row, e_row, f_row, digest_row, or_place_w, or_place_round}
use Rattle.lzk_sha_circuit.proofs.Chunks.{length-range_chunks}
use Rattle.lzk_sha_circuit.proofs.RowValues.{or_value}
use Rattle.lzk_sha_circuit.proofs.EntryValues.{word_of, turned_value, w_row_value, a_row_value, e_row_value, f_row_value, digest_row_value, bit_row_value}
use Rattle.lzk_sha_circuit.proofs.InnerValues.{length-inner_rows, pass_at, w1_at, w0_at, e_at, a_at, m_at}

-- ---- lists of values
map_rows : {X Y : Type 0} (g : X → Y) (f : ℕ → X) (h : ℕ → Y) (n a : ℕ) → ((t : ℕ) → a ≤ t → t < a + n → g (f t) ≡ h t) → map g (map f (range_with_len a n)) ≡ map h (range_with_len a n)
map_rows g f h zero a e = refl
map_rows g f h (suc n) a e = λ i. e a (omega arith) (omega arith) i ∷ map_rows g f h n (a + 1) (λ t le lt. e t (omega arith) (omega arith)) i

map_pairs : {X Y : Type 0} (g : X → Y) (f k : ℕ → X) (h l : ℕ → Y) (n a : ℕ) → ((t : ℕ) → a ≤ t → t < a + n → g (f t) ≡ h t) → ((t : ℕ) → a ≤ t → t < a + n → g (k t) ≡ l t)
    → map g (flat_map (λ t. f t ∷ k t ∷ []) (range_with_len a n)) ≡ flat_map (λ t. h t ∷ l t ∷ []) (range_with_len a n)
map_pairs g f k h l zero a e d = refl
map_pairs g f k h l (suc n) a e d =
    λ i. e a (omega arith) (omega arith) i ∷ d a (omega arith) (omega arith) i ∷ map_pairs g f k h l n (a + 1) (λ t le lt. e t (omega arith) (omega arith)) (λ t le lt. d t (omega arith) (omega arith)) i

pub length-output_rows : {X : Type 0} (o : Ops X) (element : ℕ → X) (given : Places) → length (output_rows o element given) ≡ given.inputs + 6568
unfolding output_rows
length-output_rows o element given =
    let p0 = map (bit_row o) (range_with_len 0 (given.inputs + 6376)) in
    let p1 = map (w_row o element given) (range_with_len 16 48) in
    let p2 = flat_map (λ t. a_row o element given t ∷ e_row o element given t ∷ []) (range_with_len 0 64) in
    let p3 = map (f_row o element given) (range_with_len 0 8) in
    let p4 = map (digest_row o element given) (range_with_len 0 8) in
    let e0 = length-append p0 (p1 ++ (p2 ++ (p3 ++ p4))) in
    let e1 = length-append p1 (p2 ++ (p3 ++ p4)) in
    let e2 = length-append p2 (p3 ++ p4) in
    let e3 = length-append p3 p4 in
    let l0 = length-map-range_with_len (bit_row o) 0 (given.inputs + 6376) in
    let l1 = length-map-range_with_len (w_row o element given) 16 48 in
    let l2 = length-range_chunks (λ t. a_row o element given t ∷ e_row o element given t ∷ []) 2 (λ t. refl) 0 64 in
    let l3 = length-map-range_with_len (f_row o element given) 0 8 in
    let l4 = length-map-range_with_len (digest_row o element given) 0 8 in
    omega (arith, e0, e1, e2, e3, l0, l1, l2, l3, l4)

module _ {X : Type 0} (o : Ops X) (r : RingLaws o) (element : ℕ → X) (given : Places) (ok : IsPlaced given) (public private : List X) (short : length public ≡ 8) (long : length private ≡ total_count given)
    (t0 t1 : List (Term X)) (outer_built : IsBuilt o (inner_count given) (output_rows o element given) t0) (inner_built : IsBuilt o (input_count given) (inner_rows o element given) t1) where
  inputs : List X
  inputs = inputs_of o public private

  length-inputs : length inputs ≡ input_count given
  unfolding inputs
  length-inputs = let both = length-append public private in omega (arith, both, short, long)

  below : List X
  below = map (wire o (coef o t1) inputs) (range_with_len 0 (inner_count given))

  length-below : length below ≡ inner_count given
  unfolding below
  length-below = length-map-range_with_len (wire o (coef o t1) inputs) 0 (inner_count given)

  below_at : (k : ℕ) → k < inner_count given → entry o below k ≡ products_value o inputs (row_at (inner_rows o element given) k)
  unfolding below
  below_at k lt =
      let all = length-inner_rows o element given in
      get_or-map-range_with_len (wire o (coef o t1) inputs) 0 (inner_count given) k k o.zero lt (omega arith) ∙ inner_built.values inputs length-inputs k (omega (arith, all, lt))

  pass : (k : ℕ) → k < input_count given → entry o below k ≡ entry o (inputs_of o public private) k
  unfolding inputs
  pass k lt =
      below_at k (omega (arith, lt)) ∙ ap (products_value o (inputs_of o public private)) (pass_at o element given k lt)
      ∙ r.plus_zero _ ∙ one_times o r _ ∙ one_times o r (entry o (inputs_of o public private) k)

  -- the exclusive or of two turned words
  or_at : (k : ℕ) (x : Word) (j : ℕ) (y : Word) (l i : ℕ) → k < inner_count given → IsWord x → IsWord y
      → row_at (inner_rows o element given) k ≡ or_list o element o.one (turned_entry o element given x j i) (turned_entry o element given y l i)
      → (a b : X) → entry_value o (inputs_of o public private) (turned_entry o element given x j i) ≡ a → entry_value o (inputs_of o public private) (turned_entry o element given y l i) ≡ b
      → entry o below k ≡ exclusive_or o element a b
  unfolding inputs
  or_at k x j y l i lt hx hy row a b ea eb =
      below_at k lt ∙ ap (products_value o (inputs_of o public private)) row
      ∙ or_value o r element (inputs_of o public private) refl o.one (turned_entry o element given x j i) (turned_entry o element given y l i)
      ∙ one_times o r _ ∙ (λ n. exclusive_or o element (ea n) (eb n))

  same : (k : ℕ) → k < input_count given → entry o (inputs_of o public private) k ≡ entry o (inputs_of o public private) k
  same k lt = refl

  turned : (w : Word) (k i : ℕ) → IsWord w → entry_value o (inputs_of o public private) (turned_entry o element given w k i) ≡ rotated k (word_of o r element given ok public private short below pass w) i
  turned w k i hw = turned_value o r element given ok public private short (inputs_of o public private) same w k i hw

  ors_w1 : (t i : ℕ) → 16 ≤ t → t < 64 → i < 32 → entry o below (input_count given + or_place_w o element t + i) ≡ exclusive_or o element (rotated 17 (schedule_word element given (entry o private) (t - 2)) i) (rotated 19 (schedule_word element given (entry o private) (t - 2)) i)
  ors_w1 t i le lt li =
      let w = Schedule (t - 2) in
      or_at (input_count given + or_place_w o element t + i) w 17 w 19 i (omega arith) (omega arith) (omega arith) (w1_at o element given t i le lt li) _ _ (turned w 17 i (omega arith)) (turned w 19 i (omega arith))

  ors_w0 : (t i : ℕ) → 16 ≤ t → t < 64 → i < 32 → entry o below (input_count given + (or_place_w o element t + 32) + i) ≡ exclusive_or o element (rotated 7 (schedule_word element given (entry o private) (t - 15)) i) (rotated 18 (schedule_word element given (entry o private) (t - 15)) i)
  ors_w0 t i le lt li =
      let w = Schedule (t - 15) in
      or_at (input_count given + (or_place_w o element t + 32) + i) w 7 w 18 i (omega arith) (omega arith) (omega arith) (w0_at o element given t i le lt li) _ _ (turned w 7 i (omega arith)) (turned w 18 i (omega arith))

  ors_e : (t i : ℕ) → t < 64 → i < 32 → entry o below (input_count given + or_place_round o element t + i) ≡ exclusive_or o element (rotated 6 (e_word element given (entry o private) (t + 3)) i) (rotated 11 (e_word element given (entry o private) (t + 3)) i)
  ors_e t i lt li =
      let w = E (t + 3) in
      or_at (input_count given + or_place_round o element t + i) w 6 w 11 i (omega arith) (omega arith) (omega arith) (e_at o element given t i lt li) _ _ (turned w 6 i (omega arith)) (turned w 11 i (omega arith))

  ors_a : (t i : ℕ) → t < 64 → i < 32 → entry o below (input_count given + (or_place_round o element t + 32) + i) ≡ exclusive_or o element (rotated 2 (a_word element given (entry o private) (t + 3)) i) (rotated 13 (a_word element given (entry o private) (t + 3)) i)
  ors_a t i lt li =
      let w = A (t + 3) in
      or_at (input_count given + (or_place_round o element t + 32) + i) w 2 w 13 i (omega arith) (omega arith) (omega arith) (a_at o element given t i lt li) _ _ (turned w 2 i (omega arith)) (turned w 13 i (omega arith))

  ors_m : (t i : ℕ) → t < 64 → i < 32 → entry o below (input_count given + (or_place_round o element t + 64) + i) ≡ exclusive_or o element (a_word element given (entry o private) (t + 3) i) (a_word element given (entry o private) (t + 2) i)
  ors_m t i lt li =
      let x = A (t + 3) in
      let y = A (t + 2) in
      let still : (i + 0) % 32 ≡ i = omega arith in
      or_at (input_count given + (or_place_round o element t + 64) + i) x 0 y 0 i (omega arith) (omega arith) (omega arith) (m_at o element given t i lt li) _ _
      (turned x 0 i (omega arith) ∙ ap (a_word element given (entry o private) (t + 3)) still) (turned y 0 i (omega arith) ∙ ap (a_word element given (entry o private) (t + 2)) still)

  -- ---- the outputs
  bits_of_list : map (λ j. bit_output o (entry o private j)) (range_with_len 0 (given.inputs + 6376)) ≡ map (bit_output o) private
  bits_of_list =
      let left = length-map-range_with_len (λ j. bit_output o (entry o private j)) 0 (given.inputs + 6376) in
      let right = length-map private (bit_output o) in
      ext_get_or o.zero (map (λ j. bit_output o (entry o private j)) (range_with_len 0 (given.inputs + 6376))) (map (bit_output o) private) (left ∙ sym long ∙ sym right) (λ j lt.
      let inside : j < given.inputs + 6376 = omega (arith, left, lt) in
      get_or-map-range_with_len (λ j. bit_output o (entry o private j)) 0 (given.inputs + 6376) j j o.zero inside (omega arith) ∙ sym (get_or-map (bit_output o) private j o.zero o.zero (omega (arith, long, inside))))

  rows_value : map (products_value o below) (output_rows o element given) ≡ compression_outputs o element given public private
  unfolding output_rows compression_outputs
  rows_value =
      let v = products_value o below in
      let input = entry o private in
      let p0 = map (bit_row o) (range_with_len 0 (given.inputs + 6376)) in
      let p1 = map (w_row o element given) (range_with_len 16 48) in
      let p2 = flat_map (λ t. a_row o element given t ∷ e_row o element given t ∷ []) (range_with_len 0 64) in
      let p3 = map (f_row o element given) (range_with_len 0 8) in
      let p4 = map (digest_row o element given) (range_with_len 0 8) in
      let v0 = map_rows v (bit_row o) (λ j. bit_output o (input j)) (given.inputs + 6376) 0 (λ j le lt. bit_row_value o r element given ok public private short below pass ors_w1 ors_w0 ors_e ors_a ors_m j (omega arith)) ∙ bits_of_list in
      let v1 = map_rows v (w_row o element given) (w_output o element given input) 48 16 (λ t le lt. w_row_value o r element given ok public private short below pass ors_w1 ors_w0 t le (omega arith)) in
      let v2 = map_pairs v (a_row o element given) (e_row o element given) (a_output o element given input) (e_output o element given input) 64 0
      (λ t le lt. a_row_value o r element given ok public private short below pass ors_w1 ors_w0 ors_e ors_a ors_m t (omega arith)) (λ t le lt. e_row_value o r element given ok public private short below pass ors_w1 ors_w0 ors_e ors_a ors_m t (omega arith)) in
      let v3 = map_rows v (f_row o element given) (f_output o element given input) 8 0 (λ i le lt. f_row_value o r element given ok public private short below pass ors_w1 ors_w0 ors_e ors_a ors_m i (omega arith)) in
      let v4 = map_rows v (digest_row o element given) (digest_output o element given input public) 8 0 (λ i le lt. digest_row_value o r element given ok public private short below pass ors_w1 ors_w0 ors_e ors_a ors_m i (omega arith)) in
      map-append v p0 (p1 ++ (p2 ++ (p3 ++ p4)))
      ∙ ap (λ l. map v p0 ++ l) (map-append v p1 (p2 ++ (p3 ++ p4)) ∙ ap (λ l. map v p1 ++ l) (map-append v p2 (p3 ++ p4) ∙ ap (λ l. map v p2 ++ l) (map-append v p3 p4)))
      ∙ (λ i. v0 i ++ (v1 i ++ (v2 i ++ (v3 i ++ v4 i))))

  pub outputs_are : wires_of o (record { wires = given.inputs + 6568; terms = t0 } ∷ record { wires = inner_count given; terms = t1 } ∷ []) (inputs_of o public private) ≡ compression_outputs o element given public private
  unfolding below inputs
  outputs_are =
      let left = length-map-range_with_len (wire o (coef o t0) below) 0 (given.inputs + 6568) in
      let right = length-map (output_rows o element given) (products_value o below) in
      let all = length-output_rows o element given in
      ext_get_or o.zero (map (wire o (coef o t0) below) (range_with_len 0 (given.inputs + 6568))) (map (products_value o below) (output_rows o element given)) (left ∙ sym all ∙ sym right) (λ i lt.
      let inside : i < given.inputs + 6568 = omega (arith, left, lt) in
      get_or-map-range_with_len (wire o (coef o t0) below) 0 (given.inputs + 6568) i i o.zero inside (omega arith)
      ∙ outer_built.values below length-below i (omega (arith, all, inside))
      ∙ sym (get_or-map (products_value o below) (output_rows o element given) i [] o.zero (omega (arith, all, inside))))
      ∙ rows_value
