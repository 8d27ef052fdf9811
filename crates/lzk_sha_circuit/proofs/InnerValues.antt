-- What the wires of the inner layer count: the inputs, and the exclusive ors behind them.
use Rattle.std.specs.Prelude.{◌≡◌, ℕ, ◌+◌, ◌-◌, ◌*◌, ◌<◌, ◌≤◌, List, [], ◌++◌, length, map}
use Rattle.std.specs.List.{range_with_len, flat_map}
use Rattle.std.proofs.Common.{sym, ap, ◌∙◌, arith, get_or-append-add, length-append}
use Rattle.std.proofs.lemmas.List.{get_or_append_left}
use Rattle.std.proofs.lemmas.List.FromFn.{length-map-range_with_len, get_or-map-range_with_len}
use Rattle.lzk_field.specs.Ring.{Ops}
use Rattle.lzk_sha_circuit.specs.Places.{Places}
use Rattle.lzk_sha_circuit.specs.declared.products.Product.{Product}
use Rattle.lzk_sha_circuit.specs.declared.entries.Word.{Word}
use Rattle.lzk_sha_circuit.specs.declared.entries.Word.TheVariants.{Schedule, A, E}
use Rattle.lzk_sha_circuit.specs.Products.{or_list}
use Rattle.lzk_sha_circuit.specs.Layers.{row_at, input_count, inner_count, turned_entry, pass_row, pair_rows, schedule_pairs, round_pairs, inner_rows, or_place_w, or_place_round}
use Rattle.lzk_sha_circuit.proofs.Chunks.{range_entry, length-range_chunks}
use Rattle.lzk_sha_circuit.proofs.Within.{length-pair_rows, length-schedule_pairs, length-round_pairs}

module _ {X : Type 0} (o : Ops X) (element : ℕ → X) (given : Places) where
  pairs_part : List (List (Product X))
  pairs_part = flat_map (schedule_pairs o element given) (range_with_len 16 48)

  rounds_part : List (List (Product X))
  rounds_part = flat_map (round_pairs o element given) (range_with_len 0 64)

  length-pass : length (map (pass_row o) (range_with_len 0 (input_count given))) ≡ input_count given
  length-pass = length-map-range_with_len (pass_row o) 0 (input_count given)

  length-pairs : length pairs_part ≡ 3072
  unfolding pairs_part
  length-pairs = length-range_chunks (schedule_pairs o element given) 64 (length-schedule_pairs o element given) 16 48

  length-rounds : length rounds_part ≡ 6144
  unfolding rounds_part
  length-rounds = length-range_chunks (round_pairs o element given) 96 (length-round_pairs o element given) 0 64

  pub length-inner_rows : length (inner_rows o element given) ≡ inner_count given
  unfolding inner_rows pairs_part rounds_part
  length-inner_rows =
      let p = map (pass_row o) (range_with_len 0 (input_count given)) in
      let e1 = length-append p (pairs_part ++ rounds_part) in
      let e2 = length-append pairs_part rounds_part in
      let l1 = length-pass in
      let l2 = length-pairs in
      let l3 = length-rounds in
      omega (arith, e1, e2, l1, l2, l3)

  pub pass_at : (k : ℕ) → k < input_count given → row_at (inner_rows o element given) k ≡ pass_row o k
  unfolding inner_rows
  pass_at k lt =
      let p = map (pass_row o) (range_with_len 0 (input_count given)) in
      let l1 = length-pass in
      get_or_append_left p _ [] k (omega (arith, l1, lt)) ∙ get_or-map-range_with_len (pass_row o) 0 (input_count given) k k [] lt (omega arith)

  schedule_at : (t i : ℕ) → 16 ≤ t → t < 64 → i < 64 → row_at (inner_rows o element given) (input_count given + (64 * (t - 16) + i)) ≡ row_at (schedule_pairs o element given t) i
  unfolding inner_rows pairs_part rounds_part
  schedule_at t i le lt li =
      let p = map (pass_row o) (range_with_len 0 (input_count given)) in
      let l2 = length-pairs in
      ap (λ n. row_at (p ++ (pairs_part ++ rounds_part)) (n + (64 * (t - 16) + i))) (sym length-pass)
      ∙ get_or-append-add p (pairs_part ++ rounds_part) (64 * (t - 16) + i) []
      ∙ get_or_append_left pairs_part rounds_part [] (64 * (t - 16) + i) (omega (arith, l2))
      ∙ range_entry (schedule_pairs o element given) 64 (length-schedule_pairs o element given) 16 48 t i [] le (omega arith) li

  round_at : (t i : ℕ) → t < 64 → i < 96 → row_at (inner_rows o element given) (input_count given + (3072 + (96 * t + i))) ≡ row_at (round_pairs o element given t) i
  unfolding inner_rows pairs_part rounds_part
  round_at t i lt li =
      let p = map (pass_row o) (range_with_len 0 (input_count given)) in
      let turn : 96 * t + i ≡ 96 * (t - 0) + i = omega arith in
      ap (λ n. row_at (p ++ (pairs_part ++ rounds_part)) (n + (3072 + (96 * t + i)))) (sym length-pass)
      ∙ get_or-append-add p (pairs_part ++ rounds_part) (3072 + (96 * t + i)) []
      ∙ ap (λ n. row_at (pairs_part ++ rounds_part) (n + (96 * t + i))) (sym length-pairs)
      ∙ get_or-append-add pairs_part rounds_part (96 * t + i) []
      ∙ ap (row_at rounds_part) turn
      ∙ range_entry (round_pairs o element given) 96 (length-round_pairs o element given) 0 64 t i [] (omega arith) (omega arith) li

  pair_at : (x : Word) (j : ℕ) (y : Word) (k i : ℕ) → i < 32 → row_at (pair_rows o element given x j y k) i ≡ or_list o element o.one (turned_entry o element given x j i) (turned_entry o element given y k i)
  unfolding pair_rows
  pair_at x j y k i lt = get_or-map-range_with_len (λ n. or_list o element o.one (turned_entry o element given x j n) (turned_entry o element given y k n)) 0 32 i i [] lt (omega arith)

  -- ---- the rows of the exclusive ors, by the words
  pub w1_at : (t i : ℕ) → 16 ≤ t → t < 64 → i < 32 → row_at (inner_rows o element given) (input_count given + or_place_w o element t + i) ≡ or_list o element o.one (turned_entry o element given (Schedule (t - 2)) 17 i) (turned_entry o element given (Schedule (t - 2)) 19 i)
  unfolding schedule_pairs
  w1_at t i le lt li =
      let p = pair_rows o element given (Schedule (t - 2)) 17 (Schedule (t - 2)) 19 in
      let q = pair_rows o element given (Schedule (t - 15)) 7 (Schedule (t - 15)) 18 in
      let long = length-pair_rows o element given (Schedule (t - 2)) 17 (Schedule (t - 2)) 19 in
      let there : input_count given + or_place_w o element t + i ≡ input_count given + (64 * (t - 16) + i) = omega arith in
      ap (row_at (inner_rows o element given)) there ∙ schedule_at t i le lt (omega arith) ∙ get_or_append_left p q [] i (omega (arith, long)) ∙ pair_at (Schedule (t - 2)) 17 (Schedule (t - 2)) 19 i li

  pub w0_at : (t i : ℕ) → 16 ≤ t → t < 64 → i < 32 → row_at (inner_rows o element given) (input_count given + (or_place_w o element t + 32) + i) ≡ or_list o element o.one (turned_entry o element given (Schedule (t - 15)) 7 i) (turned_entry o element given (Schedule (t - 15)) 18 i)
  unfolding schedule_pairs
  w0_at t i le lt li =
      let p = pair_rows o element given (Schedule (t - 2)) 17 (Schedule (t - 2)) 19 in
      let q = pair_rows o element given (Schedule (t - 15)) 7 (Schedule (t - 15)) 18 in
      let long = length-pair_rows o element given (Schedule (t - 2)) 17 (Schedule (t - 2)) 19 in
      let there : input_count given + (or_place_w o element t + 32) + i ≡ input_count given + (64 * (t - 16) + (32 + i)) = omega arith in
      ap (row_at (inner_rows o element given)) there ∙ schedule_at t (32 + i) le lt (omega arith)
      ∙ ap (λ n. row_at (p ++ q) (n + i)) (sym long) ∙ get_or-append-add p q i [] ∙ pair_at (Schedule (t - 15)) 7 (Schedule (t - 15)) 18 i li

  pub e_at : (t i : ℕ) → t < 64 → i < 32 → row_at (inner_rows o element given) (input_count given + or_place_round o element t + i) ≡ or_list o element o.one (turned_entry o element given (E (t + 3)) 6 i) (turned_entry o element given (E (t + 3)) 11 i)
  unfolding round_pairs
  e_at t i lt li =
      let p = pair_rows o element given (E (t + 3)) 6 (E (t + 3)) 11 in
      let q = pair_rows o element given (A (t + 3)) 2 (A (t + 3)) 13 in
      let r = pair_rows o element given (A (t + 3)) 0 (A (t + 2)) 0 in
      let long = length-pair_rows o element given (E (t + 3)) 6 (E (t + 3)) 11 in
      let there : input_count given + or_place_round o element t + i ≡ input_count given + (3072 + (96 * t + i)) = omega arith in
      ap (row_at (inner_rows o element given)) there ∙ round_at t i lt (omega arith) ∙ get_or_append_left p (q ++ r) [] i (omega (arith, long)) ∙ pair_at (E (t + 3)) 6 (E (t + 3)) 11 i li

  pub a_at : (t i : ℕ) → t < 64 → i < 32 → row_at (inner_rows o element given) (input_count given + (or_place_round o element t + 32) + i) ≡ or_list o element o.one (turned_entry o element given (A (t + 3)) 2 i) (turned_entry o element given (A (t + 3)) 13 i)
  unfolding round_pairs
  a_at t i lt li =
      let p = pair_rows o element given (E (t + 3)) 6 (E (t + 3)) 11 in
      let q = pair_rows o element given (A (t + 3)) 2 (A (t + 3)) 13 in
      let r = pair_rows o element given (A (t + 3)) 0 (A (t + 2)) 0 in
      let long_p = length-pair_rows o element given (E (t + 3)) 6 (E (t + 3)) 11 in
      let long_q = length-pair_rows o element given (A (t + 3)) 2 (A (t + 3)) 13 in
      let there : input_count given + (or_place_round o element t + 32) + i ≡ input_count given + (3072 + (96 * t + (32 + i))) = omega arith in
      ap (row_at (inner_rows o element given)) there ∙ round_at t (32 + i) lt (omega arith)
      ∙ ap (λ n. row_at (p ++ (q ++ r)) (n + i)) (sym long_p) ∙ get_or-append-add p (q ++ r) i [] ∙ get_or_append_left q r [] i (omega (arith, long_q)) ∙ pair_at (A (t + 3)) 2 (A (t + 3)) 13 i li

  pub m_at : (t i : ℕ) → t < 64 → i < 32 → row_at (inner_rows o element given) (input_count given + (or_place_round o element t + 64) + i) ≡ or_list o element o.one (turned_entry o element given (A (t + 3)) 0 i) (turned_entry o element given (A (t + 2)) 0 i)
  unfolding round_pairs
  m_at t i lt li =
      let p = pair_rows o element given (E (t + 3)) 6 (E (t + 3)) 11 in
      let q = pair_rows o element given (A (t + 3)) 2 (A (t + 3)) 13 in
      let r = pair_rows o element given (A (t + 3)) 0 (A (t + 2)) 0 in
      let long_p = length-pair_rows o element given (E (t + 3)) 6 (E (t + 3)) 11 in
      let long_q = length-pair_rows o element given (A (t + 3)) 2 (A (t + 3)) 13 in
      let there : input_count given + (or_place_round o element t + 64) + i ≡ input_count given + (3072 + (96 * t + (32 + (32 + i)))) = omega arith in
      ap (row_at (inner_rows o element given)) there ∙ round_at t (32 + (32 + i)) lt (omega arith)
      ∙ ap (λ n. row_at (p ++ (q ++ r)) (n + (32 + i))) (sym long_p) ∙ get_or-append-add p (q ++ r) (32 + i) []
      ∙ ap (λ n. row_at (q ++ r) (n + i)) (sym long_q) ∙ get_or-append-add q r i [] ∙ pair_at (A (t + 3)) 0 (A (t + 2)) 0 i li
