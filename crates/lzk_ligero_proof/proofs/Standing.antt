-- The rows of a tableau have the parameters' lengths, and stand for its committed list.
use Rattle.lzk_profile.specs.Profile.{opened_count}
use Rattle.std.specs.Prelude.{◌≡◌, ◌≢◌, ℕ, ◌+◌, ◌-◌, ◌*◌, ◌/◌, ◌%◌, ◌<◌, ◌≤◌, cond, nat_lt, List, [], ◌++◌, length, map, replicate}
use Rattle.std.specs.List.{range_with_len}
use Rattle.std.proofs.Common.{suc, refl, ap, ◌∙◌, arith}
use Rattle.std.proofs.lemmas.Bool.{lt-ltb, le-ltb}
use Rattle.std.proofs.lemmas.Grind.{div_ceil_times}
use Rattle.std.proofs.lemmas.List.{length-append, length-set, length-replicate, get_or-replicate, get_or-set_same, get_or-set_other, get_or_append_left, get_or-append-add}
use Rattle.std.proofs.lemmas.List.FromFn.{get_or-map-range_with_len, length-map-range_with_len}
use Rattle.std.proofs.lemmas.Nat.{div-add-mod'}
use Rattle.std.proofs.Math.Nat.{div-lt_iff_lt-mul, mod-lt}
use Rattle.lzk_field.specs.Coding.{Coding}
use Rattle.lzk_field.specs.Ring.{Ops, RingLaws}
use Rattle.lzk_field.specs.Sums.{sum_below, entry}
use Rattle.lzk_field.proofs.SumLaws.{sum-ext}
use Rattle.lzk_circuit.specs.Valid.{Wiring}
use Rattle.lzk_layout.specs.declared.params.Params.{Params}
use Rattle.lzk_layout.specs.Sizes.{AreBounded, params_of, committed_count}
use Rattle.lzk_layout.specs.Places.{depth, factors_at, constrained_at}
use Rattle.lzk_ligero_tableau.specs.Tableau.{random, randoms, row1_words, row2_words, rows_words, committed, copy_at, element_at, row_at, tableau}
use Rattle.lzk_ligero_answers.specs.Rows.{row, AreRows}
use Rattle.lzk_ligero_answers.specs.Opened.{element as standing, Stands}

module _ {A : Type 0} (o : Ops A) (e : Coding A) (c : Wiring A) (private : List A) (word : ℕ → ℕ) (b : AreBounded (params_of c)) where
  abbrev p : Params
  p = params_of c

  abbrev rows : List (List A)
  rows = tableau o e c private word

  length_randoms : (k n : ℕ) → length (randoms o e word k n) ≡ n
  length_randoms k n = length-map-range_with_len (random o e word) k n

  -- ---- lengths

  pub length_rows : length rows ≡ p.nrow
  unfolding tableau
  length_rows = omega (arith, length-map-range_with_len (row_at o e c private word) 3 (p.nrow - 3), b.rows)

  length_row0 : length (row rows 0) ≡ p.block
  unfolding tableau
  length_row0 = length_randoms p.nsum p.block

  length_row1 : length (row rows 1) ≡ p.dblock
  unfolding tableau
  length_row1 = length-set (randoms o e word (row1_words p) p.dblock) (p.block - 1) _ ∙ length_randoms (row1_words p) p.dblock

  abbrev front2 : List A
  front2 = randoms o e word (row2_words p) opened_count

  abbrev middle2 : List A
  middle2 = replicate (p.block - opened_count) o.zero

  length_row2 : length (row rows 2) ≡ p.dblock
  unfolding tableau
  length_row2 =
      length-append (front2 ++ middle2) (randoms o e word (row2_words p + p.block) (p.dblock - p.block))
      ∙ omega (arith, length-append front2 middle2, length_randoms (row2_words p) opened_count, length-replicate (p.block - opened_count) o.zero, length_randoms (row2_words p + p.block) (p.dblock - p.block), b.block, b.dblock)

  -- a row from row 3 on
  row_is : (i : ℕ) → i < p.nrow - 3 → row rows (3 + i) ≡ row_at o e c private word (3 + i)
  unfolding tableau
  row_is i h =
      let z : 3 + i ≡ suc (suc (suc i)) = omega arith in
      ap (row rows) z ∙ get_or-map-range_with_len (row_at o e c private word) 3 (p.nrow - 3) i (3 + i) [] h refl

  abbrev front : ℕ → List A
  front w = randoms o e word (rows_words p + opened_count * (w - 3)) opened_count

  length_row : (i : ℕ) → i < p.nrow - 3 → length (row rows (3 + i)) ≡ p.block
  length_row i h =
      let w = 3 + i in
      ap length (row_is i h)
      ∙ length-append (front w) (map (element_at o e c private word w) (range_with_len 0 p.wr))
      ∙ omega (arith, length_randoms (rows_words p + opened_count * (w - 3)) opened_count, length-map-range_with_len (element_at o e c private word w) 0 p.wr, b.block)

  pub rows_are : AreRows p rows
  rows_are = record { count = length_rows; first = length_row0; second = length_row1; third = length_row2; others = length_row }

  -- ---- what stands in them

  -- at a position of a row from row 3 on
  in_row : (i s : ℕ) → i < p.nrow - 3 → s < p.wr → standing o rows (3 + i) s ≡ element_at o e c private word (3 + i) s
  in_row i s h q =
      let w = 3 + i in
      let elements = map (element_at o e c private word w) (range_with_len 0 p.wr) in
      let y : opened_count + s ≡ length (front w) + s = omega (arith, length_randoms (rows_words p + opened_count * (w - 3)) opened_count) in
      ap (λ xs. entry o xs (opened_count + s)) (row_is i h)
      ∙ ap (entry o (front w ++ elements)) y
      ∙ get_or-append-add (front w) elements s o.zero
      ∙ get_or-map-range_with_len (element_at o e c private word w) 0 p.wr s s o.zero q (omega arith)

  some : 1 ≤ p.wr
  some = omega (arith, b.wide)

  row_below : (m n k : ℕ) → 1 ≤ k → m < n * k → m / k < n
  row_below m n k one h = (div-lt_iff_lt-mul {k = k} {x = m} {y = n} (omega (arith, one))).1 h

  entry_below : (j : ℕ) → j < committed_count c → j / p.wr < p.nwrow
  entry_below j h = row_below j p.nwrow p.wr some (omega (arith, h, (div_ceil_times p.nw p.wr some).0))

  copy_below : (m : ℕ) → m < 3 * depth c → m / 3 / p.wr < p.ntriple
  copy_below m h = row_below (m / 3) p.ntriple p.wr some (omega (arith, h, (div_ceil_times p.layers p.wr some).0))

  abbrev list : List A
  list = committed o e c private word

  entry_stands : (j : ℕ) → j < committed_count c → standing o rows (3 + j / p.wr) (j % p.wr) ≡ entry o list j
  entry_stands j h =
      let i = j / p.wr in
      let s = j % p.wr in
      let back : 3 + i - 3 ≡ i = omega arith in
      in_row i s (omega (arith, entry_below j h, b.rows)) (mod-lt j some)
      ∙ ap (λ x. cond x (entry o list ((3 + i - 3) * p.wr + s)) (copy_at o e c private word (3 + i - 3 - p.nwrow) s)) (lt-ltb (3 + i) (3 + p.nwrow) (omega (arith, entry_below j h)))
      ∙ ap (λ (k : ℕ). entry o list (k * p.wr + s)) back ∙ ap (entry o list) (div-add-mod' j p.wr)

  -- what stands in the rows of a triple
  abbrev copy : ℕ → ℕ → A
  copy l which = cond (nat_lt l (depth c)) (entry o list (factors_at c l + which)) o.zero

  triple_stands : (t s which : ℕ) → t < p.ntriple → s < p.wr → which < 3 → standing o rows (3 + p.nwrow + 3 * t + which) s ≡ copy (t * p.wr + s) which
  triple_stands t s which g h d =
      let i = p.nwrow + 3 * t + which in
      let r = 3 * t + which in
      let whole : 3 + p.nwrow + 3 * t + which ≡ 3 + i = omega arith in
      let behind : 3 + i - 3 - p.nwrow ≡ r = omega arith in
      let third : r / 3 ≡ t = omega (arith, d) in
      let rest : r % 3 ≡ which = omega (arith, d) in
      ap (λ (k : ℕ). standing o rows k s) whole
      ∙ in_row i s (omega (arith, g, d, b.rows)) h
      ∙ ap (λ x. cond x (entry o list ((3 + i - 3) * p.wr + s)) (copy_at o e c private word (3 + i - 3 - p.nwrow) s)) (le-ltb (3 + i) (3 + p.nwrow) (omega arith))
      ∙ ap (λ (k : ℕ). copy_at o e c private word k s) behind
      ∙ ap (λ (k : ℕ). copy (k * p.wr + s) (r % 3)) third
      ∙ ap (copy (t * p.wr + s)) rest

  copy_stands : (m : ℕ) → m < 3 * depth c → standing o rows (3 + p.nwrow + 3 * (m / 3 / p.wr) + m % 3) ((m / 3) % p.wr) ≡ entry o list (constrained_at c m)
  copy_stands m h =
      let l = m / 3 in
      let which = m % 3 in
      let inside : l < depth c = omega (arith, h) in
      triple_stands (l / p.wr) (l % p.wr) which (copy_below m h) (mod-lt l some) (omega arith)
      ∙ ap (λ (k : ℕ). copy k which) (div-add-mod' l p.wr)
      ∙ ap (λ x. cond x (entry o list (factors_at c l + which)) o.zero) (lt-ltb l (depth c) inside)

  behind_stands : (t s which : ℕ) → s < p.wr → which < 3 → t < p.ntriple → depth c ≤ t * p.wr + s → standing o rows (3 + p.nwrow + 3 * t + which) s ≡ o.zero
  behind_stands t s which h d g past =
      let l = t * p.wr + s in
      triple_stands t s which g h d ∙ ap (λ x. cond x (entry o list (factors_at c l + which)) o.zero) (le-ltb l (depth c) past)

  -- row 2 is zero at the points of a row's elements
  third_stands : (s : ℕ) → s < p.wr → standing o rows 2 s ≡ o.zero
  unfolding tableau
  third_stands s h =
      let y : opened_count + s ≡ length front2 + s = omega (arith, length_randoms (row2_words p) opened_count) in
      get_or_append_left (front2 ++ middle2) (randoms o e word (row2_words p + p.block) (p.dblock - p.block)) o.zero (opened_count + s)
      (omega (arith, h, length-append front2 middle2, length_randoms (row2_words p) opened_count, length-replicate (p.block - opened_count) o.zero, b.block))
      ∙ ap (entry o (front2 ++ middle2)) y ∙ get_or-append-add front2 middle2 s o.zero ∙ get_or-replicate (p.block - opened_count) s o.zero o.zero (omega (arith, h, b.block))

  -- row 1's values there have the sum zero
  second_stands : RingLaws o → sum_below o p.wr (standing o rows 1) ≡ o.zero
  unfolding tableau
  second_stands r =
      let n = p.wr - 1 in
      let first = row1_words p in
      let g : ℕ → A = λ i. random o e word (first + opened_count + i) in
      let values = randoms o e word first p.dblock in
      let v = o.neg (sum_below o (p.block - 1 - opened_count) g) in
      let one_more : p.wr ≡ suc n = omega (arith, some) in
      let last : opened_count + n ≡ p.block - 1 = omega (arith, some, b.block) in
      let less : p.block - 1 - opened_count ≡ n = omega (arith, b.block) in
      let f : ℕ → A = standing o rows 1 in
      ap (λ (k : ℕ). sum_below o k f) one_more
      ∙ ap (λ x. o.plus x (f n))
      (sum-ext o r n f g
      (λ s h.
      let away : opened_count + s ≢ p.block - 1 = omega (arith, h, last) in
      get_or-set_other values (p.block - 1) (opened_count + s) v o.zero away
      ∙ get_or-map-range_with_len (random o e word) first p.dblock (opened_count + s) (first + opened_count + s) o.zero (omega (arith, h, b.block, b.dblock)) (omega arith)))
      ∙ ap (o.plus (sum_below o n g))
      (ap (entry o (row rows 1)) last ∙ get_or-set_same values (p.block - 1) v o.zero (omega (arith, length_randoms first p.dblock, some, b.block, b.dblock)) ∙ ap (λ (k : ℕ). o.neg (sum_below o k g)) less)
      ∙ r.plus_neg (sum_below o n g)

  -- the rows stand for the list
  pub rows_stand : RingLaws o → Stands o c list rows
  rows_stand r = record { entries = entry_stands; copies = copy_stands; behind = behind_stands; second = second_stands r; third = third_stands }
