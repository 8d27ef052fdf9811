-- What the limits on circuits leave of their parameters.
use Rattle.lzk_profile.specs.Profile.{opened_count, row_factor, most_width, most_bits, most_row, most_rows, most_sent, most_committed, most_elements, most_digests}
use Rattle.std.specs.Prelude.{◌≡◌, ℕ, ◌+◌, ◌*◌, ◌/◌, ◌%◌, ◌<◌, ◌≤◌, ◌++◌, List, [], ◌∷◌, length, map, drop, take}
use Rattle.std.proofs.Common.{zero, suc, refl, sym, ap, ◌∙◌, arith, inl, inr, subst, get_or}
use Rattle.std.specs.Int.{div_ceil}
use Rattle.std.specs.List.{sum_by}
use Rattle.std.proofs.lemmas.Bool.{cases_lt}
use Rattle.std.proofs.lemmas.Nat.{mul-le, div_below}
use Rattle.std.proofs.lemmas.Grind.{div_ceil_times}
use Rattle.std.proofs.lemmas.List.{length-map, length-append, length-drop}
use Rattle.std.proofs.lemmas.List.Sums.{sum_by-cons, sum_by_more}
use Rattle.lzk_field.specs.Ring.{Ops}
use Rattle.lzk_circuit.specs.declared.layer.Layer.{Layer}
use Rattle.lzk_circuit.specs.Valid.{Wiring, input_width, AreLayersOf, IsValid, widths}
use Rattle.lzk_layout.specs.declared.params.Params.{Params}
use Rattle.lzk_layout.specs.Sizes.{row_width, under_widths, sent_count, pad_count, sent_counts, committed_count, sizes, params_of, AreParams, AreBounded}
use Rattle.lzk_circuit.proofs.BitLaws.{bits_few}
use Rattle.lzk_layout.proofs.Least.{width_64, width_next}

-- ---- widths

narrow_from : {A : Type 0} (o : Ops A) (version n l : ℕ) (layers : List (Layer A)) → n ≤ most_width → AreLayersOf o version n layers → get_or (map (λ layer. layer.wires) layers ++ n ∷ []) l 0 ≤ most_width
narrow_from o version n zero [] le h = le
narrow_from o version n (suc l) [] le h = omega arith
narrow_from o version n zero (layer ∷ layers) le h = let one = h.0 in omega (arith, one.most)
narrow_from o version n (suc l) (layer ∷ layers) le h = narrow_from o version n l layers le h.1

pub narrow : {A : Type 0} (o : Ops A) (c : Wiring A) (l : ℕ) → IsValid o c → get_or (widths c) l 0 ≤ most_width
narrow o c l valid = narrow_from o c.version (input_width c) l c.layers (omega (arith, valid.publics, valid.privates)) valid.layers

get_or_next : (xs : List ℕ) (l : ℕ) → get_or (drop 1 xs) l 0 ≡ get_or xs (l + 1) 0
get_or_next [] l = refl
get_or_next (x ∷ xs) l = let e : suc l ≡ l + 1 = omega arith in ap (λ (k : ℕ). get_or (x ∷ xs) k 0) e

pub under_is : {A : Type 0} (c : Wiring A) (l : ℕ) → get_or (under_widths c) l 0 ≡ get_or (widths c) (l + 1) 0
under_is c l = get_or_next (widths c) l

pub under_count : {A : Type 0} (c : Wiring A) → length (under_widths c) ≡ length c.layers
under_count c =
    omega (arith, length-drop 1 (widths c), length-append (map (λ layer. layer.wires) c.layers) (input_width c ∷ []), length-map c.layers (λ layer. layer.wires))

-- ---- counts

few_in_all : (f : ℕ → ℕ) (most : ℕ) (ws : List ℕ) → ((w : ℕ) → w ≤ most_width → f w ≤ most) → ((l : ℕ) → get_or ws l 0 ≤ most_width) → sum_by f ws ≤ most * length ws
few_in_all f most [] each h = omega arith
few_in_all f most (w ∷ ws) each h =
    let one = each w (h 0) in
    let others = few_in_all f most ws each (λ l. h (suc l)) in
    grind (arith, one, others, sum_by-cons f w ws)

pub sent_few : {A : Type 0} (o : Ops A) (c : Wiring A) → IsValid o c → sent_counts c ≤ most_sent
sent_few o c valid =
    let all = few_in_all sent_count (4 * most_bits + 2) (under_widths c) (λ w le. omega (arith, bits_few w le)) (λ l. rw (under_is c l) (narrow o c (l + 1) valid)) in
    omega (arith, all, under_count c, valid.depth)

pub committed_few : {A : Type 0} (o : Ops A) (c : Wiring A) → IsValid o c → committed_count c ≤ most_committed
committed_few o c valid =
    let all = few_in_all pad_count (4 * most_bits + 3) (under_widths c) (λ w le. omega (arith, bits_few w le)) (λ l. rw (under_is c l) (narrow o c (l + 1) valid)) in
    omega (arith, all, under_count c, valid.depth, valid.privates)

-- one more layer of the walk over them
pub counts_more : {A : Type 0} (f : ℕ → ℕ) (c : Wiring A) (l w : ℕ) → l < length c.layers → w ≡ get_or (widths c) (l + 1) 0
    → sum_by f (take l (under_widths c)) + f w ≡ sum_by f (take (l + 1) (under_widths c))
counts_more f c l w lt is =
    let e : w ≡ get_or (under_widths c) l 0 = is ∙ sym (under_is c l) in
    sym (sum_by_more f (under_widths c) l 0 (omega (arith, under_count c)) ∙ ap (λ (x : ℕ). sum_by f (take l (under_widths c)) + f x) (sym e))

-- ---- bounds

module _ (nw nsum layers : ℕ) (few : nw ≤ most_committed) (sent : nsum ≤ most_sent) (some : 1 ≤ layers) (most : layers ≤ 512) where
  -- with rows of a known width
  with_width : (wr : ℕ) → row_width nw ≡ wr → 64 ≤ wr → wr ≤ most_row → nw ≤ wr * wr → 3 + div_ceil nw wr + 3 * div_ceil layers wr ≤ most_rows → AreBounded (sizes nw nsum layers)
  with_width wr e wide narrow square rows = record {
    nw = few;
    wide = omega arith;
    wr = omega arith;
    block = refl;
    dblock = refl;
    mcol = refl;
    ncol = omega arith;
    nrow = rw e rows;
    nsum = sent;
    some = some;
    layers = most;
    square = rw e square;
    columns = refl;
    nwrow = refl;
    ntriple = refl;
    rows = refl;
  }

  -- with rows above a width, some of which no list is long enough for
  above_1024 : 1048576 < row_factor * nw → AreBounded (sizes nw nsum layers)
  above_1024 lt =
      elim (cases_lt 4194304 (row_factor * nw)) [
        | inr le ↦ with_width 2048 (width_next nw 10 11 refl (omega arith) (omega arith) lt le) (omega arith) (omega arith) (omega arith) (omega arith)
        | inl lt' ↦ with_width 4096 (width_next nw 11 12 refl (omega arith) (omega arith) lt' (omega arith)) (omega arith) (omega arith) (omega arith) (omega arith)
      ]

  above_512 : 262144 < row_factor * nw → AreBounded (sizes nw nsum layers)
  above_512 lt =
      elim (cases_lt 1048576 (row_factor * nw)) [
        | inr le ↦ with_width 1024 (width_next nw 9 10 refl (omega arith) (omega arith) lt le) (omega arith) (omega arith) (omega arith) (omega arith)
        | inl lt' ↦ above_1024 lt'
      ]

  above_256 : 65536 < row_factor * nw → AreBounded (sizes nw nsum layers)
  above_256 lt =
      elim (cases_lt 262144 (row_factor * nw)) [
        | inr le ↦ with_width 512 (width_next nw 8 9 refl (omega arith) (omega arith) lt le) (omega arith) (omega arith) (omega arith) (omega arith)
        | inl lt' ↦ above_512 lt'
      ]

  above_128 : 16384 < row_factor * nw → AreBounded (sizes nw nsum layers)
  above_128 lt =
      elim (cases_lt 65536 (row_factor * nw)) [
        | inr le ↦ with_width 256 (width_next nw 7 8 refl (omega arith) (omega arith) lt le) (omega arith) (omega arith) (omega arith) (omega arith)
        | inl lt' ↦ above_256 lt'
      ]

  above_64 : 4096 < row_factor * nw → AreBounded (sizes nw nsum layers)
  above_64 lt =
      elim (cases_lt 16384 (row_factor * nw)) [
        | inr le ↦ with_width 128 (width_next nw 6 7 refl (omega arith) (omega arith) lt le) (omega arith) (omega arith) (omega arith) (omega arith)
        | inl lt' ↦ above_128 lt'
      ]

  pub bounded : AreBounded (sizes nw nsum layers)
  bounded =
      elim (cases_lt 4096 (row_factor * nw)) [
        | inr le ↦ with_width 64 (width_64 nw le) (omega arith) (omega arith) (omega arith) (omega arith)
        | inl lt ↦ above_64 lt
      ]

pub params_bounded : {A : Type 0} (o : Ops A) (c : Wiring A) → IsValid o c → AreBounded (params_of c)
params_bounded o c valid = bounded (committed_count c) (sent_counts c) (length c.layers) (committed_few o c valid) (sent_few o c valid) valid.some valid.depth

pub are_bounded : {A : Type 0} (o : Ops A) (p : Params) → AreParams o p → AreBounded p
are_bounded o p h = subst (λ (q : Params). AreBounded q) (sym h.are) (params_bounded o h.circuit h.valid)

-- ---- a file's length

pub file_fits : (width elements rows digests : ℕ) → width ≤ 16 → elements ≤ most_elements → rows ≤ most_rows → digests ≤ most_digests
    → 72 + width * elements + opened_count * (32 + width * rows) + 32 * digests ≤ 2097152
file_fits width elements rows digests w e r d = omega (arith, mul-le width elements 16 most_elements w e, mul-le width rows 16 most_rows w r)

-- ---- places

-- what stands before a place within n has fewer full rows than n has rows
pub row_below : (j n wr : ℕ) → 1 ≤ wr → j < n → j / wr < div_ceil n wr
row_below j n wr some less = let all = div_ceil_times n wr some in div_below j wr (div_ceil n wr) some (omega (arith, all.0))

-- a copy stands in a row of its triple
pub copy_row : (m layers wr : ℕ) → 1 ≤ wr → m < 3 * layers → 3 * (m / 3 / wr) + m % 3 < 3 * div_ceil layers wr
copy_row m layers wr some less = omega (arith, row_below (m / 3) layers wr some (omega arith))
