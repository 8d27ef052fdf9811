-- The rows that are filled are the tableau's, and so are the columns and leaves.
use Rattle.lzk_profile.specs.Profile.{opened_count}
use Rattle.std.specs.Prelude.{◌≡◌, ℕ, ◌+◌, ◌-◌, ◌*◌, ◌<◌, ◌≤◌, List, [], ◌++◌, length, map, take}
use Rattle.std.specs.List.{range_with_len}
use Rattle.std.proofs.Common.{zero, suc, refl, sym, ap, ◌∙◌, subst, arith}
use Rattle.std.proofs.Math.Nat.{suc-mul, mul-le-mul_right}
use Rattle.std.proofs.lemmas.List.{ext_get_or, get_or-map, get_or-take, length-map}
use Rattle.std.proofs.lemmas.List.FromFn.{get_or-map-range_with_len, length-map-range_with_len}
use Rattle.lzk_field.specs.Coding.{Coding}
use Rattle.lzk_field.specs.Ring.{Ops}
use Rattle.lzk_field.specs.Sums.{entry}
use Rattle.lzk_poly.specs.Extension.{extension}
use Rattle.lzk_merkle.specs.Leaf.{leaf_of}
use Rattle.lzk_circuit.specs.Valid.{Wiring}
use Rattle.lzk_layout.specs.declared.params.Params.{Params}
use Rattle.lzk_layout.specs.Sizes.{params_of}
use Rattle.lzk_ligero_tableau.specs.Filled.{filled_row, column_in, nonce_at}
use Rattle.lzk_ligero_tableau.specs.Table.{row, IsTable}
use Rattle.lzk_ligero_tableau.specs.Tableau.{randoms, rows_words, row_at, element_at, tableau, column, nonce, leaves}
use Rattle.lzk_ligero_tableau.proofs.FilledLaws.{filled_from}

module _ {A : Type 0} (o : Ops A) (e : Coding A) (c : Wiring A) (private : List A) (word : ℕ → ℕ) (three : 3 ≤ (params_of c).nrow) where
  abbrev p : Params
  p = params_of c

  abbrev rows : List (List A)
  rows = tableau o e c private word

  pub length-tableau : length rows ≡ p.nrow
  unfolding tableau
  length-tableau = omega (arith, length-map-range_with_len (row_at o e c private word) 3 (p.nrow - 3))

  -- a row that is filled from the elements that stand in it
  pub filled_is : (elements : List A) → ((i s : ℕ) → i < p.nrow - 3 → s < p.wr → entry o elements (i * p.wr + s) ≡ element_at o e c private word (3 + i) s)
      → (r : ℕ) → r < p.nrow → filled_row o e word p elements r ≡ row rows r
  unfolding tableau
  filled_is elements is zero h = refl
  filled_is elements is (suc zero) h = refl
  filled_is elements is (suc (suc zero)) h = refl
  filled_is elements is (suc (suc (suc i))) h =
      let j : ℕ = suc (suc (suc i)) in
      let behind : 3 + i ≡ j = omega arith in
      let number : i ≡ j - 3 = omega arith in
      let own : ℕ → A = λ s. entry o elements (i * p.wr + s) in
      let same : map own (range_with_len 0 p.wr) ≡ map (element_at o e c private word j) (range_with_len 0 p.wr) =
      filled_from o.zero (element_at o e c private word j) 0 p.wr (map own (range_with_len 0 p.wr)) (length-map-range_with_len own 0 p.wr)
      (λ s l. get_or-map-range_with_len own 0 p.wr s s o.zero l (omega arith) ∙ is i s (omega arith) l ∙ ap (λ n. element_at o e c private word n s) behind ∙ ap (element_at o e c private word j) (omega arith)) in
      ap (λ n. randoms o e word (rows_words p + opened_count * n) opened_count ++ map own (range_with_len 0 p.wr)) number
      ∙ ap (λ xs. randoms o e word (rows_words p + opened_count * (j - 3)) opened_count ++ xs) same
      ∙ sym (get_or-map-range_with_len (row_at o e c private word) 3 (p.nrow - 3) i j [] (omega arith) behind)

  -- a column of the table is the definition's
  pub column_is : (table : List A) → IsTable o e.element p.ncol rows table → (j : ℕ) → p.dblock + j < p.ncol → column_in o p table j ≡ column o e c private word j
  unfolding column
  column_is table t j h =
      let place : ℕ → A = λ i. entry o table (i * p.ncol + (p.dblock + j)) in
      let at : List A → A = λ row. extension o e.element row (p.dblock + j) in
      let size : length (map place (range_with_len 0 p.nrow)) ≡ p.nrow = length-map-range_with_len place 0 p.nrow in
      ext_get_or o.zero (map place (range_with_len 0 p.nrow)) (map at rows) (size ∙ sym (length-map rows at ∙ length-tableau))
      (λ i l.
      let below : i < p.nrow = omega (arith, size) in
      let inside : i < length rows = omega (arith, length-tableau) in
      get_or-map-range_with_len place 0 p.nrow i i o.zero below (omega arith)
      ∙ t.values i (p.dblock + j) inside h
      ∙ sym (get_or-map at rows i [] o.zero inside))

  pub nonce_is : (j : ℕ) → nonce_at word p j ≡ nonce o e c private word j
  unfolding nonce
  nonce_is j = refl

  -- and so are the digests
  pub leaves_are : (table : List A) → IsTable o e.element p.ncol rows table → p.ncol ≡ p.dblock + p.mcol
      → map (λ j. leaf_of e.bytes e.number (nonce_at word p j) (column_in o p table j)) (range_with_len 0 p.mcol) ≡ leaves o e c private word
  unfolding leaves
  leaves_are table t columns =
      let digest : ℕ → List ℕ = λ j. leaf_of e.bytes e.number (nonce_at word p j) (column_in o p table j) in
      let wanted : ℕ → List ℕ = λ j. leaf_of e.bytes e.number (nonce o e c private word j) (column o e c private word j) in
      filled_from [] wanted 0 p.mcol (map digest (range_with_len 0 p.mcol)) (length-map-range_with_len digest 0 p.mcol)
      (λ j h.
      get_or-map-range_with_len digest 0 p.mcol j j [] h (omega arith)
      ∙ ap (λ n. leaf_of e.bytes e.number n (column_in o p table j)) (nonce_is j)
      ∙ ap (leaf_of e.bytes e.number (nonce o e c private word j)) (column_is table t j (omega arith))
      ∙ ap wanted (omega arith))

-- the front of a table, in which all rows stand
pub front_table : {A : Type 0} (o : Ops A) (point : ℕ → A) (width n : ℕ) (list : List (List A)) (table : List A) → length list ≡ n → IsTable o point width list table → IsTable o point width list (take (n * width) table)
front_table o point width n list table count t = record {
  values = λ i k h l.
      let low : suc i * width ≤ n * width = mul-le-mul_right width (omega (arith, count)) in
      get_or-take (n * width) table (i * width + k) o.zero (omega (arith, low, suc-mul i width)) ∙ t.values i k h l;
}

-- a table of rows that are filled from their elements
pub table_is : {A : Type 0} (o : Ops A) (e : Coding A) (c : Wiring A) (private : List A) (word : ℕ → ℕ) (p : Params) → p ≡ params_of c → 3 ≤ p.nrow → (elements chunked table : List A) (place : ℕ → ℕ → ℕ)
    → ((i s : ℕ) → i < p.nrow - 3 → s < p.wr → entry o elements (i * p.wr + s) ≡ element_at o e c private word (3 + i) s)
    → ((i k : ℕ) → i < p.nrow → k < p.ncol → entry o chunked (place i k) ≡ extension o e.element (filled_row o e word p elements i) k)
    → ((i k : ℕ) → i < p.nrow → k < p.ncol → entry o table (i * p.ncol + k) ≡ entry o chunked (place i k))
    → IsTable o e.element p.ncol (tableau o e c private word) table
table_is {A} o e c private word p is three elements chunked table place standing filled moved =
    let q = params_of c in
    let three_of : 3 ≤ q.nrow = omega (arith, three, ap (λ (x : Params). x.nrow) is) in
    let P : Params → Type 0 = λ x. (i s : ℕ) → i < x.nrow - 3 → s < x.wr → entry o elements (i * x.wr + s) ≡ element_at o e c private word (3 + i) s in
    let standing_of : P q = subst P is standing in
    record {
      values = λ i k h l.
          let below : i < q.nrow = omega (arith, h, length-tableau o e c private word three_of) in
          let inside : i < p.nrow = omega (arith, below, ap (λ (x : Params). x.nrow) is) in
          moved i k inside l
          ∙ filled i k inside l
          ∙ ap (λ x. extension o e.element (filled_row o e word x elements i) k) is
          ∙ ap (λ xs. extension o e.element xs k) (filled_is o e c private word three_of elements standing_of i below);
    }
