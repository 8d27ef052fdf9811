-- From an honest prover's table his private inputs are extracted.
use Rattle.lzk_profile.specs.Profile.{opened_count}
use Rattle.std.specs.Prelude.{◌≡◌, ℕ, ◌+◌, ◌-◌, ◌*◌, ◌/◌, ◌%◌, ◌<◌, ◌≤◌, cond, Bool, false, List, [], ◌∷◌, length, map, take}
use Rattle.std.specs.List.{range_with_len}
use Rattle.std.proofs.Common.{zero, suc, refl, sym, ap, ◌∙◌, arith, length-append}
use Rattle.std.proofs.lemmas.Bool.{false≢true, lt-ltb}
use Rattle.std.proofs.lemmas.List.{ext_get_or, get_or_append_left, get_or-append-add, get_or-take, length-take-le}
use Rattle.std.proofs.lemmas.Nat.{div-add-mod'}
use Rattle.std.proofs.Math.Nat.{mod-lt}
use Rattle.std.proofs.lemmas.List.FromFn.{get_or-map-range_with_len, length-map-range_with_len}
use Rattle.lzk_field.specs.Coding.{Coding}
use Rattle.lzk_field.specs.Ring.{Ops, Laws}
use Rattle.lzk_field.specs.Sums.{entry}
use Rattle.lzk_poly.specs.Extension.{extension}
use Rattle.lzk_soundness.proofs.ChanceLaws.Sets.{count-none}
use Rattle.lzk_circuit.specs.Valid.{Wiring}
use Rattle.lzk_layout.specs.declared.params.Params.{Params}
use Rattle.lzk_layout.specs.Sizes.{AreBounded, params_of, committed_count}
use Rattle.lzk_layout.proofs.SizeLaws.{params_bounded, row_below}
use Rattle.lzk_ligero_answers.specs.Rows.{row}
use Rattle.lzk_soundness.specs.Rows.Held.{placed, held}
use Rattle.lzk_ligero_tableau.specs.Tableau.{random, randoms, rows_words, committed, copy_at, element_at, row_at, tableau, column}
use Rattle.lzk_soundness.specs.Extract.Laws.{HonestAreExtracted}
use Rattle.lzk_soundness.proofs.ExtractLaws.Decoding.{near_outside, rows_extracted}

module _ {A : Type 0} (o : Ops A) (e : Coding A) (laws : Laws o e.size e.number e.element e.bytes) (c : Wiring A) (private : List A) (word : ℕ → ℕ) (b : AreBounded (params_of c)) where
  abbrev p : Params
  p = params_of c

  abbrev rows : List (List A)
  rows = tableau o e c private word

  row_is : (i : ℕ) → i < p.nrow - 3 → row rows (3 + i) ≡ row_at o e c private word (3 + i)
  unfolding tableau
  row_is i h =
      let three : 3 + i ≡ suc (suc (suc i)) = omega arith in
      ap (row rows) three ∙ get_or-map-range_with_len (row_at o e c private word) 3 (p.nrow - 3) i (3 + i) [] h (omega arith)

  length-randoms : (k n : ℕ) → length (randoms o e word k n) ≡ n
  length-randoms k n = length-map-range_with_len (random o e word) k n

  row_long : (i : ℕ) → length (row_at o e c private word i) ≡ p.block
  row_long i =
      let k = rows_words p + opened_count * (i - 3) in
      length-append (randoms o e word k opened_count) (map (element_at o e c private word i) (range_with_len 0 p.wr))
      ∙ omega (arith, length-randoms k opened_count, length-map-range_with_len (element_at o e c private word i) 0 p.wr, b.block)

  -- an element of a row of the committed list
  element_is : (i s : ℕ) → i < p.nwrow → s < p.wr → entry o (row_at o e c private word (3 + i)) (opened_count + s) ≡ entry o (committed o e c private word) (i * p.wr + s)
  element_is i s h l =
      let k = rows_words p + opened_count * (3 + i - 3) in
      let f : ℕ → A = element_at o e c private word (3 + i) in
      let i_is : 3 + i - 3 ≡ i = omega arith in
      let size : opened_count + s ≡ length (randoms o e word k opened_count) + s = omega (arith, length-randoms k opened_count) in
      ap (entry o (row_at o e c private word (3 + i))) size
      ∙ get_or-append-add (randoms o e word k opened_count) (map f (range_with_len 0 p.wr)) s o.zero
      ∙ get_or-map-range_with_len f 0 p.wr s s o.zero l (omega arith)
      ∙ ap (λ (x : Bool). cond x (entry o (committed o e c private word) ((3 + i - 3) * p.wr + s)) (copy_at o e c private word (3 + i - 3 - p.nwrow) s)) (lt-ltb (3 + i) (3 + p.nwrow) (omega (arith, h)))
      ∙ ap (λ (j : ℕ). entry o (committed o e c private word) (j * p.wr + s)) i_is

  table_is : (i j : ℕ) → i < p.nrow → entry o (column o e c private word j) i ≡ extension o e.element (row rows i) (p.dblock + j)
  unfolding column tableau
  table_is i j h = entry_map rows i (omega (arith, h, rows_many))
    where
      rows_many : p.nrow ≤ length rows
      rows_many = omega (arith, length-map-range_with_len (row_at o e c private word) 3 (p.nrow - 3))

      entry_map : (rs : List (List A)) (i : ℕ) → i < length rs → entry o (map (λ r. extension o e.element r (p.dblock + j)) rs) i ≡ extension o e.element (row rs i) (p.dblock + j)
      entry_map [] i h = absurd (omega (arith, h))
      entry_map (r ∷ rs) zero h = refl
      entry_map (r ∷ rs) (suc i) h = entry_map rs i (omega (arith, h))

pub honest_extracted : {A : Type 0} (o : Ops A) (e : Coding A) → Laws o e.size e.number e.element e.bytes → HonestAreExtracted o e
unfolding committed
honest_extracted {A} o e laws = λ c private word valid long.
    let b = params_bounded o c valid in
    let p = params_of c in
    let n = committed_count c in
    let rs = tableau o e c private word in
    let all = range_with_len 0 p.mcol in
    let w = held o c rs in
    let fits : c.privates ≤ length w = omega (arith, length-map-range_with_len (placed o c rs) 0 n) in
    rows_extracted o e laws c rs (λ i j. entry o (column o e c private word j) i) valid (record {
      long = λ i h. ap length (row_is o e laws c private word b i (omega (arith, h, b.rows))) ∙ row_long o e laws c private word b (3 + i);
      near = λ i h. near_outside o e laws p (λ j. entry o (column o e c private word j) (3 + i)) _ (λ j. false) p.block
          (omega (arith, count-none (λ (j : ℕ). false) all (λ j is. false≢true is)))
          (λ j l out. table_is o e laws c private word b (3 + i) j (omega (arith, h, b.rows)));
    })
    ∙ ext_get_or o.zero (take c.privates w) private (length-take-le c.privates w fits ∙ sym long)
    (λ k q.
    let h : k < c.privates = omega (arith, q, length-take-le c.privates w fits) in
    let below : k / p.wr < p.nwrow = omega (arith, row_below k n p.wr (omega (arith, b.wide)) (omega (arith, h)), b.nwrow) in
    let whole : k / p.wr * p.wr + k % p.wr ≡ k = div-add-mod' k p.wr in
    get_or-take c.privates w k o.zero h ∙ get_or-map-range_with_len (placed o c rs) 0 n k k o.zero (omega (arith, h)) (omega arith)
    ∙ ap (λ r. entry o r (opened_count + k % p.wr)) (row_is o e laws c private word b (k / p.wr) (omega (arith, below, b.rows)))
    ∙ element_is o e laws c private word b (k / p.wr) (k % p.wr) below (mod-lt k (omega (arith, b.wide)))
    ∙ ap (entry o (committed o e c private word)) whole
    ∙ get_or_append_left private _ o.zero k (omega (arith, h, long)))
