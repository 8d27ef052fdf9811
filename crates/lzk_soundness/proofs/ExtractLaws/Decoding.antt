-- Two rows that a word is near are the same.
use Rattle.lzk_profile.specs.Profile.{opened_count}
use Rattle.std.specs.Prelude.{◌≡◌, ℕ, ◌+◌, ◌/◌, ◌%◌, ◌<◌, ◌≤◌, ◌==◌, ◌||◌, nat_le, Bool, true, false, cond, List, length, take, replicate}
use Rattle.std.specs.List.{range_with_len}
use Rattle.std.proofs.Common.{refl, sym, ap, ◌∙◌, arith}
use Rattle.std.proofs.lemmas.Bool.{false≢true, eqb-true, eq-eqb, leb-true, le-leb}
use Rattle.std.proofs.lemmas.List.{ext_get_or, get_or-take, length-take-le}
use Rattle.std.proofs.lemmas.List.FromFn.{get_or-map-range_with_len, length-map-range_with_len}
use Rattle.lzk_field.specs.Coding.{Coding}
use Rattle.lzk_field.specs.Ring.{Ops, Laws}
use Rattle.lzk_field.specs.Sums.{entry}
use Rattle.lzk_poly.specs.Extension.{extension}
use Rattle.lzk_poly.specs.Polynomial.{eval}
use Rattle.lzk_poly.specs.Through.{through}
use Rattle.lzk_poly.proofs.Through.{is_through, eval-through, length-through}
use Rattle.lzk_soundness.specs.Chance.Draws.{count, draws_from}
use Rattle.lzk_soundness.proofs.ChanceLaws.Lists.{all_long, count_more}
use Rattle.lzk_layout.specs.declared.params.Params.{Params}
use Rattle.lzk_layout.specs.Sizes.{AreBounded, params_of, committed_count, place_of}
use Rattle.lzk_layout.proofs.SizeLaws.{params_bounded, row_below}
use Rattle.lzk_ligero_answers.specs.Rows.{row}
use Rattle.lzk_ligero_answers.proofs.PassLaws.{apart}
use Rattle.lzk_soundness.specs.Rows.Held.{placed, held}
use Rattle.lzk_soundness.proofs.NearLaws.Agreeing.{all_range, or_false, count_or, same_but_few}
use Rattle.lzk_soundness.specs.Tables.Table.{place}
use Rattle.lzk_soundness.proofs.TablesLaws.Far.{columns_apart}
use Rattle.lzk_soundness.specs.Extract.Extraction.{is_wrong, distance, decoded, extracted, all_elements}
use Rattle.lzk_soundness.specs.Extract.Laws.{DecodingIsUnique, ExtractedCount, NothingIsZeros, RowsAreExtracted}
use Rattle.lzk_soundness.proofs.ExtractLaws.Searching.{first_is, first_none, lists_have}

-- lists of values whose polynomials are the same everywhere are the same
pub same_values : {A : Type 0} {o : Ops A} {size : ℕ} {number_of : A → ℕ} {element : ℕ → A} {bytes : ℕ} (laws : Laws o size number_of element bytes) (p : Params) (b : AreBounded p) (n : ℕ) (xs ys : List A)
    → n ≤ p.ncol → length xs ≡ n → length ys ≡ n → ((t : A) → eval o (through o element xs) t ≡ eval o (through o element ys) t) → xs ≡ ys
same_values {o = o} {element = element} laws p b n xs ys h lx ly every =
    let left = is_through o laws.ring laws.field element xs (apart laws p b (length xs) (omega (arith, lx, h))) in
    let right = is_through o laws.ring laws.field element ys (apart laws p b (length ys) (omega (arith, ly, h))) in
    ext_get_or o.zero xs ys (lx ∙ sym ly) (λ k q. sym (left.meets k q) ∙ every (element k) ∙ right.meets k (omega (arith, q, lx, ly)))

module _ {A : Type 0} (o : Ops A) (e : Coding A) (laws : Laws o e.size e.number e.element e.bytes) where
  -- outside columns that are wrong the word is the row
  right_there : (p : Params) (word : ℕ → A) (values : List A) (j : ℕ) → is_wrong o e p word values j ≡ false → word j ≡ extension o e.element values (p.dblock + j)
  right_there p word values j is = go (e.number (word j) == e.number (extension o e.element values (p.dblock + j))) refl is
    where
      go : (x : Bool) → (e.number (word j) == e.number (extension o e.element values (p.dblock + j))) ≡ x → cond x false true ≡ false → word j ≡ extension o e.element values (p.dblock + j)
      go true same f =
          sym (laws.numbers.element_number (word j)) ∙ ap e.element (eqb-true (e.number (word j)) (e.number (extension o e.element values (p.dblock + j))) same)
          ∙ laws.numbers.element_number (extension o e.element values (p.dblock + j))
      go false same f = absurd (false≢true (sym f))

  -- a word that is the row outside few columns is near it
  pub near_outside : (p : Params) (word : ℕ → A) (values : List A) (outside : ℕ → Bool) (n : ℕ) → count outside (range_with_len 0 p.mcol) ≤ n
      → ((j : ℕ) → j < p.mcol → outside j ≡ false → word j ≡ extension o e.element values (p.dblock + j)) → distance o e p word values ≤ n
  near_outside p word values outside n few agree =
      let all = range_with_len 0 p.mcol in
      let more : count (is_wrong o e p word values) all ≤ count outside all =
      count_more (is_wrong o e p word values) outside all (all_range (λ (j : ℕ). is_wrong o e p word values j ≡ true → outside j ≡ true) 0 p.mcol (λ j l h wrong. go j (outside j) refl (omega (arith, h)) wrong)) in
      omega (arith, few, more)
    where
      go : (j : ℕ) (x : Bool) → outside j ≡ x → j < p.mcol → is_wrong o e p word values j ≡ true → outside j ≡ true
      go j true is h wrong = is
      go j false is h wrong =
          let same = eq-eqb (e.number (word j)) (e.number (extension o e.element values (p.dblock + j))) (ap e.number (agree j h is)) in
          absurd (false≢true (sym (ap (λ (x : Bool). cond x false true) same) ∙ wrong))

  one_near : (p : Params) (word : ℕ → A) (xs ys : List A) → AreBounded p → length xs ≡ p.block → length ys ≡ p.block → distance o e p word xs ≤ p.block → distance o e p word ys ≤ p.block → xs ≡ ys
  one_near p word xs ys b lx ly near_x near_y =
      let table : ℕ → ℕ → A = λ i. word in
      let T : List A → List A = through o e.element in
      let all = range_with_len 0 p.mcol in
      let bad : ℕ → Bool = λ j. is_wrong o e p word xs j || is_wrong o e p word ys j in
      same_values laws p b p.block xs ys (omega (arith, b.columns, b.dblock, b.block)) lx ly
      (same_but_few o (place o e.element p table) bad laws.ring laws.field p.block p.mcol (T xs) (T ys) (omega (arith, length-through o e.element xs, lx)) (omega (arith, length-through o e.element ys, ly))
      (columns_apart laws p table b) (omega (arith, count_or (is_wrong o e p word xs) (is_wrong o e p word ys) all, near_x, near_y, b.mcol))
      (λ j h none.
      let both = or_false (is_wrong o e p word xs j) (is_wrong o e p word ys j) none in
      eval-through o laws.ring e.element xs (e.element (p.dblock + j)) ∙ sym (right_there p word xs j both.0) ∙ right_there p word ys j both.1
      ∙ sym (eval-through o laws.ring e.element ys (e.element (p.dblock + j)))))

  pub decoding_unique : DecodingIsUnique o e
  unfolding decoded
  decoding_unique p word values b long near =
      let D : List A → ℕ = distance o e p word in
      first_is (λ xs. nat_le (D xs) p.block) (λ xs. length xs ≡ p.block) (replicate p.block o.zero) values (draws_from (all_elements e) p.block)
      (all_long (all_elements e) p.block) (lists_have e laws.numbers values p.block long) (le-leb (D values) p.block near)
      (λ xs size is. one_near p word xs values b size long (leb-true (D xs) p.block is) near)

  pub nothing_zeros : NothingIsZeros o e
  unfolding decoded
  nothing_zeros p word never =
      let D : List A → ℕ = distance o e p word in
      first_none (λ xs. nat_le (D xs) p.block) (λ xs. length xs ≡ p.block) (replicate p.block o.zero) (draws_from (all_elements e) p.block)
      (all_long (all_elements e) p.block) (λ xs size is. never xs size (leb-true (D xs) p.block is))

  pub extracted_count : ExtractedCount o e
  extracted_count c table =
      let p = params_of c in
      length-map-range_with_len (λ k. entry o (decoded o e p (table (place_of p k).0)) (opened_count + (place_of p k).1)) 0 c.privates

  pub rows_extracted : RowsAreExtracted o e
  rows_extracted c rows table valid near =
      let b = params_bounded o c valid in
      let p = params_of c in
      let n = committed_count c in
      let f : ℕ → A = λ k. entry o (decoded o e p (table (place_of p k).0)) (opened_count + (place_of p k).1) in
      let fits : c.privates ≤ length (held o c rows) = omega (arith, length-map-range_with_len (placed o c rows) 0 n) in
      ext_get_or o.zero (extracted o e c table) (take c.privates (held o c rows))
      (extracted_count c table ∙ sym (length-take-le c.privates (held o c rows) fits))
      (λ k q.
      let h : k < c.privates = omega (arith, q, extracted_count c table) in
      let below : k / p.wr < p.nwrow = omega (arith, row_below k n p.wr (omega (arith, b.wide)) (omega (arith, h)), b.nwrow) in
      get_or-map-range_with_len f 0 c.privates k k o.zero h (omega arith)
      ∙ ap (λ xs. entry o xs (opened_count + k % p.wr)) (decoding_unique p (table (3 + k / p.wr)) (row rows (3 + k / p.wr)) b (near.long (k / p.wr) below) (near.near (k / p.wr) below))
      ∙ sym (get_or-take c.privates (held o c rows) k o.zero h ∙ get_or-map-range_with_len (placed o c rows) 0 n k k o.zero (omega (arith, h)) (omega arith)))
