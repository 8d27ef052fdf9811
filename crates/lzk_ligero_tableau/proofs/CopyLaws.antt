-- The copies in the triples of rows, as they are set layer by layer.
use Rattle.std.specs.Prelude.{◌≡◌, ◌≢◌, ℕ, ◌+◌, ◌-◌, ◌*◌, ◌/◌, ◌%◌, ◌<◌, ◌≤◌, cond, nat_lt, List, ◌++◌, length, slice_range}
use Rattle.std.proofs.Common.{zero, suc, refl, sym, ap, ◌∙◌, arith, inl, inr, subst}
use Rattle.std.proofs.Math.Nat.{suc-mul, mul-le-mul_right}
use Rattle.std.proofs.lemmas.Bool.{cases_lt, cases_eq, lt-ltb, le-ltb}
use Rattle.std.proofs.lemmas.Nat.{div-add-mod'}
use Rattle.std.proofs.lemmas.List.{get_or_append_left, get_or-append_right}
use Rattle.lzk_field.specs.Coding.{Coding}
use Rattle.lzk_field.specs.Ring.{Ops}
use Rattle.lzk_field.specs.Sums.{entry}
use Rattle.lzk_circuit.specs.Valid.{Wiring}
use Rattle.lzk_layout.specs.declared.params.Params.{Params}
use Rattle.lzk_layout.specs.Places.{depth, factors_at}
use Rattle.lzk_layout.specs.Sizes.{params_of}
use Rattle.lzk_ligero_tableau.specs.Tableau.{committed, copy_at, element_at}
use Rattle.lzk_ligero_tableau.proofs.FilledLaws.{part_entry}

-- of two rows of one width, an earlier one ends before the later one's entries
apart : (w a b s q : ℕ) → s < w → a < b → a * w + s ≡ b * w + q → (n : ℕ) → n < 0
apart w a b s q hs l e n =
    let low : suc a * w ≤ b * w = mul-le-mul_right w l in
    absurd (omega (arith, low, suc-mul a w))

-- a place has one row and one position
pub same_row : (w a b s q : ℕ) → s < w → q < w → a * w + s ≡ b * w + q → a ≡ b
same_row w a b s q hs hq e =
    elim (cases_lt a b) [
      | inl l ↦ absurd (omega (arith, apart w a b s q hs l e 0))
      | inr ge ↦ elim (cases_lt b a) [ inl l ↦ absurd (omega (arith, apart w b a q s hq l (sym e) 0)) | inr le ↦ omega arith ]
    ]

pub same_position : (w a b s q : ℕ) → s < w → q < w → a * w + s ≡ b * w + q → s ≡ q
same_position w a b s q hs hq e = let rows : a * w ≡ b * w = ap (λ m. m * w) (same_row w a b s q hs hq e) in omega arith

module _ {A : Type 0} (o : Ops A) (c : Wiring A) (list : List A) (w l : ℕ) (some : 0 < w) where
  -- the copy of number k of layer n
  abbrev copied : ℕ → ℕ → A
  copied n k = entry o list (factors_at c n + k)

  -- what stands in row r of the triples at position s, with so many layers set
  abbrev pub copy_set : ℕ → ℕ → ℕ → A
  copy_set n r s = cond (nat_lt (r / 3 * w + s) n) (copied (r / 3 * w + s) (r % 3)) o.zero

  -- where the copies of layer l stand
  abbrev first : ℕ
  first = l / w * (3 * w) + l % w

  -- row r has layer l's copy number k at a position
  at_row : (r s : ℕ) → s < w → r / 3 * w + s ≡ l → r * w + s ≡ first + r % 3 * w
  at_row r s hs e =
      let parts : l / w * w + l % w ≡ l = div-add-mod' l w in
      let row : r / 3 * w ≡ l / w * w = ap (λ m. m * w) (same_row w (r / 3) (l / w) s (l % w) hs (omega arith) (e ∙ sym parts)) in
      let whole : (r / 3 * 3 + r % 3) * w ≡ r * w = ap (λ m. m * w) (div-add-mod' r 3) in
      omega (arith, row, whole, parts)

  -- and other places have none of them
  at_other : (r s k : ℕ) → s < w → k < 3 → r / 3 * w + s ≢ l → r * w + s ≢ first + k * w
  at_other r s k hs hk ne e =
      let parts : l / w * w + l % w ≡ l = div-add-mod' l w in
      let t = l / w in
      let place : r * w + s ≡ (3 * t + k) * w + l % w = omega (arith, e) in
      let row : r ≡ 3 * t + k = same_row w r (3 * t + k) s (l % w) hs (omega arith) place in
      let position : s ≡ l % w = same_position w r (3 * t + k) s (l % w) hs (omega arith) place in
      let third : r / 3 ≡ t = omega arith in
      let own : r / 3 * w ≡ t * w = ap (λ m. m * w) third in
      ne (omega (arith, own, parts, position))

  set_before : (n r s : ℕ) → n ≡ suc l → r / 3 * w + s ≢ l → copy_set l r s ≡ copy_set n r s
  set_before n r s en ne =
      let m = r / 3 * w + s in
      elim (cases_lt m l) [
        | inl lt ↦ ap (λ b. cond b (copied m (r % 3)) o.zero) (lt-ltb m l lt ∙ sym (lt-ltb m n (omega arith)))
        | inr ge ↦ ap (λ b. cond b (copied m (r % 3)) o.zero) (le-ltb m l ge ∙ sym (le-ltb m n (omega arith)))
      ]

  set_now : (n r s k : ℕ) → n ≡ suc l → r / 3 * w + s ≡ l → r % 3 ≡ k → copied l k ≡ copy_set n r s
  set_now n r s k en e ek =
      let m = r / 3 * w + s in
      ap (copied l) (sym ek) ∙ ap (λ j. copied j (r % 3)) (sym e) ∙ ap (λ b. cond b (copied m (r % 3)) o.zero) (sym (lt-ltb m n (omega arith)))

  -- one more layer's copies are set
  pub copies_more : (old new values : List A) (n at begin : ℕ) → n ≡ suc l → at ≡ factors_at c l → begin ≡ first → values ≡ slice_range list at (at + 3)
      → entry o new begin ≡ entry o values 0 → entry o new (begin + w) ≡ entry o values 1 → entry o new (begin + 2 * w) ≡ entry o values 2
      → ((j : ℕ) → j ≢ begin → j ≢ begin + w → j ≢ begin + 2 * w → entry o new j ≡ entry o old j)
      → (r s : ℕ) → s < w → entry o old (r * w + s) ≡ copy_set l r s → entry o new (r * w + s) ≡ copy_set n r s
  copies_more old new values n at begin en ea eb ev one two three others r s hs was =
      let value : (k : ℕ) → k < 3 → entry o values k ≡ copied l k =
      λ k hk. ap (λ ys. entry o ys k) ev ∙ part_entry o.zero list at (at + 3) k (omega arith) ∙ ap (λ m. entry o list (m + k)) ea in
      elim (cases_eq (r / 3 * w + s) l) [
        | inl e ↦ own value (r % 3) refl e
        | inr ne ↦
            let a : r * w + s ≢ begin = λ h. at_other r s 0 hs (omega arith) ne (omega arith) in
            let b : r * w + s ≢ begin + w = λ h. at_other r s 1 hs (omega arith) ne (omega arith) in
            let d : r * w + s ≢ begin + 2 * w = λ h. at_other r s 2 hs (omega arith) ne (omega arith) in
            others (r * w + s) a b d ∙ was ∙ set_before n r s en ne
      ]
    where
      own : ((k : ℕ) → k < 3 → entry o values k ≡ copied l k) → (k : ℕ) → r % 3 ≡ k → r / 3 * w + s ≡ l → entry o new (r * w + s) ≡ copy_set n r s
      own value zero ek e = let place : r * w + s ≡ begin = omega (arith, at_row r s hs e, ap (λ m. m * w) ek) in ap (entry o new) place ∙ one ∙ value 0 (omega arith) ∙ set_now n r s 0 en e ek
      own value (suc zero) ek e = let place : r * w + s ≡ begin + w = omega (arith, at_row r s hs e, ap (λ m. m * w) ek) in ap (entry o new) place ∙ two ∙ value 1 (omega arith) ∙ set_now n r s 1 en e ek
      own value (suc (suc zero)) ek e = let place : r * w + s ≡ begin + 2 * w = omega (arith, at_row r s hs e, ap (λ m. m * w) ek) in ap (entry o new) place ∙ three ∙ value 2 (omega arith) ∙ set_now n r s 2 en e ek
      own value (suc (suc (suc k))) ek e = absurd (omega arith)

-- what stands in the rows, of the list and of the copies
module _ {A : Type 0} (o : Ops A) (e : Coding A) (c : Wiring A) (private : List A) (word : ℕ → ℕ) where
  abbrev IsStanding : List A → List A → Params → Type 0
  IsStanding list copies p =
      length list ≡ p.nwrow * p.wr → p.nrow - 3 ≡ p.nwrow + 3 * p.ntriple
      → ((j : ℕ) → entry o list j ≡ entry o (committed o e c private word) j)
      → ((r s : ℕ) → r < 3 * p.ntriple → s < p.wr → entry o copies (r * p.wr + s) ≡ cond (nat_lt (r / 3 * p.wr + s) (depth c)) (entry o list (factors_at c (r / 3 * p.wr + s) + r % 3)) o.zero)
      → (i s : ℕ) → i < p.nrow - 3 → s < p.wr → entry o (list ++ copies) (i * p.wr + s) ≡ element_at o e c private word (3 + i) s

  standing_of : (list copies : List A) → IsStanding list copies (params_of c)
  standing_of list copies size rows own copied i s hi hs =
      let p = params_of c in
      let w = p.wr in
      let number : 3 + i - 3 ≡ i = omega arith in
      elim (cases_lt i p.nwrow) [
        | inl l ↦
            let low : suc i * w ≤ p.nwrow * w = mul-le-mul_right w l in
            get_or_append_left list copies o.zero (i * w + s) (omega (arith, low, suc-mul i w, size))
            ∙ own (i * w + s)
            ∙ ap (λ m. entry o (committed o e c private word) (m * w + s)) (sym number)
            ∙ ap (λ b. cond b (entry o (committed o e c private word) ((3 + i - 3) * w + s)) (copy_at o e c private word (3 + i - 3 - p.nwrow) s)) (sym (lt-ltb (3 + i) (3 + p.nwrow) (omega arith)))
        | inr ge ↦
            let r = i - p.nwrow in
            let high : i ≡ p.nwrow + r = omega arith in
            let wide : i * w ≡ (p.nwrow + r) * w = ap (λ m. m * w) high in
            let place : i * w + s - p.nwrow * w ≡ r * w + s = omega (arith, wide) in
            let m = r / 3 * w + s in
            let behind : r ≡ 3 + i - 3 - p.nwrow = omega arith in
            get_or-append_right list copies (p.nwrow * w) (i * w + s) o.zero size (omega (arith, wide))
            ∙ ap (entry o copies) place
            ∙ copied r s (omega (arith, rows)) hs
            ∙ ap (λ x. cond (nat_lt m (depth c)) x o.zero) (own (factors_at c m + r % 3))
            ∙ ap (λ n. copy_at o e c private word n s) behind
            ∙ ap (λ b. cond b (entry o (committed o e c private word) ((3 + i - 3) * w + s)) (copy_at o e c private word (3 + i - 3 - p.nwrow) s)) (sym (le-ltb (3 + i) (3 + p.nwrow) (omega arith)))
      ]

  pub standing : (list copies : List A) (p : Params) → p ≡ params_of c → IsStanding list copies p
  standing list copies p e' = let P : Params → Type 0 = λ q. IsStanding list copies q in subst P (sym e') (standing_of list copies)
