-- One term more in a row.
use Rattle.std.specs.Prelude.{◌≡◌, ◌≢◌, ℕ, ◌+◌, ◌<◌, ◌≤◌, IsTrue, Option, Some, None, List, [], ◌∷◌, ◌++◌, length, take, drop}
use Rattle.std.proofs.Common.{zero, suc, inl, inr, refl, sym, ap, ◌∙◌, arith, subst, get_or}
use Rattle.std.proofs.lemmas.Bool.{cases_lt}
use Rattle.std.proofs.lemmas.List.{take-append-drop, drop_more}
use Rattle.lzk_field.specs.Ring.{Ops, RingLaws}
use Rattle.lzk_field.specs.Sums.{entry}
use Rattle.lzk_field.proofs.RingBasics.{zero_plus, zero_times, plus_times}
use Rattle.lzk_circuit.specs.declared.layer.Term.{Term}
use Rattle.lzk_circuit.specs.Valid.{follows, AreTerms, IsTerm}
use Rattle.lzk_circuit_reduce.specs.Rows.{IsRow, row_value, term_value, Less}
use Rattle.lzk_circuit_reduce.proofs.RowLaws.{FromZero, follows-alike, less-precedes, skip, alike-terms, value-append}

one-more : (i : ℕ) → i + 1 ≡ suc i
one-more i = omega arith

module _ {X : Type 0} where
  -- an element is there whatever stands for a missing one
  pub any-default : (xs : List X) (i : ℕ) (x d : X) → i < length xs → x ≡ get_or xs i x → x ≡ get_or xs i d
  any-default [] i x d l e = absurd (omega (arith, l))
  any-default (y ∷ ys) zero x d l e = e
  any-default (y ∷ ys) (suc i) x d l e = any-default ys i x d (omega (arith, l)) e

  pub same-at : (xs : List X) (i : ℕ) (x y : X) → i < length xs → x ≡ get_or xs i x → y ≡ get_or xs i y → x ≡ y
  same-at xs i x y l e f = any-default xs i x y l e ∙ sym f

  -- there is a term in no empty row
  pub none-behind : (xs ys : List X) → ys ≡ xs → xs ≡ [] → 1 ≤ length ys → ⊥
  none-behind xs ys e none some = omega (arith, ap length e, ap length none, some)

module _ {A : Type 0} where
  -- two terms of which neither comes before the other stand at one place
  pub at-one-place : (s t : Term A) → (Less s t → ⊥) → (Less t s → ⊥) → (s.a ≡ t.a) × (s.b ≡ t.b)
  at-one-place s t h k = elim (cases_lt s.a t.a) [
    | inl l ↦ absurd (h (inl l))
    | inr m ↦ elim (cases_lt t.a s.a) [
      | inl l ↦ absurd (k (inl l))
      | inr n ↦ let same : s.a ≡ t.a = omega (arith, m, n) in
          elim (cases_lt s.b t.b) [
            | inl l ↦ absurd (h (inr (same, l)))
            | inr x ↦ elim (cases_lt t.b s.b) [ inl l ↦ absurd (k (inr (sym same, l))) | inr y ↦ (same, omega (arith, x, y)) ]
          ]
    ]
  ]

module _ {A : Type 0} (o : Ops A) where
  -- a term between the first ones, of which the last comes before it, and the others, of which the first does not
  inserted : (width : ℕ) (before : Option (Term A)) (ts : List (Term A)) (i : ℕ) (t : Term A) → FromZero before → IsTerm o 1 width t → (i ≡ 0 → IsTrue (follows before t))
      → ((j : ℕ) → j + 1 ≡ i → Less (get_or ts j t) t) → (i < length ts → Less t (get_or ts i t)) → AreTerms o 1 width before ts → AreTerms o 1 width before (take i ts ++ t ∷ drop i ts)
  inserted width before [] zero t z is f l m h = (is, f refl, tt)
  inserted width before [] (suc i) t z is f l m h = let no : Less t t = l i (omega arith) in absurd (elim no [ inl x ↦ omega (arith, x) | inr x ↦ omega (arith, x.1) ])
  inserted width before (u ∷ us) zero t z is f l m h =
      let one = h.0 in
      (is, f refl, (h.0, less-precedes t u (omega (arith, is.g, one.g)) (m (omega arith)), h.2))
  inserted width before (u ∷ us) (suc i) t z is f l m h =
      let one = h.0 in
      let zg : u.g ≡ 0 = omega (arith, one.g) in (
        h.0,
        h.1,
        inserted width (Some u) us i t zg is (λ e. less-precedes u t (omega (arith, zg, is.g)) (l 0 (omega (arith, e)))) (λ j e. l (suc j) (omega (arith, e))) (λ n. m (omega (arith, n))) h.2,
      )

  pub inserted-row : (width : ℕ) (ts : List (Term A)) (i : ℕ) (t : Term A) → IsTerm o 1 width t → ((j : ℕ) → j + 1 ≡ i → Less (get_or ts j t) t) → (i < length ts → Less t (get_or ts i t)) → IsRow o width ts
      → IsRow o width (take i ts ++ t ∷ drop i ts)
  inserted-row width ts i t is l m h = inserted width None ts i t tt is (λ e. refl) l m h

  -- without one of the terms
  removed : (width : ℕ) (before : Option (Term A)) (ts : List (Term A)) (i : ℕ) → FromZero before → AreTerms o 1 width before ts → AreTerms o 1 width before (take i ts ++ drop (suc i) ts)
  removed width before [] zero z h = tt
  removed width before [] (suc i) z h = tt
  removed width before (u ∷ us) zero z h = skip o width before u us z h
  removed width before (u ∷ us) (suc i) z h = let one = h.0 in (h.0, h.1, removed width (Some u) us i (omega (arith, one.g)) h.2)

  pub removed-row : (width : ℕ) (ts : List (Term A)) (i : ℕ) → IsRow o width ts → IsRow o width (take i ts ++ drop (suc i) ts)
  removed-row width ts i h = removed width None ts i tt h

  -- one of the terms with another coefficient
  changed : (width : ℕ) (before : Option (Term A)) (ts : List (Term A)) (i : ℕ) (t : Term A) (c : A) → c ≢ o.zero → i < length ts → t ≡ get_or ts i t → AreTerms o 1 width before ts
      → AreTerms o 1 width before (take i ts ++ record { g = t.g; a = t.a; b = t.b; coef = c } ∷ drop (suc i) ts)
  changed width before [] i t c nz l e h = absurd (omega (arith, l))
  changed width before (u ∷ us) zero t c nz l e h =
      let one = h.0 in
      let new : Term A = record { g = u.g; a = u.a; b = u.b; coef = c } in
      subst (λ (s : Term A). AreTerms o 1 width before (record { g = s.g; a = s.a; b = s.b; coef = c } ∷ us)) (sym e)
      (record { g = one.g; a = one.a; b = one.b; coef = nz }, follows-alike before new u (refl, refl, refl) ∙ h.1, alike-terms o 1 width new u us (refl, refl, refl) h.2)
  changed width before (u ∷ us) (suc i) t c nz l e h = (h.0, h.1, changed width (Some u) us i t c nz (omega (arith, l)) e h.2)

  pub changed-row : (width : ℕ) (ts : List (Term A)) (i : ℕ) (t : Term A) (c : A) → c ≢ o.zero → i < length ts → t ≡ get_or ts i t → IsRow o width ts
      → IsRow o width (take i ts ++ record { g = t.g; a = t.a; b = t.b; coef = c } ∷ drop (suc i) ts)
  changed-row width ts i t c nz l e h = changed width None ts i t c nz l e h

module _ {A : Type 0} (o : Ops A) (r : RingLaws o) where
  open o use {plus, times}

  swapped : (x y z : A) → plus x (plus y z) ≡ plus y (plus x z)
  swapped x y z = sym (r.plus_assoc x y z) ∙ ap (λ w. plus w z) (r.plus_comm x y) ∙ r.plus_assoc y x z

  -- a term counts wherever it stands
  pub inserted-value : (below : List A) (ts : List (Term A)) (i : ℕ) (t : Term A) → row_value o below (take i ts ++ t ∷ drop i ts) ≡ plus (term_value o below t) (row_value o below ts)
  inserted-value below ts i t =
      value-append o r below (take i ts) (t ∷ drop i ts) ∙ swapped (row_value o below (take i ts)) (term_value o below t) (row_value o below (drop i ts))
      ∙ ap (plus (term_value o below t)) (sym (value-append o r below (take i ts) (drop i ts)) ∙ ap (row_value o below) (take-append-drop i ts))

  pub pushed-value : (below : List A) (ts : List (Term A)) (t : Term A) → row_value o below (ts ++ t ∷ []) ≡ plus (term_value o below t) (row_value o below ts)
  pushed-value below ts t =
      value-append o r below ts (t ∷ []) ∙ ap (plus (row_value o below ts)) (r.plus_zero (term_value o below t)) ∙ r.plus_comm (row_value o below ts) (term_value o below t)

  -- a term, and the others
  parted-value : (below : List A) (ts : List (Term A)) (i : ℕ) (t : Term A) → i < length ts → t ≡ get_or ts i t → row_value o below ts ≡ plus (term_value o below t) (row_value o below (take i ts ++ drop (suc i) ts))
  parted-value below ts i t l e =
      ap (row_value o below) (sym (take-append-drop i ts)) ∙ value-append o r below (take i ts) (drop i ts)
      ∙ ap (λ us. plus (row_value o below (take i ts)) (row_value o below us)) (drop_more ts i t l ∙ ap (λ k. get_or ts i t ∷ drop k ts) (one-more i) ∙ ap (λ s. s ∷ drop (suc i) ts) (sym e))
      ∙ swapped (row_value o below (take i ts)) (term_value o below t) (row_value o below (drop (suc i) ts)) ∙ ap (plus (term_value o below t)) (sym (value-append o r below (take i ts) (drop (suc i) ts)))

  two-coefs : (x c p s : A) → plus (times (plus x c) p) s ≡ plus (plus (times x p) s) (times c p)
  two-coefs x c p s =
      ap (λ w. plus w s) (plus_times o r x c p) ∙ r.plus_assoc (times x p) (times c p) s ∙ ap (plus (times x p)) (r.plus_comm (times c p) s) ∙ sym (r.plus_assoc (times x p) s (times c p))

  pub removed-value : (below : List A) (ts : List (Term A)) (i : ℕ) (t : Term A) (c : A) → plus t.coef c ≡ o.zero → i < length ts → t ≡ get_or ts i t
      → row_value o below (take i ts ++ drop (suc i) ts) ≡ plus (row_value o below ts) (times c (times (entry o below t.a) (entry o below t.b)))
  removed-value below ts i t c z l e =
      let p = times (entry o below t.a) (entry o below t.b) in
      let s = row_value o below (take i ts ++ drop (suc i) ts) in
      sym (zero_plus o r s) ∙ ap (λ w. plus w s) (sym (zero_times o r p)) ∙ ap (λ w. plus (times w p) s) (sym z) ∙ two-coefs t.coef c p s ∙ ap (λ w. plus w (times c p)) (sym (parted-value below ts i t l e))

  pub changed-value : (below : List A) (ts : List (Term A)) (i : ℕ) (t : Term A) (c : A) → i < length ts → t ≡ get_or ts i t
      → row_value o below (take i ts ++ record { g = t.g; a = t.a; b = t.b; coef = plus t.coef c } ∷ drop (suc i) ts) ≡ plus (row_value o below ts) (times c (times (entry o below t.a) (entry o below t.b)))
  changed-value below ts i t c l e =
      let p = times (entry o below t.a) (entry o below t.b) in
      let u : Term A = record { g = t.g; a = t.a; b = t.b; coef = plus t.coef c } in
      value-append o r below (take i ts) (u ∷ drop (suc i) ts) ∙ swapped (row_value o below (take i ts)) (term_value o below u) (row_value o below (drop (suc i) ts))
      ∙ ap (plus (term_value o below u)) (sym (value-append o r below (take i ts) (drop (suc i) ts)))
      ∙ two-coefs t.coef c p (row_value o below (take i ts ++ drop (suc i) ts)) ∙ ap (λ w. plus w (times c p)) (sym (parted-value below ts i t l e))
