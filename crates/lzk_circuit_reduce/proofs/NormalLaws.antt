-- Any terms of one wire as a row: in order, each place once, and none with the coefficient 0.
use Rattle.std.specs.Prelude.{◌≡◌, ◌≢◌, ℕ, ◌+◌, ◌<◌, ◌≤◌, min, max, Option, Some, None, IsTrue, List, [], ◌∷◌, ◌++◌, length}
use Rattle.std.proofs.Common.{◌⊎◌, inl, inr, refl, sym, ap, ◌∙◌, arith, Bool, true, false, eqb}
use Rattle.std.proofs.lemmas.Bool.{cases_lt, eqb-true, eqb-false}
use Rattle.lzk_field.specs.Ring.{Ops, RingLaws, NumberLaws}
use Rattle.lzk_field.specs.Sums.{entry}
use Rattle.lzk_field.proofs.RingBasics.{zero_plus, zero_times, plus_times}
use Rattle.lzk_circuit.specs.declared.layer.Term.{Term}
use Rattle.lzk_circuit.specs.Valid.{follows, AreTerms}
use Rattle.lzk_circuit_reduce.specs.Rows.{IsRow, row_value, term_value, ordered, Less, added}
use Rattle.lzk_circuit_reduce.proofs.RowLaws.{FromZero, follows-alike, less-precedes, skip, alike-terms}

-- an element is 0 or is not
abbrev pub ZeroOrNot : {A : Type 0} → Ops A → Type 0
ZeroOrNot {A} o = (x : A) → (x ≡ o.zero) ⊎ (x ≢ o.zero)

pub zero_or_not : {A : Type 0} (o : Ops A) (size : ℕ) (number_of : A → ℕ) (element : ℕ → A) (bytes : ℕ) → NumberLaws o size number_of element bytes → ZeroOrNot o
zero_or_not o size number_of element bytes laws x = go (eqb (number_of x) 0) refl
  where
    go : (b : Bool) → eqb (number_of x) 0 ≡ b → (x ≡ o.zero) ⊎ (x ≢ o.zero)
    go true e = inl (sym (laws.element_number x) ∙ ap element (eqb-true (number_of x) 0 e ∙ sym laws.zero_number) ∙ laws.element_number o.zero)
    go false e = inr (λ same. eqb-false (number_of x) 0 e (ap number_of same ∙ laws.zero_number))

module _ {A : Type 0} where
  -- which of two terms comes first
  data Order (t u : Term A) : Type 0 where
    First : Less t u → Order t u
    Same : t.a ≡ u.a → t.b ≡ u.b → Order t u
    Last : Less u t → Order t u

  order : (t u : Term A) → Order t u
  order t u = elim (cases_lt t.a u.a) [
    | inl l ↦ First (inl l)
    | inr m ↦ elim (cases_lt u.a t.a) [
      | inl l ↦ Last (inl l)
      | inr n ↦ let same : t.a ≡ u.a = omega (arith, m, n) in
          elim (cases_lt t.b u.b) [
            | inl l ↦ First (inr (same, l))
            | inr x ↦ elim (cases_lt u.b t.b) [ inl l ↦ Last (inr (sym same, l)) | inr y ↦ Same same (omega (arith, x, y)) ]
          ]
    ]
  ]

  -- a term of a single wire, over so many
  pub record IsOfRow (width : ℕ) (t : Term A) : Type 0 where
    pub g : t.g ≡ 0
    pub a : t.a ≤ t.b
    pub b : t.b < width

  abbrev pub AreOfRow : ℕ → List (Term A) → Type 0
  AreOfRow width [] = Unit {0}
  AreOfRow width (t ∷ ts) = IsOfRow width t × AreOfRow width ts

  pub of-row-append : (width : ℕ) (ts us : List (Term A)) → AreOfRow width ts → AreOfRow width us → AreOfRow width (ts ++ us)
  of-row-append width [] us h k = k
  of-row-append width (t ∷ ts) us h k = (h.0, of-row-append width ts us h.1 k)

  pub ordered-of-row : (width : ℕ) (c : A) (a b : ℕ) → a < width → b < width → IsOfRow width (ordered c a b)
  ordered-of-row width c a b la lb = record { g = refl; a = omega arith; b = omega (arith, la, lb) }

module _ {A : Type 0} (o : Ops A) (r : RingLaws o) (decide : ZeroOrNot o) where
  open o use {plus, times}

  pub ordered-value : (below : List A) (c : A) (a b : ℕ) → term_value o below (ordered c a b) ≡ times c (times (entry o below a) (entry o below b))
  ordered-value below c a b = elim (cases_lt b a) [
    | inl l ↦ let low : min a b ≡ b = omega (arith, l) in
        let high : max a b ≡ a = omega (arith, l) in
        ap (λ k. times c (times (entry o below k) (entry o below (max a b)))) low ∙ ap (λ k. times c (times (entry o below b) (entry o below k))) high ∙ ap (times c) (r.times_comm (entry o below b) (entry o below a))
    | inr l ↦ let low : min a b ≡ a = omega (arith, l) in
        let high : max a b ≡ b = omega (arith, l) in
        ap (λ k. times c (times (entry o below k) (entry o below (max a b)))) low ∙ ap (λ k. times c (times (entry o below a) (entry o below k))) high
  ]

  none : (below : List A) (t : Term A) (x : A) → t.coef ≡ o.zero → x ≡ plus (term_value o below t) x
  none below t x e =
      sym (ap (λ c. plus (times c (times (entry o below t.a) (entry o below t.b))) x) e ∙ ap (λ y. plus y x) (zero_times o r (times (entry o below t.a) (entry o below t.b))) ∙ zero_plus o r x)

  both : (below : List A) (t u : Term A) → t.a ≡ u.a → t.b ≡ u.b → term_value o below (added o u t) ≡ plus (term_value o below t) (term_value o below u)
  both below t u ea eb =
      plus_times o r u.coef t.coef (times (entry o below u.a) (entry o below u.b)) ∙ r.plus_comm (term_value o below u) (times t.coef (times (entry o below u.a) (entry o below u.b)))
      ∙ ap (λ y. plus y (term_value o below u)) (ap (λ k. times t.coef (times (entry o below k) (entry o below u.b))) (sym ea) ∙ ap (λ k. times t.coef (times (entry o below t.a) (entry o below k))) (sym eb))

  swapped : (x y z : A) → plus x (plus y z) ≡ plus y (plus x z)
  swapped x y z = sym (r.plus_assoc x y z) ∙ ap (λ w. plus w z) (r.plus_comm x y) ∙ r.plus_assoc y x z

  -- a row with one term more
  record IsPut (t : Term A) (row new : List (Term A)) : Type 0 where
    pub value : (below : List A) → row_value o below new ≡ plus (term_value o below t) (row_value o below row)
    pub short : length new ≤ 1 + length row
    pub terms : (width : ℕ) (before : Option (Term A)) → FromZero before → IsOfRow width t → IsTrue (follows before t) → AreTerms o 1 width before row → AreTerms o 1 width before new
    pub alone : row ≡ [] → t.coef ≢ o.zero → new ≡ t ∷ []

  put_none : (t : Term A) → (new : List (Term A)) × IsPut t [] new
  put_none t = elim (decide t.coef) [
    | inl e ↦ (
      [],
      record {
        value = λ below. none below t o.zero e;
        short = omega arith;
        terms = λ width before z is f h. h;
        alone = λ empty some. absurd (some e);
      },
    )
    | inr some ↦ (
      t ∷ [],
      record {
        value = λ below. refl;
        short = omega arith;
        terms = λ width before z is f h. (record { g = omega (arith, is.g); a = is.a; b = is.b; coef = some }, f, tt);
        alone = λ empty nz. refl;
      },
    )
  ]

  put_first : (t u : Term A) (us : List (Term A)) → Less t u → (new : List (Term A)) × IsPut t (u ∷ us) new
  put_first t u us l = elim (decide t.coef) [
    | inl e ↦ (
      u ∷ us,
      record {
        value = λ below. none below t (row_value o below (u ∷ us)) e;
        short = omega arith;
        terms = λ width before z is f h. h;
        alone = λ empty nz. absurd cc;
      },
    )
    | inr some ↦ (
      t ∷ u ∷ us,
      record {
        value = λ below. refl;
        short = omega arith;
        terms = λ width before z is f h. let one = h.0 in (record { g = omega (arith, is.g); a = is.a; b = is.b; coef = some }, f, (h.0, less-precedes t u (omega (arith, is.g, one.g)) l, h.2));
        alone = λ empty nz. absurd cc;
      },
    )
  ]

  put_same : (t u : Term A) (us : List (Term A)) → t.a ≡ u.a → t.b ≡ u.b → (new : List (Term A)) × IsPut t (u ∷ us) new
  put_same t u us ea eb =
      let values : (below : List A) → plus (term_value o below (added o u t)) (row_value o below us) ≡ plus (term_value o below t) (row_value o below (u ∷ us)) =
      λ below. ap (λ y. plus y (row_value o below us)) (both below t u ea eb) ∙ r.plus_assoc (term_value o below t) (term_value o below u) (row_value o below us) in
      elim (decide (plus u.coef t.coef)) [
        | inl e ↦ (
          us,
          record {
            value = λ below. none below (added o u t) (row_value o below us) e ∙ values below;
            short = omega arith;
            terms = λ width before z is f h. skip o width before u us z h;
            alone = λ empty nz. absurd cc;
          },
        )
        | inr some ↦ (
          added o u t ∷ us,
          record {
            value = values;
            short = omega arith;
            terms = λ width before z is f h. let one = h.0 in (record { g = one.g; a = one.a; b = one.b; coef = some }, follows-alike before (added o u t) u (refl, refl, refl) ∙ h.1, alike-terms o 1 width (added o u t) u us (refl, refl, refl) h.2);
            alone = λ empty nz. absurd cc;
          },
        )
      ]

  put_last : (t u : Term A) (us : List (Term A)) → Less u t → (new : List (Term A)) × IsPut t us new → (new : List (Term A)) × IsPut t (u ∷ us) new
  put_last t u us l (new, put) = (
    u ∷ new,
    record {
      value = λ below. ap (plus (term_value o below u)) (put.value below) ∙ swapped (term_value o below u) (term_value o below t) (row_value o below us);
      short = omega (arith, put.short);
      terms = λ width before z is f h. let one = h.0 in (h.0, h.1, put.terms width (Some u) (omega (arith, one.g)) is (less-precedes u t (omega (arith, is.g, one.g)) l) h.2);
      alone = λ empty nz. absurd cc;
    },
  )

  put : (t : Term A) (row : List (Term A)) → (new : List (Term A)) × IsPut t row new
  put t [] = put_none t
  put t (u ∷ us) = at_order (order t u) (put t us)
    where
      at_order : Order t u → (new : List (Term A)) × IsPut t us new → (new : List (Term A)) × IsPut t (u ∷ us) new
      at_order (First l) rest = put_first t u us l
      at_order (Same ea eb) rest = put_same t u us ea eb
      at_order (Last l) rest = put_last t u us l rest

  -- a row that counts what any terms of one wire count
  pub record IsNormal (ts row : List (Term A)) : Type 0 where
    pub value : (below : List A) → row_value o below row ≡ row_value o below ts
    pub short : length row ≤ length ts
    pub terms : (width : ℕ) → AreOfRow width ts → IsRow o width row
    pub alone : (t : Term A) → ts ≡ t ∷ [] → t.coef ≢ o.zero → row ≡ t ∷ []

  pub normal : (ts : List (Term A)) → (row : List (Term A)) × IsNormal ts row
  normal [] = ([], record { value = λ below. refl; short = omega arith; terms = λ width h. tt; alone = λ t e nz. absurd cc })
  normal (t ∷ ts) = more (normal ts)
    where
      first_of : (s : Term A) → t ∷ ts ≡ s ∷ [] → t ≡ s
      first_of s e = cc

      rest_of : (s : Term A) → t ∷ ts ≡ s ∷ [] → ts ≡ []
      rest_of s e = cc

      empty : (row : List (Term A)) → length row ≤ length ts → ts ≡ [] → row ≡ []
      empty [] l e = refl
      empty (u ∷ us) l e = absurd (omega (arith, l, ap length e))

      more : (row : List (Term A)) × IsNormal ts row → (row : List (Term A)) × IsNormal (t ∷ ts) row
      more (row, is) =
          let (new, p) = put t row in (
            new,
            record {
              value = λ below. p.value below ∙ ap (plus (term_value o below t)) (is.value below);
              short = omega (arith, p.short, is.short);
              terms = λ width h. p.terms width None tt h.0 refl (is.terms width h.1);
              alone = λ s e nz. p.alone (empty row is.short (rest_of s e)) (λ z. nz (ap (λ (x : Term A). x.coef) (sym (first_of s e)) ∙ z)) ∙ ap (λ (x : Term A). x ∷ []) (first_of s e);
            },
          )
