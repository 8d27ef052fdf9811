-- A layer's marked wires, over the marked ones below.
use Rattle.std.specs.Prelude.{◌≡◌, ℕ, ◌<◌, ◌≤◌, ◌==◌, ◌&&◌, ◌||◌, nat_lt, true, false, Bool, IsTrue, Option, Some, None, List, [], ◌∷◌, length, map}
use Rattle.std.proofs.Common.{◌⊎◌, inl, inr, refl, sym, ap, ◌∙◌, arith, subst}
use Rattle.std.proofs.lemmas.Bool.{cases_Bool, cond-true, cond-false, or_left, or_right, or_cases, and_parts, and_from, lt-ltb, ltb-true, eqb-true, eq-eqb, ne_eqb, both_ways}
use Rattle.std.proofs.lemmas.List.FromFn.{length-map-range_with_len, get_or-map-range_with_len}
use Rattle.lzk_field.specs.Ring.{Ops, RingLaws}
use Rattle.lzk_field.specs.Sums.{entry}
use Rattle.lzk_circuit.specs.declared.layer.Term.{Term}
use Rattle.lzk_circuit.specs.Valid.{follows, IsTerm, AreTerms}
use Rattle.lzk_circuit.specs.Wires.{coef, wire}
use Rattle.lzk_circuit_reduce.specs.Rows.{Less, row_value, term_value}
use Rattle.lzk_circuit_reduce.specs.Renumbering.{of_wire}
use Rattle.lzk_circuit_reduce.specs.Marks.{is_marked, names, marked_before}
use Rattle.lzk_circuit_reduce.specs.Reduced.{terms_of, IsNamed}
use Rattle.lzk_circuit_reduce.specs.Targets.{is_in}
use Rattle.lzk_circuit_reduce.specs.Used.{named_marks, used_term, used_terms}
use Rattle.lzk_circuit_reduce.proofs.RowLaws.{less-precedes, precedes-less, less-less}
use Rattle.lzk_circuit_reduce.proofs.RenumberLaws.{wire-value}
use Rattle.lzk_circuit_reduce.proofs.MarkedPlaceLaws.{places-ascend, places-differ, places-up, marked-place}

module _ {A : Type 0} where
  -- what a marked wire's term names is marked
  abbrev pub AreMarkedUnder : List Bool → List Bool → List (Term A) → Type 0
  AreMarkedUnder marks below [] = Unit {0}
  AreMarkedUnder marks below (t ∷ ts) = (is_marked marks t.g ≡ true → (is_marked below t.a ≡ true) × (is_marked below t.b ≡ true)) × AreMarkedUnder marks below ts

  names-here : (marks : List Bool) (t : Term A) (ts : List (Term A)) (k : ℕ) → is_marked marks t.g ≡ true → (t.a ≡ k) ⊎ (t.b ≡ k) → names marks (t ∷ ts) k ≡ true
  names-here marks t ts k m e =
      or_left (is_marked marks t.g && ((t.a == k) || (t.b == k))) (names marks ts k)
      (and_from (is_marked marks t.g) ((t.a == k) || (t.b == k)) m (elim e [ inl x ↦ or_left (t.a == k) (t.b == k) (eq-eqb t.a k x) | inr y ↦ or_right (t.a == k) (t.b == k) (eq-eqb t.b k y) ]))

  names-later : (marks : List Bool) (t : Term A) (ts : List (Term A)) (k : ℕ) → names marks ts k ≡ true → names marks (t ∷ ts) k ≡ true
  names-later marks t ts k h = or_right (is_marked marks t.g && ((t.a == k) || (t.b == k))) (names marks ts k) h

  pub marked-under : (o : Ops A) (wires width : ℕ) (marks below : List Bool) (before : Option (Term A)) (ts : List (Term A)) → AreTerms o wires width before ts
      → ((k : ℕ) → k < width → names marks ts k ≡ true → is_marked below k ≡ true) → AreMarkedUnder marks below ts
  marked-under o wires width marks below before [] h n = tt
  marked-under o wires width marks below before (t ∷ ts) h n =
      let one = h.0 in (
        λ m. (n t.a (omega (arith, one.a, one.b)) (names-here marks t ts t.a m (inl refl)), n t.b one.b (names-here marks t ts t.b m (inr refl))),
        marked-under o wires width marks below (Some t) ts h.2 (λ k l e. n k l (names-later marks t ts k e)),
      )

  pub named-count : (width : ℕ) (marks : List Bool) (ts : List (Term A)) (ws : List ℕ) → length (named_marks width marks ts ws) ≡ width
  named-count width marks ts ws = length-map-range_with_len (λ k. ((k == 0) || names marks ts k) || is_in ws k) 0 width

  pub named-is : (width : ℕ) (marks : List Bool) (ts : List (Term A)) (ws : List ℕ) (k : ℕ) → k < width → is_marked (named_marks width marks ts ws) k ≡ (((k == 0) || names marks ts k) || is_in ws k)
  named-is width marks ts ws k l = get_or-map-range_with_len (λ j. ((j == 0) || names marks ts j) || is_in ws j) 0 width k k false l (omega arith)

  -- a named wire is named by a term that stays
  pub named-used : (marks below : List Bool) (ts : List (Term A)) (k : ℕ) → names marks ts k ≡ true → IsNamed (used_terms marks below ts) (marked_before below k)
  named-used marks below [] k h = absurd (both_ways false refl h)
  named-used marks below (t ∷ ts) k h =
      elim (cases_Bool (is_marked marks t.g)) [
        | inl m ↦ subst (λ us. IsNamed us (marked_before below k)) (sym (cond-true (is_marked marks t.g) (used_term marks below t ∷ used_terms marks below ts) (used_terms marks below ts) m))
            (elim (or_cases (is_marked marks t.g && ((t.a == k) || (t.b == k))) (names marks ts k) h) [
              | inl here ↦ elim (or_cases (t.a == k) (t.b == k) (and_parts (is_marked marks t.g) ((t.a == k) || (t.b == k)) here).1) [
                | inl x ↦ inl (inl (ap (marked_before below) (eqb-true t.a k x)))
                | inr y ↦ inl (inr (ap (marked_before below) (eqb-true t.b k y)))
              ]
              | inr later ↦ inr (named-used marks below ts k later)
            ])
        | inr m ↦ subst (λ us. IsNamed us (marked_before below k)) (sym (cond-false (is_marked marks t.g) (used_term marks below t ∷ used_terms marks below ts) (used_terms marks below ts) m))
            (elim (or_cases (is_marked marks t.g && ((t.a == k) || (t.b == k))) (names marks ts k) h) [
              | inl here ↦ absurd (both_ways (is_marked marks t.g) m (and_parts (is_marked marks t.g) ((t.a == k) || (t.b == k)) here).0)
              | inr later ↦ named-used marks below ts k later
            ])
      ]

  pub used-short : (marks below : List Bool) (ts : List (Term A)) → length (used_terms marks below ts) ≤ length ts
  used-short marks below [] = omega arith
  used-short marks below (t ∷ ts) = elim (cases_Bool (is_marked marks t.g)) [
    | inl m ↦ omega (arith, used-short marks below ts, ap length (cond-true (is_marked marks t.g) (used_term marks below t ∷ used_terms marks below ts) (used_terms marks below ts) m))
    | inr m ↦ omega (arith, used-short marks below ts, ap length (cond-false (is_marked marks t.g) (used_term marks below t ∷ used_terms marks below ts) (used_terms marks below ts) m))
  ]

  -- the order of terms by (g, a, b)
  abbrev Ordered : Term A → Term A → Type 0
  Ordered s t = (s.g < t.g) ⊎ ((s.g ≡ t.g) × Less s t)

  ordered-from : (s t : Term A) → IsTrue (follows (Some s) t) → Ordered s t
  ordered-from s t h = elim (or_cases (nat_lt s.g t.g) ((s.g == t.g) && (nat_lt s.a t.a || ((s.a == t.a) && nat_lt s.b t.b))) h) [
    | inl l ↦ inl (ltb-true s.g t.g l)
    | inr q ↦ let e = eqb-true s.g t.g (and_parts (s.g == t.g) (nat_lt s.a t.a || ((s.a == t.a) && nat_lt s.b t.b)) q).0 in inr (e, precedes-less s t e h)
  ]

  ordered-to : (s t : Term A) → Ordered s t → IsTrue (follows (Some s) t)
  ordered-to s t (inl l) = or_left (nat_lt s.g t.g) ((s.g == t.g) && (nat_lt s.a t.a || ((s.a == t.a) && nat_lt s.b t.b))) (lt-ltb s.g t.g l)
  ordered-to s t (inr q) = less-precedes s t q.0 q.1

  ordered-then : (s t u : Term A) → Ordered s t → Ordered t u → Ordered s u
  ordered-then s t u (inl l) (inl m) = inl (omega (arith, l, m))
  ordered-then s t u (inl l) (inr m) = inl (omega (arith, l, m.0))
  ordered-then s t u (inr l) (inl m) = inl (omega (arith, l.0, m))
  ordered-then s t u (inr l) (inr m) = inr (l.0 ∙ m.0, less-less s t u l.1 m.1)

  -- a term of a marked wire that names marked ones
  pub record IsKept (marks below : List Bool) (t : Term A) : Type 0 where
    pub g : is_marked marks t.g ≡ true
    pub a : is_marked below t.a ≡ true
    pub b : is_marked below t.b ≡ true

  less-used : (marks below : List Bool) (s t : Term A) → IsKept marks below s → Less s t → Less (used_term marks below s) (used_term marks below t)
  less-used marks below s t k (inl l) = inl (places-ascend below s.a t.a k.a l)
  less-used marks below s t k (inr l) = inr (ap (marked_before below) l.0, places-ascend below s.b t.b k.b l.1)

  ordered-used : (marks below : List Bool) (s t : Term A) → IsKept marks below s → Ordered s t → Ordered (used_term marks below s) (used_term marks below t)
  ordered-used marks below s t k (inl l) = inl (places-ascend marks s.g t.g k.g l)
  ordered-used marks below s t k (inr l) = inr (ap (marked_before marks) l.0, less-used marks below s t k l.1)

  -- the last term that stays comes before all that may follow
  abbrev AreBehind : List Bool → List Bool → Option (Term A) → Option (Term A) → Type 0
  AreBehind marks below None before = Unit {0}
  AreBehind marks below (Some s) before = IsKept marks below s × ((u : Term A) → IsTrue (follows before u) → IsTrue (follows (Some s) u))

  abbrev used_before : List Bool → List Bool → Option (Term A) → Option (Term A)
  used_before marks below None = None
  used_before marks below (Some s) = Some (used_term marks below s)

  behind-used : (marks below : List Bool) (last before : Option (Term A)) (t : Term A) → AreBehind marks below last before → IsTrue (follows before t) → IsTrue (follows (used_before marks below last) (used_term marks below t))
  behind-used marks below None before t b f = refl
  behind-used marks below (Some s) before t b f = ordered-to (used_term marks below s) (used_term marks below t) (ordered-used marks below s t b.0 (ordered-from s t (b.1 t f)))

  behind-more : (marks below : List Bool) (last before : Option (Term A)) (t : Term A) → AreBehind marks below last before → IsTrue (follows before t) → AreBehind marks below last (Some t)
  behind-more marks below None before t b f = tt
  behind-more marks below (Some s) before t b f = (b.0, λ u h. ordered-to s u (ordered-then s t u (ordered-from s t (b.1 t f)) (ordered-from t u h)))

module _ {A : Type 0} (o : Ops A) where
  used-is-term : (marks below : List Bool) (wires width : ℕ) (t : Term A) → IsKept marks below t → IsTerm o wires width t → IsTerm o (marked_before marks (length marks)) (marked_before below (length below)) (used_term marks below t)
  used-is-term marks below wires width t k h = record { g = marked-place marks t.g k.g; a = places-up below t.a t.b h.a; b = marked-place below t.b k.b; coef = h.coef }

  used-behind : (marks below : List Bool) (wires width : ℕ) (last before : Option (Term A)) (ts : List (Term A)) → AreBehind marks below last before → AreTerms o wires width before ts → AreMarkedUnder marks below ts
      → AreTerms o (marked_before marks (length marks)) (marked_before below (length below)) (used_before marks below last) (used_terms marks below ts)
  used-behind marks below wires width last before [] b h n = tt
  used-behind marks below wires width last before (t ∷ ts) b h n =
      let rest = used_terms marks below ts in
      elim (cases_Bool (is_marked marks t.g)) [
        | inl m ↦
            let ab = n.0 m in
            let k : IsKept marks below t = record { g = m; a = ab.0; b = ab.1 } in
            subst (AreTerms o (marked_before marks (length marks)) (marked_before below (length below)) (used_before marks below last)) (sym (cond-true (is_marked marks t.g) (used_term marks below t ∷ rest) rest m))
            (used-is-term marks below wires width t k h.0, behind-used marks below last before t b h.1, used-behind marks below wires width (Some t) (Some t) ts (k, λ u f. f) h.2 n.1)
        | inr m ↦
            subst (AreTerms o (marked_before marks (length marks)) (marked_before below (length below)) (used_before marks below last)) (sym (cond-false (is_marked marks t.g) (used_term marks below t ∷ rest) rest m))
            (used-behind marks below wires width last (Some t) ts (behind-more marks below last before t b h.1) h.2 n.1)
      ]

  -- what stays are terms of a layer
  pub used-are-terms : (marks below : List Bool) (wires width : ℕ) (ts : List (Term A)) → AreTerms o wires width None ts → AreMarkedUnder marks below ts
      → AreTerms o (marked_before marks (length marks)) (marked_before below (length below)) None (used_terms marks below ts)
  used-are-terms marks below wires width ts h n = used-behind marks below wires width None None ts tt h n

module _ {A : Type 0} where
  own_here : (g : ℕ) (t : Term A) (ts : List (Term A)) → t.g ≡ g → of_wire g (t ∷ ts) ≡ t ∷ of_wire g ts
  own_here g t ts e = cond-true (t.g == g) (t ∷ of_wire g ts) (of_wire g ts) (eq-eqb t.g g e)

  own_other : (g : ℕ) (t : Term A) (ts : List (Term A)) → (t.g ≡ g → ⊥) → of_wire g (t ∷ ts) ≡ of_wire g ts
  own_other g t ts d = cond-false (t.g == g) (t ∷ of_wire g ts) (of_wire g ts) (ne_eqb t.g g d)

  -- a marked wire's terms all stay
  pub used-own : (marks below : List Bool) (g : ℕ) (ts : List (Term A)) → is_marked marks g ≡ true → of_wire (marked_before marks g) (used_terms marks below ts) ≡ map (used_term marks below) (of_wire g ts)
  used-own marks below g [] m = refl
  used-own marks below g (t ∷ ts) m =
      let place = marked_before marks g in
      let rest = used_terms marks below ts in
      let u = used_term marks below t in
      elim (cases_Bool (is_marked marks t.g)) [
        | inl k ↦ ap (of_wire place) (cond-true (is_marked marks t.g) (u ∷ rest) rest k) ∙ elim (cases_Bool (t.g == g)) [
          | inl e ↦ own_here place u rest (ap (marked_before marks) (eqb-true t.g g e)) ∙ ap (λ us. u ∷ us) (used-own marks below g ts m) ∙ sym (ap (map (used_term marks below)) (own_here g t ts (eqb-true t.g g e)))
          | inr d ↦
              let other : t.g ≡ g → ⊥ = λ e. both_ways (t.g == g) d (eq-eqb t.g g e) in
              own_other place u rest (λ e. other (places-differ marks t.g g k m e)) ∙ used-own marks below g ts m ∙ sym (ap (map (used_term marks below)) (own_other g t ts other))
        ]
        | inr k ↦
            let other : t.g ≡ g → ⊥ = λ e. both_ways (is_marked marks t.g) k (ap (is_marked marks) e ∙ m) in
            ap (of_wire place) (cond-false (is_marked marks t.g) (u ∷ rest) rest k) ∙ used-own marks below g ts m ∙ sym (ap (map (used_term marks below)) (own_other g t ts other))
      ]

  -- both wires that each term names are marked
  abbrev pub AreOfMarked : List Bool → List (ℕ × ℕ × A) → Type 0
  AreOfMarked below [] = Unit {0}
  AreOfMarked below (p ∷ ps) = (is_marked below p.0 ≡ true) × (is_marked below p.1 ≡ true) × AreOfMarked below ps

  own-marked : (marks below : List Bool) (g : ℕ) (ts : List (Term A)) → is_marked marks g ≡ true → AreMarkedUnder marks below ts → AreOfMarked below (terms_of g ts)
  own-marked marks below g [] m n = tt
  own-marked marks below g (t ∷ ts) m n = elim (cases_Bool (t.g == g)) [
    | inl e ↦
        let same = eqb-true t.g g e in
        let ab = n.0 (ap (is_marked marks) same ∙ m) in
        subst (λ us. AreOfMarked below (map (λ t. (t.a, t.b, t.coef)) us)) (sym (own_here g t ts same)) (ab.0, ab.1, own-marked marks below g ts m n.1)
    | inr d ↦ subst (λ us. AreOfMarked below (map (λ t. (t.a, t.b, t.coef)) us)) (sym (own_other g t ts (λ e. both_ways (t.g == g) d (eq-eqb t.g g e)))) (own-marked marks below g ts m n.1)
  ]

  -- places of marked wires in place of the wires
  abbrev pub used_places : List Bool → List (ℕ × ℕ × A) → List (ℕ × ℕ × A)
  used_places below [] = []
  used_places below (p ∷ ps) = (marked_before below p.0, marked_before below p.1, p.2) ∷ used_places below ps

  places-of : (marks below : List Bool) (ts : List (Term A)) → map (λ t. (t.a, t.b, t.coef)) (map (used_term marks below) ts) ≡ used_places below (map (λ t. (t.a, t.b, t.coef)) ts)
  places-of marks below [] = refl
  places-of marks below (t ∷ ts) = ap (λ ps. (marked_before below t.a, marked_before below t.b, t.coef) ∷ ps) (places-of marks below ts)

  pub used-terms-of : (marks below : List Bool) (g : ℕ) (ts : List (Term A)) → is_marked marks g ≡ true → terms_of (marked_before marks g) (used_terms marks below ts) ≡ used_places below (terms_of g ts)
  used-terms-of marks below g ts m = ap (map (λ t. (t.a, t.b, t.coef))) (used-own marks below g ts m) ∙ places-of marks below (of_wire g ts)

  heads : (x y : ℕ × ℕ × A) (xs ys : List (ℕ × ℕ × A)) → x ∷ xs ≡ y ∷ ys → (x ≡ y) × (xs ≡ ys)
  heads x y xs ys e = (cc, cc)

  same-places : (below : List Bool) (ps qs : List (ℕ × ℕ × A)) → AreOfMarked below ps → AreOfMarked below qs → used_places below ps ≡ used_places below qs → ps ≡ qs
  same-places below [] [] h k e = refl
  same-places below [] (q ∷ qs) h k e = absurd (omega (arith, ap length e))
  same-places below (p ∷ ps) [] h k e = absurd (omega (arith, ap length e))
  same-places below (p ∷ ps) (q ∷ qs) h k e =
      let both = heads (marked_before below p.0, marked_before below p.1, p.2) (marked_before below q.0, marked_before below q.1, q.2) (used_places below ps) (used_places below qs) e in
      ap (λ x. (x, p.1, p.2) ∷ ps) (places-differ below p.0 q.0 h.0 k.0 (ap (λ x. x.0) both.0)) ∙ ap (λ x. (q.0, x, p.2) ∷ ps) (places-differ below p.1 q.1 h.1 k.1 (ap (λ x. x.1) both.0))
      ∙ ap (λ x. (q.0, q.1, x) ∷ ps) (ap (λ x. x.2) both.0) ∙ ap (λ xs. q ∷ xs) (same-places below ps qs h.2 k.2 both.1)

  -- marked wires with equal terms had equal terms
  pub used-same : (marks below : List Bool) (g h : ℕ) (ts : List (Term A)) → is_marked marks g ≡ true → is_marked marks h ≡ true → AreMarkedUnder marks below ts
      → terms_of (marked_before marks g) (used_terms marks below ts) ≡ terms_of (marked_before marks h) (used_terms marks below ts) → terms_of g ts ≡ terms_of h ts
  used-same marks below g h ts mg mh n e =
      same-places below (terms_of g ts) (terms_of h ts) (own-marked marks below g ts mg n) (own-marked marks below h ts mh n)
      (sym (used-terms-of marks below g ts mg) ∙ e ∙ used-terms-of marks below h ts mh)

-- each marked wire has the value of the wire at its place
abbrev pub AreMarkedCopies : {A : Type 0} → Ops A → List Bool → List A → List A → Type 0
AreMarkedCopies o marks old new = (k : ℕ) → is_marked marks k ≡ true → entry o old k ≡ entry o new (marked_before marks k)

module _ {A : Type 0} (o : Ops A) (r : RingLaws o) where
  used-value : (marks below : List Bool) (old new : List A) (g : ℕ) (ts : List (Term A)) → is_marked marks g ≡ true → AreMarkedUnder marks below ts → AreMarkedCopies o below old new
      → row_value o new (map (used_term marks below) (of_wire g ts)) ≡ row_value o old (of_wire g ts)
  used-value marks below old new g [] m n c = refl
  used-value marks below old new g (t ∷ ts) m n c = elim (cases_Bool (t.g == g)) [
    | inl e ↦
        let same = eqb-true t.g g e in
        let ab = n.0 (ap (is_marked marks) same ∙ m) in
        let own = own_here g t ts same in
        ap (λ us. row_value o new (map (used_term marks below) us)) own
        ∙ ap (λ x. o.plus (o.times t.coef (o.times x (entry o new (marked_before below t.b)))) (row_value o new (map (used_term marks below) (of_wire g ts)))) (sym (c t.a ab.0))
        ∙ ap (λ x. o.plus (o.times t.coef (o.times (entry o old t.a) x)) (row_value o new (map (used_term marks below) (of_wire g ts)))) (sym (c t.b ab.1))
        ∙ ap (o.plus (term_value o old t)) (used-value marks below old new g ts m n.1 c)
        ∙ sym (ap (row_value o old) own)
    | inr d ↦
        let own = own_other g t ts (λ e. both_ways (t.g == g) d (eq-eqb t.g g e)) in
        ap (λ us. row_value o new (map (used_term marks below) us)) own ∙ used-value marks below old new g ts m n.1 c ∙ sym (ap (row_value o old) own)
  ]

  -- a marked wire has the value that it had
  pub used-wire : (marks below : List Bool) (old new : List A) (g : ℕ) (ts : List (Term A)) → is_marked marks g ≡ true → g < length marks → AreTerms o (length marks) (length old) None ts
      → length new ≡ marked_before below (length below) → AreMarkedUnder marks below ts → AreMarkedCopies o below old new
      → wire o (coef o ts) old g ≡ wire o (coef o (used_terms marks below ts)) new (marked_before marks g)
  used-wire marks below old new g ts m l h e n c =
      let terms : AreTerms o (marked_before marks (length marks)) (length new) None (used_terms marks below ts) =
      subst (λ w. AreTerms o (marked_before marks (length marks)) w None (used_terms marks below ts)) (sym e) (used-are-terms o marks below (length marks) (length old) ts h n) in
      wire-value o r (length marks) ts old g l h
      ∙ sym (wire-value o r (marked_before marks (length marks)) (used_terms marks below ts) new (marked_before marks g) (marked-place marks g m) terms
      ∙ ap (row_value o new) (used-own marks below g ts m) ∙ used-value marks below old new g ts m n c)
