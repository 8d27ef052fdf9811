-- Rows of terms: multiples, sums and what they count.
use Rattle.std.specs.Prelude.{◌≡◌, ◌≢◌, ℕ, ◌+◌, ◌<◌, ◌≤◌, ◌==◌, ◌&&◌, ◌||◌, nat_lt, Bool, true, Option, Some, None, List, [], ◌∷◌, ◌++◌, length, map, take}
use Rattle.std.proofs.Common.{◌⊎◌, inl, inr, refl, sym, ap, ◌∙◌, arith, subst, get_or}
use Rattle.std.proofs.lemmas.Bool.{or_cases, or_left, or_right, and_parts, ltb-true, lt-ltb, eqb-true, eq-eqb}
use Rattle.std.proofs.lemmas.List.{map-append, take_more, take_all}
use Rattle.lzk_field.specs.Ring.{Ops, RingLaws}
use Rattle.lzk_field.proofs.RingBasics.{zero_plus, times_zero}
use Rattle.lzk_circuit.specs.declared.layer.Term.{Term}
use Rattle.lzk_circuit.specs.Valid.{precedes, follows, AreTerms}
use Rattle.lzk_circuit_reduce.specs.Rows.{IsRow, row_value, term_value, multiplied, Less, added}

module _ {A : Type 0} (o : Ops A) (r : RingLaws o) where
  open o use {plus, times}

  pub multiple-value : (c : A) (below : List A) (row : List (Term A)) → row_value o below (map (multiplied o c) row) ≡ times c (row_value o below row)
  multiple-value c below [] = sym (times_zero o r c)
  multiple-value c below (t ∷ ts) =
      ap (λ w. plus w (row_value o below (map (multiplied o c) ts))) (r.times_assoc c t.coef _)
      ∙ ap (plus (times c (term_value o below t))) (multiple-value c below ts)
      ∙ sym (r.times_plus c (term_value o below t) (row_value o below ts))

  pub value-append : (below : List A) (xs ys : List (Term A)) → row_value o below (xs ++ ys) ≡ plus (row_value o below xs) (row_value o below ys)
  value-append below [] ys = sym (zero_plus o r (row_value o below ys))
  value-append below (x ∷ xs) ys = ap (plus (term_value o below x)) (value-append below xs ys) ∙ sym (r.plus_assoc (term_value o below x) (row_value o below xs) (row_value o below ys))

module _ {X Y : Type 0} where
  -- one more of a list's images
  pub map-more : (f : X → Y) (xs : List X) (before after : List Y) (i : ℕ) (x : X) → i < length xs → x ≡ get_or xs i x → after ≡ before ++ f x ∷ [] → before ≡ map f (take i xs) → after ≡ map f (take (i + 1) xs)
  map-more f xs before after i x l is e h =
      e ∙ ap (λ ys. ys ++ f x ∷ []) h ∙ ap (λ y. map f (take i xs) ++ f y ∷ []) is ∙ sym (map-append f (take i xs) (get_or xs i x ∷ [])) ∙ sym (ap (map f) (take_more xs i x l))

  pub all-mapped : (f : X → Y) (xs : List X) (ys : List Y) (i : ℕ) → length xs ≤ i → ys ≡ map f (take i xs) → ys ≡ map f xs
  all-mapped f xs ys i l e = e ∙ ap (map f) (take_all i xs l)

both_true : (x y : Bool) → x ≡ true → y ≡ true → (x && y) ≡ true
both_true x y e f = ap (λ b. b && y) e ∙ f

module _ {A : Type 0} where
  -- the last of the terms, or else the one before them
  abbrev pub last_from : Option (Term A) → List (Term A) → Option (Term A)
  last_from before [] = before
  last_from before (t ∷ ts) = last_from (Some t) ts

  pub last-append : (before : Option (Term A)) (ts : List (Term A)) (t : Term A) → last_from before (ts ++ t ∷ []) ≡ Some t
  last-append before [] t = refl
  last-append before (s ∷ ts) t = last-append (Some s) ts t

  -- terms at the same place are followed by the same terms
  abbrev pub Alike : Term A → Term A → Type 0
  Alike s t = (s.g ≡ t.g) × (s.a ≡ t.a) × (s.b ≡ t.b)

  precedes-first : (s t u : Term A) → Alike s t → precedes s u ≡ precedes t u
  precedes-first s t u e =
      ap (λ x. nat_lt x u.g || ((x == u.g) && (nat_lt s.a u.a || ((s.a == u.a) && nat_lt s.b u.b)))) e.0
      ∙ ap (λ x. nat_lt t.g u.g || ((t.g == u.g) && (nat_lt x u.a || ((x == u.a) && nat_lt s.b u.b)))) e.1
      ∙ ap (λ x. nat_lt t.g u.g || ((t.g == u.g) && (nat_lt t.a u.a || ((t.a == u.a) && nat_lt x u.b)))) e.2

  precedes-second : (s t u : Term A) → Alike s t → precedes u s ≡ precedes u t
  precedes-second s t u e =
      ap (λ x. nat_lt u.g x || ((u.g == x) && (nat_lt u.a s.a || ((u.a == s.a) && nat_lt u.b s.b)))) e.0
      ∙ ap (λ x. nat_lt u.g t.g || ((u.g == t.g) && (nat_lt u.a x || ((u.a == x) && nat_lt u.b s.b)))) e.1
      ∙ ap (λ x. nat_lt u.g t.g || ((u.g == t.g) && (nat_lt u.a t.a || ((u.a == t.a) && nat_lt u.b x)))) e.2

  abbrev pub head_of : Term A → List (Term A) → Term A
  head_of d [] = d
  head_of d (t ∷ ts) = t

  abbrev pub FromZero : Option (Term A) → Type 0
  FromZero None = Unit {0}
  FromZero (Some t) = t.g ≡ 0

  pub follows-alike : (before : Option (Term A)) (s t : Term A) → Alike s t → follows before s ≡ follows before t
  follows-alike None s t e = refl
  follows-alike (Some u) s t e = precedes-second s t u e

  pub less-precedes : (s t : Term A) → s.g ≡ t.g → Less s t → precedes s t ≡ true
  less-precedes s t e h =
      let rest = nat_lt s.a t.a || ((s.a == t.a) && nat_lt s.b t.b) in
      let under : rest ≡ true = elim h [
        | inl l ↦ or_left (nat_lt s.a t.a) ((s.a == t.a) && nat_lt s.b t.b) (lt-ltb s.a t.a l)
        | inr l ↦ or_right (nat_lt s.a t.a) ((s.a == t.a) && nat_lt s.b t.b) (both_true (s.a == t.a) (nat_lt s.b t.b) (eq-eqb s.a t.a l.0) (lt-ltb s.b t.b l.1))
      ] in
      or_right (nat_lt s.g t.g) ((s.g == t.g) && rest) (both_true (s.g == t.g) rest (eq-eqb s.g t.g e) under)

  pub precedes-less : (s t : Term A) → s.g ≡ t.g → precedes s t ≡ true → Less s t
  precedes-less s t e h =
      let rest = nat_lt s.a t.a || ((s.a == t.a) && nat_lt s.b t.b) in
      elim (or_cases (nat_lt s.g t.g) ((s.g == t.g) && rest) h) [
        | inl l ↦ absurd (omega (arith, ltb-true s.g t.g l))
        | inr q ↦ elim (or_cases (nat_lt s.a t.a) ((s.a == t.a) && nat_lt s.b t.b) (and_parts (s.g == t.g) rest q).1) [
          | inl l ↦ inl (ltb-true s.a t.a l)
          | inr l ↦ let p = and_parts (s.a == t.a) (nat_lt s.b t.b) l in inr (eqb-true s.a t.a p.0, ltb-true s.b t.b p.1)
        ]
      ]

  pub less-less : (s t u : Term A) → Less s t → Less t u → Less s u
  less-less s t u (inl l) (inl m) = inl (omega arith)
  less-less s t u (inl l) (inr m) = inl (omega (arith, m.0))
  less-less s t u (inr l) (inl m) = inl (omega (arith, l.0))
  less-less s t u (inr l) (inr m) = inr (omega (arith, l.0, m.0), omega (arith, l.1, m.1))

module _ {A : Type 0} (o : Ops A) where
  -- the terms behind a first one may follow a term that comes before it
  pub restart : (width : ℕ) (before : Option (Term A)) (s : Term A) (ts : List (Term A)) → s.g ≡ 0 → AreTerms o 1 width before ts → (length ts ≡ 0) ⊎ Less s (head_of s ts) → AreTerms o 1 width (Some s) ts
  restart width before s [] e h l = tt
  restart width before s (t ∷ ts) e h (inl l) = absurd (omega (arith, l))
  restart width before s (t ∷ ts) e h (inr l) = let one = h.0 in (h.0, less-precedes s t (omega (arith, e, one.g)) l, h.2)

  -- without the first of the terms
  pub skip : (width : ℕ) (before : Option (Term A)) (t : Term A) (ts : List (Term A)) → FromZero before → AreTerms o 1 width before (t ∷ ts) → AreTerms o 1 width before ts
  skip width before t [] z h = tt
  skip width None t (u ∷ ts) z h = (h.2.0, refl, h.2.2)
  skip width (Some s) t (u ∷ ts) z h =
      let one = h.0 in
      let two = h.2.0 in
      let gt : t.g ≡ 0 = omega (arith, one.g) in
      let gu : u.g ≡ 0 = omega (arith, two.g) in
      (two, less-precedes s u (z ∙ sym gu) (less-less s t u (precedes-less s t (z ∙ sym gt) h.1) (precedes-less t u (gt ∙ sym gu) h.2.1)), h.2.2)

  pub append-terms : (wires width : ℕ) (before : Option (Term A)) (ts us : List (Term A)) → AreTerms o wires width before ts → AreTerms o wires width (last_from before ts) us → AreTerms o wires width before (ts ++ us)
  append-terms wires width before [] us h k = k
  append-terms wires width before (t ∷ ts) us h k = (h.0, h.1, append-terms wires width (Some t) ts us h.2 k)

  -- terms behind another at the same place
  pub alike-terms : (wires width : ℕ) (s t : Term A) (ts : List (Term A)) → Alike s t → AreTerms o wires width (Some t) ts → AreTerms o wires width (Some s) ts
  alike-terms wires width s t [] e h = tt
  alike-terms wires width s t (u ∷ ts) e h = (h.0, precedes-first s t u e ∙ h.1, h.2)

module _ {A : Type 0} (o : Ops A) where
  pub row-of-one : (width : ℕ) (t : Term A) → t.g ≡ 0 → t.a ≤ t.b → t.b < width → t.coef ≢ o.zero → IsRow o width (t ∷ [])
  row-of-one width t g a b nz = (record { g = omega (arith, g); a = a; b = b; coef = nz }, refl, tt)

  -- what stands of a sum of two rows: it, and what is left of both
  pub record Merging (width : ℕ) (sum left right : List (Term A)) : Type 0 where
    pub row : IsRow o width sum
    pub left_after : AreTerms o 1 width (last_from None sum) left
    pub right_after : AreTerms o 1 width (last_from None sum) right

  zero-last : (width : ℕ) (before : Option (Term A)) (ts : List (Term A)) → FromZero before → AreTerms o 1 width before ts → FromZero (last_from before ts)
  zero-last width before [] z h = z
  zero-last width before (t ∷ ts) z h = let one = h.0 in zero-last width (Some t) ts (omega (arith, one.g)) h.2

  from_head : (width : ℕ) (before : Option (Term A)) (t : Term A) (ts : List (Term A)) → AreTerms o 1 width before (t ∷ ts) → AreTerms o 1 width before (t ∷ [])
  from_head width before t ts h = (h.0, h.1, tt)

  pushed : (width : ℕ) (sum : List (Term A)) (t : Term A) → IsRow o width sum → AreTerms o 1 width (last_from None sum) (t ∷ []) → IsRow o width (sum ++ t ∷ [])
  pushed width sum t h k = append-terms o 1 width None sum (t ∷ []) h k

  after_pushed : (width : ℕ) (sum : List (Term A)) (t : Term A) (ts : List (Term A)) → AreTerms o 1 width (Some t) ts → AreTerms o 1 width (last_from None (sum ++ t ∷ [])) ts
  after_pushed width sum t ts h = subst (λ b. AreTerms o 1 width b ts) (sym (last-append None sum t)) h

  pub merge_left : (width : ℕ) (sum left right : List (Term A)) (x y : Term A) → Less x y → Merging width sum (x ∷ left) (y ∷ right) → Merging width (sum ++ x ∷ []) left (y ∷ right)
  merge_left width sum left right x y l m =
      let first = m.left_after.0 in
      record {
        row = pushed width sum x m.row (from_head width (last_from None sum) x left m.left_after);
        left_after = after_pushed width sum x left m.left_after.2;
        right_after = after_pushed width sum x (y ∷ right) (restart o width (last_from None sum) x (y ∷ right) (omega (arith, first.g)) m.right_after (inr l));
      }

  pub merge_right : (width : ℕ) (sum left right : List (Term A)) (x y : Term A) → Less y x → Merging width sum (x ∷ left) (y ∷ right) → Merging width (sum ++ y ∷ []) (x ∷ left) right
  merge_right width sum left right x y l m =
      let first = m.right_after.0 in
      record {
        row = pushed width sum y m.row (from_head width (last_from None sum) y right m.right_after);
        left_after = after_pushed width sum y (x ∷ left) (restart o width (last_from None sum) y (x ∷ left) (omega (arith, first.g)) m.left_after (inr l));
        right_after = after_pushed width sum y right m.right_after.2;
      }

  pub merge_none : (width : ℕ) (sum left right : List (Term A)) (x y : Term A) → Merging width sum (x ∷ left) (y ∷ right) → Merging width sum left right
  merge_none width sum left right x y m =
      let z = zero-last width None sum tt m.row in
      record {
        row = m.row;
        left_after = skip o width (last_from None sum) x left z m.left_after;
        right_after = skip o width (last_from None sum) y right z m.right_after;
      }

  pub merge_both : (width : ℕ) (sum left right : List (Term A)) (x y : Term A) → x.a ≡ y.a → x.b ≡ y.b → o.plus x.coef y.coef ≢ o.zero → Merging width sum (x ∷ left) (y ∷ right) → Merging width (sum ++ added o x y ∷ []) left right
  merge_both width sum left right x y ea eb nz m =
      let t = added o x y in
      let first = m.left_after.0 in
      let second = m.right_after.0 in
      let like : Alike t y = (omega (arith, first.g, second.g), ea, eb) in
      record {
        row = pushed width sum t m.row (record { g = first.g; a = first.a; b = first.b; coef = nz }, follows-alike (last_from None sum) t x (refl, refl, refl) ∙ m.left_after.1, tt);
        left_after = after_pushed width sum t left (alike-terms o 1 width t x left (refl, refl, refl) m.left_after.2);
        right_after = after_pushed width sum t right (alike-terms o 1 width t y right like m.right_after.2);
      }
