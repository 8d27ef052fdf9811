-- Layers that are made wire by wire: of copies, and over other numbers of the wires below.
use Rattle.std.specs.Prelude.{◌≡◌, ◌≢◌, ℕ, ◌+◌, ◌-◌, ◌<◌, ◌≤◌, ◌==◌, ◌&&◌, ◌||◌, Bool, true, false, None, List, [], ◌∷◌, ◌++◌, length, map, take, drop}
use Rattle.std.proofs.Common.{zero, suc, inl, inr, refl, sym, ap, ◌∙◌, arith, subst, get_or}
use Rattle.std.proofs.lemmas.Bool.{cases_lt}
use Rattle.std.proofs.lemmas.List.{drop_more, take_more, length-take}
use Rattle.lzk_field.specs.Ring.{Ops, RingLaws}
use Rattle.lzk_field.specs.Sums.{entry}
use Rattle.lzk_field.proofs.RingBasics.{one_times}
use Rattle.lzk_circuit.specs.declared.layer.Term.{Term}
use Rattle.lzk_circuit.specs.declared.layer.Layer.{Layer}
use Rattle.lzk_circuit.specs.Valid.{AreTerms}
use Rattle.lzk_circuit.specs.Wires.{coef, wire}
use Rattle.lzk_circuit_reduce.specs.Renumbering.{at, of_wire, terms_before, AreOver, AreNumbersBelow, AreCopies}
use Rattle.lzk_circuit_reduce.specs.Rows.{IsRow, row_value, term_value, ordered, placed}
use Rattle.lzk_circuit_reduce.proofs.RenumberLaws.{copied-value, wire-value}
use Rattle.lzk_circuit_reduce.proofs.RowLaws.{value-append}
use Rattle.lzk_circuit_reduce.proofs.WireLaws.{before-none}
use Rattle.lzk_circuit_beside.specs.Asserts.{is_asserted, AreLone, HasLone}
use Rattle.lzk_circuit_beside.proofs.RowLaws.{lone-append}

-- ---- a row, term by term

module _ {A : Type 0} where
  -- a row of a part of the terms is no longer than the part
  pub part-length : {X : Type 0} (us : List X) (start end : ℕ) (row : List (Term A)) {n : ℕ} → length row ≡ n → n ≤ length (take (end - start) (drop start us)) → start ≤ end → start + length row ≤ end
  part-length us start end row e short l = omega (arith, e, short, l, length-take (end - start) (drop start us))

  pub over-at : (width i : ℕ) (ts : List (Term A)) (t : Term A) → AreOver width ts → i < length ts → t ≡ get_or ts i t → (t.a < width) × (t.b < width)
  over-at width i ts t h l is = subst (λ (u : Term A). (u.a < width) × (u.b < width)) (sym is) (go i ts h l)
    where
      go : (i : ℕ) (ts : List (Term A)) → AreOver width ts → i < length ts → ((get_or ts i t).a < width) × ((get_or ts i t).b < width)
      go i [] h l = absurd (omega (arith, l))
      go zero (u ∷ us) h l = (h.0, h.1)
      go (suc i) (u ∷ us) h l = go i us h.2 (omega (arith, l))

module _ {A : Type 0} (o : Ops A) (r : RingLaws o) where
  pub row-more : (numbers : List ℕ) (old new : List A) (ts : List (Term A)) (i : ℕ) (t : Term A) (value : A) → AreCopies o numbers old new → AreOver (length numbers) ts → i < length ts → t ≡ get_or ts i t
      → value ≡ row_value o old (take i ts)
      → o.plus (o.times t.coef (o.times (entry o new (at numbers t.a)) (entry o new (at numbers t.b)))) value ≡ row_value o old (take (i + 1) ts)
  row-more numbers old new ts i t value h over l is e =
      let within = over-at (length numbers) i ts t over l is in
      let more : take (i + 1) ts ≡ take i ts ++ t ∷ [] = take_more ts i t l ∙ ap (λ x. take i ts ++ x ∷ []) (sym is) in
      ap (λ x. o.plus x value) (copied-value o r numbers old new t h within.0 within.1) ∙ r.plus_comm (term_value o old t) value
      ∙ ap (λ x. o.plus x (term_value o old t)) e
      ∙ ap (o.plus (row_value o old (take i ts))) (sym (r.plus_zero (term_value o old t)))
      ∙ sym (value-append o r old (take i ts) (t ∷ [])) ∙ ap (row_value o old) (sym more)

  -- the same for a step of the loop
  pub row-next : (numbers : List ℕ) (old new : List A) (ts : List (Term A)) (i : ℕ) (t : Term A) (value x : A) (a b : ℕ) → AreCopies o numbers old new → AreOver (length numbers) ts → i < length ts → t ≡ get_or ts i t
      → value ≡ row_value o old (take i ts) → a ≡ at numbers t.a → b ≡ at numbers t.b
      → x ≡ o.plus (o.times t.coef (o.times (entry o new a) (entry o new b))) value → x ≡ row_value o old (take (i + 1) ts)
  row-next numbers old new ts i t value x a b h over l is e ea eb ex =
      ex ∙ ap (λ y. o.plus (o.times t.coef (o.times (entry o new y) (entry o new b))) value) ea
      ∙ ap (λ y. o.plus (o.times t.coef (o.times (entry o new (at numbers t.a)) (entry o new y))) value) eb
      ∙ row-more numbers old new ts i t value h over l is e

module _ {A : Type 0} (o : Ops A) where
  -- the row of one term, for a step of the loop
  pub row-alone : (ts : List (Term A)) (numbers : List ℕ) (i : ℕ) (t u : Term A) (old new : List (Term A)) (a b : ℕ) → i < length ts → t ≡ get_or ts i t → ts ≡ u ∷ []
      → a ≡ at numbers t.a → b ≡ at numbers t.b → old ≡ take i (ordered u.coef (at numbers u.a) (at numbers u.b) ∷ [])
      → (old ≡ [] → t.coef ≢ o.zero → new ≡ ordered t.coef a b ∷ []) → u.coef ≢ o.zero → new ≡ take (i + 1) (ordered u.coef (at numbers u.a) (at numbers u.b) ∷ [])
  row-alone ts numbers (suc i) t u old new a b l is e ea eb before adds nz = absurd (omega (arith, l, ap length e))
  row-alone ts numbers zero t u old new a b l is e ea eb before adds nz =
      let same : t ≡ u = is ∙ ap (λ us. get_or us 0 t) e in
      adds before (λ z. nz (ap (λ (x : Term A). x.coef) (sym same) ∙ z))
      ∙ ap (λ x. ordered t.coef x b ∷ []) ea ∙ ap (λ x. ordered t.coef (at numbers t.a) x ∷ []) eb
      ∙ ap (λ (x : Term A). ordered x.coef (at numbers x.a) (at numbers x.b) ∷ []) same

-- ---- marks, from the last term on

module _ {A : Type 0} (number : A → ℕ) where
  or-assoc : (a b c : Bool) → (a || (b || c)) ≡ ((a || b) || c)
  or-assoc true b c = refl
  or-assoc false b c = refl

  pub next-asserted : (ts : List (Term A)) (i j : ℕ) (t : Term A) (g : ℕ) (old : Bool) → j + 1 ≡ i → j < length ts → t ≡ get_or ts j t
      → (((number t.coef == 0) && (t.g == g)) || (is_asserted number (drop i ts) g || old)) ≡ (is_asserted number (drop j ts) g || old)
  next-asserted ts i j t g old back l is =
      or-assoc ((number t.coef == 0) && (t.g == g)) (is_asserted number (drop i ts) g) old
      ∙ ap (λ k. (((number t.coef == 0) && (t.g == g)) || is_asserted number (drop k ts) g) || old) (sym back)
      ∙ ap (λ us. is_asserted number us g || old) (sym (drop_more ts j t l ∙ ap (λ u. u ∷ drop (j + 1) ts) (sym is)))

-- ---- copies

module _ {A : Type 0} (o : Ops A) where
  -- the first g wires are copies
  pub record Copying (count g : ℕ) (kept : List (Term A)) : Type 0 where
    pub terms : AreTerms o g count None kept
    pub values : (below : List A) → length below ≡ count → entry o below 0 ≡ o.one → (i : ℕ) → i < g → wire o (coef o kept) below i ≡ entry o below i
    pub short : length kept ≤ g

  pub copying-starts : (count : ℕ) → Copying count 0 []
  copying-starts count = record { terms = tt; values = λ below n e i l. absurd (omega (arith, l)); short = omega arith }

module _ {A : Type 0} (o : Ops A) (r : RingLaws o) where
  pub copying-adds : (count g : ℕ) (kept row more : List (Term A)) → g < count
      → IsRow o count row
      → ((below : List A) → row_value o below row ≡ o.times o.one (o.times (entry o below 0) (entry o below g)))
      → length row ≤ 1
      → ((width : ℕ) → AreTerms o g width None kept → IsRow o width row → AreTerms o (g + 1) width None more)
      → ((below : List A) (i : ℕ) → i < g → wire o (coef o more) below i ≡ wire o (coef o kept) below i)
      → ((below : List A) → AreTerms o g (length below) None kept → IsRow o (length below) row → wire o (coef o more) below g ≡ row_value o below row)
      → length more ≡ length kept + length row
      → Copying o count g kept → Copying o count (g + 1) more
  copying-adds count g kept row more l is_row value short terms before added size m = record {
    terms = terms count m.terms is_row;
    values = λ below n e i j. elim (cases_lt i g) [
      | inl below_g ↦ before below i below_g ∙ m.values below n e i below_g
      | inr above ↦
          let same : i ≡ g = omega (arith, j, above) in
          let here : AreTerms o g (length below) None kept = subst (λ w. AreTerms o g w None kept) (sym n) m.terms in
          let of_row : IsRow o (length below) row = subst (λ w. IsRow o w row) (sym n) is_row in
          ap (wire o (coef o more) below) same ∙ added below here of_row ∙ value below
          ∙ one_times o r (o.times (entry o below 0) (entry o below g)) ∙ ap (λ x. o.times x (entry o below g)) e ∙ one_times o r (entry o below g) ∙ ap (entry o below) (sym same)
    ];
    short = omega (arith, size, short, m.short);
  }

-- ---- a layer over other numbers, behind the terms of the first wires

module _ {A : Type 0} (o : Ops A) where
  -- the first g wires of a layer stand behind the wires before `start`
  pub record Adding (layer : Layer A) (numbers : List ℕ) (start : ℕ) (first : List (Term A)) (g place : ℕ) (kept : List (Term A)) : Type 0 where
    pub place_is : place ≡ terms_before g layer.terms
    pub terms : (width : ℕ) → AreNumbersBelow width numbers → AreTerms o start width None first → AreTerms o (start + g) width None kept
    pub before : (below : List A) (i : ℕ) → i < start → wire o (coef o kept) below i ≡ wire o (coef o first) below i
    pub values : (old new : List A) → length old ≡ length numbers → AreNumbersBelow (length new) numbers → AreCopies o numbers old new → AreTerms o start (length new) None first
        → (i : ℕ) → i < g → wire o (coef o kept) new (start + i) ≡ wire o (coef o layer.terms) old i
    pub short : length kept ≤ length first + place
    pub lone : (marks : ℕ → Bool) (width : ℕ) → AreNumbersBelow width numbers → AreTerms o start width None first → AreLone o marks None first
        → ((i : ℕ) → i < layer.wires → marks (start + i) ≡ true → HasLone o layer.terms i) → AreLone o marks None kept

  pub adding-starts : (layer : Layer A) (numbers : List ℕ) (start : ℕ) (first : List (Term A)) → Adding layer numbers start first 0 0 first
  adding-starts layer numbers start first = record {
    place_is = sym (before-none layer.terms);
    terms = λ width n h. subst (λ k. AreTerms o k width None first) (omega arith) h;
    before = λ below i l. refl;
    values = λ old new l n h k i j. absurd (omega (arith, j));
    short = omega arith;
    lone = λ marks width n h l each. l;
  }

  -- the row of a wire with one term, whose coefficient is 1
  abbrev pub lone-of : List (Term A) → List (Term A) → ℕ → Type 0
  lone-of ts row g = HasLone o ts g → (u : Term A) × (row ≡ u ∷ []) × (u.coef ≡ o.one)

  pub row-lone : o.one ≢ o.zero → (ts own row again : List (Term A)) (numbers : List ℕ) (g : ℕ) → own ≡ of_wire g ts → again ≡ row
      → ((t : Term A) → own ≡ t ∷ [] → t.coef ≢ o.zero → row ≡ ordered t.coef (at numbers t.a) (at numbers t.b) ∷ [])
      → lone-of ts again g
  row-lone one ts own row again numbers g e same exact = λ (h : HasLone o ts g).
      (ordered h.term.coef (at numbers h.term.a) (at numbers h.term.b), same ∙ exact h.term (e ∙ h.own) (λ z. one (sym h.coef ∙ z)), h.coef)

module _ {A : Type 0} (o : Ops A) (r : RingLaws o) where
  pub adding-adds : (layer : Layer A) (numbers : List ℕ) (start : ℕ) (first : List (Term A)) (g place end : ℕ) (kept row more : List (Term A)) → g < layer.wires → AreTerms o layer.wires (length numbers) None layer.terms
      → end ≡ terms_before (g + 1) layer.terms
      → ((width : ℕ) → AreNumbersBelow width numbers → IsRow o width row)
      → ((old new : List A) → AreCopies o numbers old new → row_value o new row ≡ row_value o old (of_wire g layer.terms))
      → place + length row ≤ end
      → ((width : ℕ) → AreTerms o (start + g) width None kept → IsRow o width row → AreTerms o (start + g + 1) width None more)
      → ((below : List A) (i : ℕ) → i < start + g → wire o (coef o more) below i ≡ wire o (coef o kept) below i)
      → ((below : List A) → AreTerms o (start + g) (length below) None kept → IsRow o (length below) row → wire o (coef o more) below (start + g) ≡ row_value o below row)
      → length more ≡ length kept + length row
      → more ≡ kept ++ map (placed (start + g)) row
      → lone-of o layer.terms row g
      → Adding o layer numbers start first g place kept → Adding o layer numbers start first (g + 1) end more
  adding-adds layer numbers start first g place end kept row more l ts e is_row value short terms before added count exact lone m = record {
    place_is = e;
    terms = λ width n h. subst (λ k. AreTerms o k width None more) (omega arith) (terms width (m.terms width n h) (is_row width n));
    before = λ below i k. before below i (omega (arith, k)) ∙ m.before below i k;
    values = λ old new k n h f i j. elim (cases_lt i g) [
      | inl below ↦ before new (start + i) (omega (arith, below)) ∙ m.values old new k n h f i below
      | inr above ↦
          let same : i ≡ g = omega (arith, j, above) in
          subst (λ x. wire o (coef o more) new (start + x) ≡ wire o (coef o layer.terms) old x) (sym same)
          (added new (m.terms (length new) n f) (is_row (length new) n) ∙ value old new h ∙ sym (wire-value o r layer.wires layer.terms old g l (subst (λ w. AreTerms o layer.wires w None layer.terms) (sym k) ts)))
    ];
    short = omega (arith, count, short, m.short);
    lone = λ marks width n h f each.
        subst (AreLone o marks None) (sym exact)
        (lone-append o marks (start + g) width None kept row tt (m.terms width n h) (m.lone marks width n h f each) (λ y. lone (each g l y)));
  }
