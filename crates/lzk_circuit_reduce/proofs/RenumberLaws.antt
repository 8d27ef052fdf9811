-- Terms under other numbers of the wires below.
use Rattle.std.specs.Prelude.{◌≡◌, ℕ, ◌<◌, ◌==◌, ◌≢◌, cond, true, false, Bool, Option, Some, None, List, [], ◌∷◌, ◌++◌, length, take, drop}
use Rattle.std.proofs.Common.{refl, sym, ap, ◌∙◌, arith, subst, get_or}
use Rattle.std.proofs.lemmas.List.{take-append-drop, length-map}
use Rattle.std.proofs.lemmas.List.Elements.{All-take, All-drop}
use Rattle.lzk_field.specs.Ring.{Ops, RingLaws, FieldLaws}
use Rattle.lzk_field.specs.Sums.{entry}
use Rattle.lzk_field.proofs.RingBasics.{zero_plus, times_zero}
use Rattle.lzk_circuit.specs.declared.layer.Term.{Term}
use Rattle.lzk_circuit.specs.Valid.{AreTerms}
use Rattle.lzk_circuit.specs.Wires.{coef, wire}
use Rattle.lzk_circuit.proofs.OrderLaws.{distinct, term-at}
use Rattle.lzk_circuit.specs.Sums.{sum_list}
use Rattle.lzk_circuit.proofs.TermSums.{share, wire-terms}
use Rattle.lzk_circuit_reduce.specs.Renumbering.{at}
use Rattle.lzk_circuit_reduce.specs.Rows.{row_value, term_value, ordered}
use Rattle.lzk_circuit_reduce.specs.Renumbering.{of_wire, AreOver, AreNonzero, AreCopies, IsOne}
use Rattle.lzk_circuit_reduce.proofs.RowLaws.{value-append}

module _ {A : Type 0} where
  pub over-append : (width : ℕ) (ts us : List (Term A)) → AreOver width (ts ++ us) → AreOver width ts × AreOver width us
  over-append width [] us h = (tt, h)
  over-append width (t ∷ ts) us h = let rest = over-append width ts us h.2 in ((h.0, h.1, rest.0), rest.1)

  pub one_term : (ts : List (Term A)) (t : Term A) → length ts ≡ 1 → t ≡ get_or ts 0 t → ts ≡ t ∷ []
  one_term [] t l e = absurd (omega (arith, l))
  one_term (u ∷ []) t l e = ap (λ x. x ∷ []) (sym e)
  one_term (u ∷ v ∷ ts) t l e = absurd (omega (arith, l))

  pub term_halves : (i : ℕ) (ts front back : List (Term A)) → front ≡ take i ts → back ≡ drop i ts → ts ≡ front ++ back
  term_halves i ts front back e f = sym (ap (λ xs. xs ++ back) e ∙ ap (λ ys. take i ts ++ ys) f ∙ take-append-drop i ts)

  pub over-halves : (width i : ℕ) (ts front back : List (Term A)) → front ≡ take i ts → back ≡ drop i ts → AreOver width ts → AreOver width front × AreOver width back
  over-halves width i ts front back e f h = over-append width front back (subst (AreOver width) (term_halves i ts front back e f) h)

  pub nonzero-halves : (o : Ops A) (i : ℕ) (ts front back : List (Term A)) → front ≡ take i ts → back ≡ drop i ts → AreNonzero o ts → AreNonzero o front × AreNonzero o back
  nonzero-halves o i ts front back e f h =
      let nonzero : Term A → Type 0 = λ t. t.coef ≢ o.zero in
      (subst (AreNonzero o) (sym e) (All-take nonzero i ts h), subst (AreNonzero o) (sym f) (All-drop nonzero i ts h))

  pub over-own : (width g : ℕ) (ts : List (Term A)) → AreOver width ts → AreOver width (of_wire g ts)
  over-own width g [] h = tt
  over-own width g (t ∷ ts) h = over_chosen (t.g == g) (of_wire g ts) (over-own width g ts h.2)
    where
      over_chosen : (b : Bool) (us : List (Term A)) → AreOver width us → AreOver width (cond b (t ∷ us) us)
      over_chosen true us k = (h.0, h.1, k)
      over_chosen false us k = k

  pub terms-over : (o : Ops A) (wires width : ℕ) (before : Option (Term A)) (ts : List (Term A)) → AreTerms o wires width before ts → AreOver width ts
  terms-over o wires width before [] h = tt
  terms-over o wires width before (t ∷ ts) h = let one = h.0 in (omega (arith, one.a, one.b), one.b, terms-over o wires width (Some t) ts h.2)

  pub terms-nonzero : (o : Ops A) (wires width : ℕ) (ts : List (Term A)) → AreTerms o wires width None ts → AreNonzero o ts
  terms-nonzero o wires width ts h i d l = let t = term-at o wires width i None ts d h l in t.coef

module _ {A : Type 0} (o : Ops A) (r : RingLaws o) where
  -- a term's value is that of the term over the numbers
  pub copied-value : (numbers : List ℕ) (old new : List A) (t : Term A) → AreCopies o numbers old new → t.a < length numbers → t.b < length numbers
      → o.times t.coef (o.times (entry o new (at numbers t.a)) (entry o new (at numbers t.b))) ≡ term_value o old t
  copied-value numbers old new t h la lb =
      ap (λ x. o.times t.coef (o.times x (entry o new (at numbers t.b)))) (sym (h t.a la)) ∙ ap (λ y. o.times t.coef (o.times (entry o old t.a) y)) (sym (h t.b lb))

  pub value-of-term-halves : (old : List A) (i : ℕ) (ts front back : List (Term A)) (x y : A) → front ≡ take i ts → back ≡ drop i ts → x ≡ row_value o old front → y ≡ row_value o old back → o.plus x y ≡ row_value o old ts
  value-of-term-halves old i ts front back x y e f hx hy =
      ap (λ w. o.plus w y) hx ∙ ap (o.plus (row_value o old front)) hy ∙ sym (value-append o r old front back) ∙ ap (row_value o old) (sym (term_halves i ts front back e f))

  chosen : (below : List A) (t : Term A) (us : List (Term A)) (b : Bool) (x : A) → x ≡ row_value o below us
      → o.plus (o.times t.coef (cond b (o.times (entry o below t.a) (entry o below t.b)) o.zero)) x ≡ row_value o below (cond b (t ∷ us) us)
  chosen below t us true x e = ap (o.plus (term_value o below t)) e
  chosen below t us false x e = ap (λ z. o.plus z x) (times_zero o r t.coef) ∙ zero_plus o r x ∙ e

  wire-share : (below : List A) (g : ℕ) (ts : List (Term A)) → sum_list o ts (share o r below g) ≡ row_value o below (of_wire g ts)
  wire-share below g [] = refl
  wire-share below g (t ∷ ts) = chosen below t (of_wire g ts) (t.g == g) (sum_list o ts (share o r below g)) (wire-share below g ts)

  -- a wire's value is what its terms count
  pub wire-value : (wires : ℕ) (ts : List (Term A)) (below : List A) (g : ℕ) → g < wires → AreTerms o wires (length below) None ts → wire o (coef o ts) below g ≡ row_value o below (of_wire g ts)
  wire-value wires ts below g l h = wire-terms o r wires ts below g l (distinct o wires (length below) None ts h) ∙ wire-share below g ts

module _ {A : Type 0} (o : Ops A) where
  pub one-count : (ts : List (Term A)) → IsOne o ts → length ts ≡ 1
  one-count ts h = let f : Term A → ℕ × ℕ × A = λ t. (t.a, t.b, t.coef) in sym (length-map ts f) ∙ ap length h

  abbrev origin : ℕ × ℕ × A
  origin = (0, 0, o.one)

  one-triple : (t : Term A) (triple : ℕ × ℕ × A) → triple ≡ (t.a, t.b, t.coef) → triple ∷ [] ≡ origin ∷ [] → (t.a ≡ 0) × (t.b ≡ 0) × (t.coef ≡ o.one)
  one-triple t triple e h =
      let p : triple ≡ origin = ap (λ xs. get_or xs 0 origin) h in
      (sym (ap (λ x. x.0) e) ∙ ap (λ x. x.0) p, sym (ap (λ x. x.1) e) ∙ ap (λ x. x.1) p, sym (ap (λ x. x.2) e) ∙ ap (λ x. x.2) p)

  triple-one : (t : Term A) → t.a ≡ 0 → t.b ≡ 0 → t.coef ≡ o.one → IsOne o (t ∷ [])
  triple-one t a b c = cc

  -- wire 0 times itself is that again where wire 0 has number 0
  pub one-renumbered : FieldLaws o → (numbers : List ℕ) (ts : List (Term A)) (t : Term A) → t ≡ get_or ts 0 t → IsOne o ts → at numbers 0 ≡ 0
      → (t.coef ≢ o.zero) × IsOne o (ordered t.coef (at numbers t.a) (at numbers t.b) ∷ [])
  one-renumbered f numbers ts t e h z =
      let p = one-triple t (t.a, t.b, t.coef) refl (subst (IsOne o) (one_term ts t (one-count ts h) e) h) in
      let a : at numbers t.a ≡ 0 = ap (at numbers) p.0 ∙ z in
      let b : at numbers t.b ≡ 0 = ap (at numbers) p.1 ∙ z in
      (λ k. f.one_not_zero (sym p.2 ∙ k), triple-one (ordered t.coef (at numbers t.a) (at numbers t.b)) (omega (arith, a, b)) (omega (arith, a, b)) p.2)
