-- Assertion terms beside others: wires with the coefficient 1 for them, and with 0 again.
use Rattle.std.specs.Prelude.{◌≡◌, ◌≢◌, ◌⊎◌, ℕ, ◌+◌, ◌<◌, ◌≤◌, ◌==◌, ◌&&◌, ◌||◌, true, false, cond, Bool, IsTrue, Option, Some, None, List, [], ◌∷◌, length, slice_index_or}
use Rattle.std.proofs.Common.{suc, inl, inr, refl, sym, ap, ◌∙◌, arith, subst, get_or}
use Rattle.std.specs.List.{AllByRecursion}
use Rattle.std.proofs.lemmas.Bool.{cases_Bool, cases_eq, cases_lt, eqb-true, eq-eqb, ne_eqb, and_parts}
use Rattle.lzk_field.specs.Ring.{Ops, RingLaws, Laws}
use Rattle.lzk_field.specs.Sums.{sum_below}
use Rattle.lzk_field.proofs.RingBasics.{zero_plus, one_times}
use Rattle.lzk_field.proofs.Solve.{var, ◌⊞◌, ◌⊠◌, solve}
use Rattle.lzk_field.proofs.SumLaws.{sum-ext, sum-plus, sum-times}
use Rattle.lzk_circuit.specs.declared.layer.Term.{Term}
use Rattle.lzk_circuit.specs.Sums.{sum_pairs}
use Rattle.lzk_circuit.specs.Checks.{asserted}
use Rattle.lzk_circuit.specs.Valid.{follows, ArePlaced, AreTerms, MayStand, MayEachStand, AreApart}
use Rattle.lzk_circuit.specs.Wires.{is_at, coef, zero_of, zero_at, layer_coefficient, weighed_term, weighed, wire}
use Rattle.lzk_circuit.proofs.AssertLaws.{zero_of-other, weighed_by, weighed-placed, weighed-coef, weighed-zero, weighed-other, wire-ext}
use Rattle.lzk_circuit.proofs.CheckLaws.{asserted-no-wire}
use Rattle.lzk_circuit.proofs.OrderLaws.{before_from}
use Rattle.lzk_circuit.proofs.TermSums.{sum_pairs-ext, wire-terms}
use Rattle.lzk_circuit.proofs.ValidLaws.{zero-only}
use Rattle.lzk_circuit_reduce.specs.Renumbering.{of_wire}
use Rattle.lzk_circuit_reduce.proofs.WireLaws.{own_one, own_same}
use Rattle.lzk_circuit_beside.proofs.RowLaws.{true-false}
use Rattle.lzk_circuit_beside.specs.Asserts.{is_asserted, cleared_term, cleared, IsOfAnother, AreLone, HasLone}

not_one : ◌≢◌ {A = ℕ} 2 1
not_one e = omega (arith, e)

later : {A : Type 0} → (t u : Term A) → IsTrue (follows (Some t) u) → t.g ≤ u.g
later t u h = let b = before_from t u h in elim b.cases [ inl l ↦ omega (arith, l) | inr l ↦ omega (arith, l.0) ]

-- ---- a wire with the coefficient 1 for its assertion terms

module _ {A : Type 0} (o : Ops A) (r : RingLaws o) where
  open o use {plus, times}

  wire-weighed : (ts : List (Term A)) (beta : A) (values : List A) (g : ℕ)
      → wire o (layer_coefficient o ts beta) values g ≡ plus (wire o (coef o ts) values g) (times beta (wire o (zero_at o ts) values g))
  unfolding wire
  wire-weighed ts beta values g =
      let n = length values in
      let v : ℕ → A = λ i. slice_index_or values i o.zero in
      let c : ℕ → ℕ → A = λ a b. times (times (coef o ts g a b) (v a)) (v b) in
      let z : ℕ → ℕ → A = λ a b. times (times (zero_at o ts g a b) (v a)) (v b) in
      sum_pairs-ext o r n (λ a b. times (times (layer_coefficient o ts beta g a b) (v a)) (v b)) (λ a b. plus (c a b) (times beta (z a b)))
      (λ a b. solve o r (coef o ts g a b ∷ beta ∷ zero_at o ts g a b ∷ v a ∷ v b ∷ []) (((var 0 ⊞ var 1 ⊠ var 2) ⊠ var 3) ⊠ var 4) ((var 0 ⊠ var 3) ⊠ var 4 ⊞ var 1 ⊠ ((var 2 ⊠ var 3) ⊠ var 4)) refl)
      ∙ sum-ext o r n (λ a. sum_below o n (λ b. plus (c a b) (times beta (z a b)))) (λ a. plus (sum_below o n (c a)) (times beta (sum_below o n (z a))))
      (λ a l. sum-plus o r n (c a) (λ b. times beta (z a b)) ∙ ap (plus (sum_below o n (c a))) (sum-times o r n beta (z a)))
      ∙ sum-plus o r n (λ a. sum_below o n (c a)) (λ a. times beta (sum_below o n (z a)))
      ∙ ap (plus (sum_pairs o n c)) (sum-times o r n beta (λ a. sum_below o n (z a)))

  -- what a wire is, and what is asserted of it, together
  both-parts : (ts : List (Term A)) (below : List A) (g : ℕ) → plus (wire o (coef o ts) below g) (asserted o ts below g) ≡ wire o (coef o (weighed o o.one ts)) below g
  both-parts ts below g =
      ap (plus (wire o (coef o ts) below g)) (sym (one_times o r (asserted o ts below g))) ∙ sym (wire-weighed ts o.one below g)
      ∙ wire-ext o r (layer_coefficient o ts o.one) (coef o (weighed o o.one ts)) below g (λ a b. weighed-coef o r o.one ts g a b)

  nothing : (q : ℕ → ℕ → ℕ → A) (below : List A) (k : ℕ) → ((a b : ℕ) → q k a b ≡ o.zero) → wire o q below k ≡ o.zero
  nothing q below k h = wire-ext o r q (coef o []) below k h ∙ wire-terms o r (k + 1) [] below k (omega arith) tt

-- one of two is 0, and the other all
module _ {A : Type 0} (o : Ops A) where
  pub record IsOneOf (b : Bool) (w s v : A) : Type 0 where
    pub yes : b ≡ true → (w ≡ o.zero) × (s ≡ v)
    pub no : b ≡ false → (s ≡ o.zero) × (w ≡ v)

  pub same-parts : (b c : Bool) (w s v x t u : A) → IsOneOf b w s v → IsOneOf c x t u → b ≡ c → v ≡ u → (w ≡ x) × (s ≡ t)
  same-parts b c w s v x t u h k e f = elim (cases_Bool b) [
    | inl y ↦
        let one = h.yes y in
        let other = k.yes (sym e ∙ y) in
        (one.0 ∙ sym other.0, one.1 ∙ f ∙ sym other.1)
    | inr n ↦
        let one = h.no n in
        let other = k.no (sym e ∙ n) in
        (one.1 ∙ f ∙ sym other.1, one.0 ∙ sym other.0)
  ]

  one-of : RingLaws o → (b : Bool) (w s v : A) → o.plus w s ≡ v → (b ≡ true → w ≡ o.zero) → (b ≡ false → s ≡ o.zero) → IsOneOf b w s v
  one-of r b w s v e y n = record {
    yes = λ t. (y t, sym (zero_plus o r s) ∙ ap (λ x. o.plus x s) (sym (y t)) ∙ e);
    no = λ f. (n f, sym (r.plus_zero w) ∙ ap (o.plus w) (sym (n f)) ∙ e);
  }

module _ {A : Type 0} (o : Ops A) (size : ℕ) (number : A → ℕ) (element : ℕ → A) (bytes : ℕ) (laws : Laws o size number element bytes) where
  is-zero : (x : A) → number x ≡ 0 → x ≡ o.zero
  is-zero x e = zero-only o size number element bytes laws.numbers x e

  not-zero : (x : A) → number x ≢ 0 → x ≢ o.zero
  not-zero x n z = n (ap number z ∙ laws.numbers.zero_number)

  -- ---- the terms of a layer, with the coefficient 1 for its assertion terms

  abbrev AreNonzero : List (Term A) → Type 0
  AreNonzero ts = AllByRecursion (λ (t : Term A). t.coef ≢ o.zero) ts

  weighed-nonzero : (c : A) → weighed_by o o.one c ≢ o.zero
  weighed-nonzero c = elim (cases_eq (number c) 0) [
    | inl e ↦ λ z. laws.field.one_not_zero (sym (weighed-zero o size number element bytes laws o.one c e) ∙ z)
    | inr n ↦ λ z. not-zero c n (sym (weighed-other o size number element bytes laws o.one c n) ∙ z)
  ]

  all-nonzero : (ts : List (Term A)) → AreNonzero (weighed o o.one ts)
  all-nonzero [] = tt
  all-nonzero (t ∷ ts) = (weighed-nonzero t.coef, all-nonzero ts)

  terms-from : (wires width : ℕ) (before : Option (Term A)) (ts : List (Term A)) → ArePlaced wires width before ts → AreNonzero ts → AreTerms o wires width before ts
  terms-from wires width before [] h n = tt
  terms-from wires width before (t ∷ ts) h n = let one = h.0 in (record { g = one.g; a = one.a; b = one.b; coef = n.0 }, h.1, terms-from wires width (Some t) ts h.2 n.1)

  pub weighed-terms : (wires width : ℕ) (ts : List (Term A)) → ArePlaced wires width None ts → AreTerms o wires width None (weighed o o.one ts)
  weighed-terms wires width ts h = terms-from wires width None (weighed o o.one ts) (weighed-placed o o.one wires width ts h) (all-nonzero ts)

  -- ---- a wire is asserted or not

  record Found (ts : List (Term A)) (d : Term A) (g : ℕ) : Type 0 where
    pub i : ℕ
    pub within : i < length ts
    pub wire_is : (get_or ts i d).g ≡ g
    pub coef_is : number (get_or ts i d).coef ≡ 0

  or-false : (x y : Bool) → (x || y) ≡ false → (x ≡ false) × (y ≡ false)
  or-false true y e = absurd (true-false true refl e)
  or-false false y e = (refl, e)

  found : (ts : List (Term A)) (d : Term A) (g : ℕ) → is_asserted number ts g ≡ true → Found ts d g
  found [] d g e = absurd (true-false false e refl)
  found (t ∷ ts) d g e = go ((number t.coef == 0) && (t.g == g)) refl (found ts d g) e
    where
      go : (b : Bool) → ((number t.coef == 0) && (t.g == g)) ≡ b → (is_asserted number ts g ≡ true → Found ts d g) → (b || is_asserted number ts g) ≡ true → Found (t ∷ ts) d g
      go true is rest e =
          let p = and_parts (number t.coef == 0) (t.g == g) is in
          record { i = 0; within = omega arith; wire_is = eqb-true t.g g p.1; coef_is = eqb-true (number t.coef) 0 p.0 }
      go false is rest e =
          let f = rest e in
          record { i = suc f.i; within = omega (arith, f.within); wire_is = f.wire_is; coef_is = f.coef_is }

  here-true : (t : Term A) (g : ℕ) → number t.coef ≡ 0 → t.g ≡ g → ((number t.coef == 0) && (t.g == g)) ≡ true
  here-true t g z e = ap (λ b. b && (t.g == g)) (eq-eqb (number t.coef) 0 z) ∙ eq-eqb t.g g e

  none-zero : (ts : List (Term A)) (g a b : ℕ) → is_asserted number ts g ≡ false → zero_at o ts g a b ≡ o.zero
  none-zero [] g a b e = refl
  none-zero (t ∷ ts) g a b e =
      let p = or-false ((number t.coef == 0) && (t.g == g)) (is_asserted number ts g) e in
      let rest = none-zero ts g a b p.1 in
      elim (cases_eq (number t.coef) 0) [
        | inl z ↦
            let other : (g == t.g) ≡ false = ne_eqb g t.g (λ e. true-false ((number t.coef == 0) && (t.g == g)) (here-true t g z (sym e)) p.0) in
            ap (λ q. cond (q && ((a == t.a) && (b == t.b))) (zero_of o t.coef) (zero_at o ts g a b)) other ∙ rest
        | inr n ↦ ap (λ x. cond (is_at t g a b) x (zero_at o ts g a b)) (zero_of-other o laws.ring laws.field t.coef (not-zero t.coef n)) ∙ ap (cond (is_at t g a b) o.zero) rest ∙ same (is_at t g a b)
      ]
    where
      same : (p : Bool) → cond p o.zero o.zero ≡ o.zero
      same true = refl
      same false = refl

  pub layer-parts : (m : ℕ) (ts : List (Term A)) (below : List A) (g : ℕ) → ArePlaced m (length below) None ts → MayEachStand o 2 None ts
      → IsOneOf o (is_asserted number ts g) (wire o (coef o ts) below g) (asserted o ts below g) (wire o (coef o (weighed o o.one ts)) below g)
  layer-parts m ts below g h coefs =
      one-of o laws.ring (is_asserted number ts g) (wire o (coef o ts) below g) (asserted o ts below g) (wire o (coef o (weighed o o.one ts)) below g) (both-parts o laws.ring ts below g)
      (λ y. let f = found ts d g y in
      subst (λ k. wire o (coef o ts) below k ≡ o.zero) f.wire_is (asserted-no-wire o laws.ring m ts below f.i d f.within (is-zero _ f.coef_is) h coefs))
      (λ n. nothing o laws.ring (zero_at o ts) below g (λ a b. none-zero ts g a b n))
    where
      d : Term A
      d = record { g = 0; a = 0; b = 0; coef = o.zero }

  -- wires past the last are not asserted
  pub asserted-within : (wires width g : ℕ) (before : Option (Term A)) (ts : List (Term A)) → ArePlaced wires width before ts → wires ≤ g → is_asserted number ts g ≡ false
  asserted-within wires width g before [] h l = refl
  asserted-within wires width g before (t ∷ ts) h l =
      let one = h.0 in
      ap (λ b. ((number t.coef == 0) && b) || is_asserted number ts g) (ne_eqb t.g g (λ e. omega (arith, e, one.g, l)))
      ∙ ap (λ b. b || is_asserted number ts g) (go (number t.coef == 0)) ∙ asserted-within wires width g (Some t) ts h.2 l
    where
      go : (b : Bool) → (b && false) ≡ false
      go true = refl
      go false = refl

  -- in version 1 none is
  pub asserted-none : (g : ℕ) (before : Option (Term A)) (ts : List (Term A)) → MayEachStand o 1 before ts → is_asserted number ts g ≡ false
  asserted-none g before [] h = refl
  asserted-none g before (t ∷ ts) h =
      let one = h.0 in
      ap (λ b. (b && (t.g == g)) || is_asserted number ts g) (ne_eqb (number t.coef) 0 (λ z. one.nonzero refl (is-zero t.coef z))) ∙ asserted-none g (Some t) ts h.1

  -- ---- an assertion term is the only one of its wire

  none-own : (wires width g : ℕ) (s : Term A) (ts : List (Term A)) → g < s.g → ArePlaced wires width (Some s) ts → of_wire g ts ≡ []
  none-own wires width g s [] l h = refl
  none-own wires width g s (t ∷ ts) l h = let m : g < t.g = omega (arith, l, later s t h.1) in own_same g t ts (inr m) ∙ none-own wires width g t ts m h.2

  none-next : (wires width : ℕ) (t : Term A) (ts : List (Term A)) → t.coef ≡ o.zero → ArePlaced wires width (Some t) ts → MayEachStand o 2 (Some t) ts → of_wire t.g ts ≡ []
  none-next wires width t [] z h coefs = refl
  none-next wires width t (u ∷ us) z h coefs =
      let stand = coefs.0 in
      let other : t.g ≢ u.g = λ e. (stand.apart not_one e).0 z in
      let m : t.g < u.g = elim (cases_lt t.g u.g) [ inl l ↦ l | inr l ↦ absurd (other (omega (arith, l, later t u h.1))) ] in
      own_same t.g u us (inr m) ∙ none-own wires width t.g u us m h.2

  abbrev weighed_one : Term A → Term A
  weighed_one t = weighed_term o o.one t

  own-weighed : (g : ℕ) (ts : List (Term A)) → of_wire g (weighed o o.one ts) ≡ weighed o o.one (of_wire g ts)
  own-weighed g [] = refl
  own-weighed g (t ∷ ts) = go (t.g == g) (of_wire g (weighed o o.one ts)) (of_wire g ts) (own-weighed g ts)
    where
      go : (b : Bool) (us vs : List (Term A)) → us ≡ weighed o o.one vs → cond b (weighed_one t ∷ us) us ≡ weighed o o.one (cond b (t ∷ vs) vs)
      go true us vs e = ap (λ ws. weighed_one t ∷ ws) e
      go false us vs e = e

  -- the term that is found, and that it is the first one or comes later
  record Lone (ts : List (Term A)) (g : ℕ) : Type 0 where
    pub term : Term A
    pub own : of_wire g ts ≡ term ∷ []
    pub coef : number term.coef ≡ 0

  record LoneFrom (t : Term A) (ts : List (Term A)) (g : ℕ) : Type 0 where
    pub lone : Lone (t ∷ ts) g
    pub first : ((t.g ≡ g) × (number t.coef ≡ 0)) ⊎ (t.g < g)

  lone-here : (wires width g : ℕ) (t : Term A) (ts : List (Term A)) → ArePlaced wires width (Some t) ts → MayEachStand o 2 (Some t) ts → ((number t.coef == 0) && (t.g == g)) ≡ true → LoneFrom t ts g
  lone-here wires width g t ts h coefs y =
      let p = and_parts (number t.coef == 0) (t.g == g) y in
      let z : number t.coef ≡ 0 = eqb-true (number t.coef) 0 p.0 in
      let e : t.g ≡ g = eqb-true t.g g p.1 in
      record {
        lone = record { term = t; own = own_one g t ts e ∙ ap (λ us. t ∷ us) (ap (λ k. of_wire k ts) (sym e) ∙ none-next wires width t ts (is-zero t.coef z) h coefs); coef = z };
        first = inl (e, z);
      }

  lone-later : (t u : Term A) (us : List (Term A)) (g : ℕ) → IsTrue (follows (Some t) u) → MayStand o 2 (Some t) u → LoneFrom u us g → LoneFrom t (u ∷ us) g
  lone-later t u us g h stand f =
      let l : t.g < g = elim f.first [
        | inl here ↦
            let other : t.g ≢ u.g = λ e. (stand.apart not_one e).1 (is-zero u.coef here.1) in
            elim (cases_lt t.g u.g) [ inl m ↦ omega (arith, m, here.0) | inr m ↦ absurd (other (omega (arith, m, later t u h))) ]
        | inr m ↦ omega (arith, m, later t u h)
      ] in
      let lone = f.lone in
      record {
        lone = record { term = lone.term; own = own_same g t (u ∷ us) (inl l) ∙ lone.own; coef = lone.coef };
        first = inr l;
      }

  or-later : (x y : Bool) → x ≡ false → (x || y) ≡ true → y ≡ true
  or-later x y n e = ap (λ b. b || y) (sym n) ∙ e

  lone-from : (wires width g : ℕ) (before : Option (Term A)) (t : Term A) (ts : List (Term A)) → ArePlaced wires width before (t ∷ ts) → MayEachStand o 2 before (t ∷ ts) → is_asserted number (t ∷ ts) g ≡ true → LoneFrom t ts g
  lone-from wires width g before t [] h coefs e = elim (cases_Bool ((number t.coef == 0) && (t.g == g))) [
    | inl y ↦ lone-here wires width g t [] tt tt y
    | inr n ↦ absurd (true-false false (or-later ((number t.coef == 0) && (t.g == g)) false n e) refl)
  ]
  lone-from wires width g before t (u ∷ us) h coefs e = elim (cases_Bool ((number t.coef == 0) && (t.g == g))) [
    | inl y ↦ lone-here wires width g t (u ∷ us) h.2 coefs.1 y
    | inr n ↦ lone-later t u us g h.2.1 coefs.1.0 (lone-from wires width g (Some t) u us h.2 coefs.1 (or-later ((number t.coef == 0) && (t.g == g)) (is_asserted number (u ∷ us) g) n e))
  ]

  pub has-lone : (wires width g : ℕ) (ts : List (Term A)) → ArePlaced wires width None ts → MayEachStand o 2 None ts → is_asserted number ts g ≡ true → HasLone o (weighed o o.one ts) g
  has-lone wires width g [] h coefs e = absurd (true-false false e refl)
  has-lone wires width g (t ∷ ts) h coefs e =
      let found = lone-from wires width g None t ts h coefs e in
      let lone = found.lone in
      record {
        term = weighed_one lone.term;
        own = own-weighed g (t ∷ ts) ∙ ap (weighed o o.one) lone.own;
        coef = weighed-zero o size number element bytes laws o.one lone.term.coef lone.coef;
      }

  -- ---- with the coefficient 0 again

  module _ (marks : ℕ → Bool) where
    abbrev pub cleared_before : Option (Term A) → Option (Term A)
    cleared_before None = None
    cleared_before (Some s) = Some (cleared_term o marks s)

    cleared-follows : (before : Option (Term A)) (t : Term A) → IsTrue (follows before t) → IsTrue (follows (cleared_before before) (cleared_term o marks t))
    cleared-follows None t h = h
    cleared-follows (Some s) t h = h

    pub cleared-placed : (wires width : ℕ) (before : Option (Term A)) (ts : List (Term A)) → AreTerms o wires width before ts → ArePlaced wires width (cleared_before before) (cleared o marks ts)
    cleared-placed wires width before [] h = tt
    cleared-placed wires width before (t ∷ ts) h = let one = h.0 in (record { g = one.g; a = one.a; b = one.b }, cleared-follows before t h.1, cleared-placed wires width (Some t) ts h.2)

    with-coef : (t : Term A) (x : A) → x ≡ t.coef → record { g = t.g; a = t.a; b = t.b; coef = x } ≡ t
    with-coef t x e = ap (λ (y : A). record { g = t.g; a = t.a; b = t.b; coef = y }) e

    cleared-again : (t : Term A) → t.coef ≢ o.zero → (marks t.g ≡ true → t.coef ≡ o.one) → weighed_one (cleared_term o marks t) ≡ t
    cleared-again t n h = with-coef t (weighed_by o o.one (cond (marks t.g) o.zero t.coef)) (elim (cases_Bool (marks t.g)) [
      | inl y ↦ ap (λ b. weighed_by o o.one (cond b o.zero t.coef)) y ∙ weighed-zero o size number element bytes laws o.one o.zero laws.numbers.zero_number ∙ sym (h y)
      | inr f ↦ ap (λ b. weighed_by o o.one (cond b o.zero t.coef)) f ∙ weighed-other o size number element bytes laws o.one t.coef (λ z. n (is-zero t.coef z))
    ])

    weighed-cleared : (wires width : ℕ) (before : Option (Term A)) (ts : List (Term A)) → AreTerms o wires width before ts → AreLone o marks before ts → weighed o o.one (cleared o marks ts) ≡ ts
    weighed-cleared wires width before [] h l = refl
    weighed-cleared wires width before (t ∷ ts) h l =
        let one = h.0 in
        ap (λ u. u ∷ weighed o o.one (cleared o marks ts)) (cleared-again t one.coef (λ y. (l.0 y).0)) ∙ ap (λ us. t ∷ us) (weighed-cleared wires width (Some t) ts h.2 l.1)

    at-wire : (t : Term A) (k a b : ℕ) → is_at t k a b ≡ true → t.g ≡ k
    at-wire t k a b e = sym (eqb-true k t.g (and_parts (k == t.g) ((a == t.a) && (b == t.b)) e).0)

    chosen-zero : (p : Bool) (x y : A) → (p ≡ true → x ≡ o.zero) → y ≡ o.zero → cond p x y ≡ o.zero
    chosen-zero true x y h e = h refl
    chosen-zero false x y h e = e

    marked-no-wire : (ts : List (Term A)) (k a b : ℕ) → marks k ≡ true → coef o (cleared o marks ts) k a b ≡ o.zero
    marked-no-wire [] k a b m = refl
    marked-no-wire (t ∷ ts) k a b m =
        chosen-zero (is_at t k a b) (cond (marks t.g) o.zero t.coef) (coef o (cleared o marks ts) k a b)
        (λ e. ap (λ c. cond c o.zero t.coef) (ap marks (at-wire t k a b e) ∙ m)) (marked-no-wire ts k a b m)

    unmarked-no-assert : (wires width : ℕ) (before : Option (Term A)) (ts : List (Term A)) (k a b : ℕ) → AreTerms o wires width before ts → marks k ≡ false → zero_at o (cleared o marks ts) k a b ≡ o.zero
    unmarked-no-assert wires width before [] k a b h m = refl
    unmarked-no-assert wires width before (t ∷ ts) k a b h m =
        let one = h.0 in
        chosen-zero (is_at t k a b) (zero_of o (cond (marks t.g) o.zero t.coef)) (zero_at o (cleared o marks ts) k a b)
        (λ e. ap (λ c. zero_of o (cond c o.zero t.coef)) (ap marks (at-wire t k a b e) ∙ m) ∙ zero_of-other o laws.ring laws.field t.coef one.coef) (unmarked-no-assert wires width (Some t) ts k a b h.2 m)

    pub cleared-parts : (wires width : ℕ) (ts : List (Term A)) (below : List A) (k : ℕ) → AreTerms o wires width None ts → AreLone o marks None ts
        → IsOneOf o (marks k) (wire o (coef o (cleared o marks ts)) below k) (asserted o (cleared o marks ts) below k) (wire o (coef o ts) below k)
    cleared-parts wires width ts below k h l =
        one-of o laws.ring (marks k) (wire o (coef o (cleared o marks ts)) below k) (asserted o (cleared o marks ts) below k) (wire o (coef o ts) below k)
        (both-parts o laws.ring (cleared o marks ts) below k ∙ ap (λ us. wire o (coef o us) below k) (weighed-cleared wires width None ts h l))
        (λ y. nothing o laws.ring (coef o (cleared o marks ts)) below k (λ a b. marked-no-wire ts k a b y))
        (λ n. nothing o laws.ring (zero_at o (cleared o marks ts)) below k (λ a b. unmarked-no-assert wires width None ts k a b h n))

    abbrev IsNonzero : Option (Term A) → Type 0
    IsNonzero None = Unit {0}
    IsNonzero (Some s) = s.coef ≢ o.zero

    unmarked-coef : (t : Term A) → t.coef ≢ o.zero → marks t.g ≡ false → cond (marks t.g) o.zero t.coef ≢ o.zero
    unmarked-coef t n f z = n (ap (λ b. cond b o.zero t.coef) (sym f) ∙ z)

    cleared-apart : (before : Option (Term A)) (t : Term A) → IsNonzero before → t.coef ≢ o.zero → (marks t.g ≡ true → IsOfAnother before t.g) → AreApart o (cleared_before before) (cleared_term o marks t)
    cleared-apart None t b n h = tt
    cleared-apart (Some s) t b n h = λ e. elim (cases_Bool (marks t.g)) [
      | inl y ↦ absurd (h y e)
      | inr f ↦ (unmarked-coef s b (ap marks e ∙ f), unmarked-coef t n f)
    ]

    pub cleared-stands : (version wires width : ℕ) (before : Option (Term A)) (ts : List (Term A)) → AreTerms o wires width before ts → AreLone o marks before ts → IsNonzero before
        → (version ≡ 1 → (k : ℕ) → k < wires → marks k ≡ false) → MayEachStand o version (cleared_before before) (cleared o marks ts)
    cleared-stands version wires width before [] h l b one = tt
    cleared-stands version wires width before (t ∷ ts) h l b one =
        let first = h.0 in (
          record {
            nonzero = λ v. unmarked-coef t first.coef (one v t.g first.g);
            apart = λ v. cleared-apart before t b first.coef (λ y. (l.0 y).1);
          },
          cleared-stands version wires width (Some t) ts h.2 l.1 first.coef one,
        )

-- where no wire is marked, the terms are as they were
module _ {A : Type 0} (o : Ops A) (marks : ℕ → Bool) (none : (k : ℕ) → marks k ≡ false) where
  pub none-cleared : (ts : List (Term A)) → ts ≡ cleared o marks ts
  none-cleared [] = refl
  none-cleared (t ∷ ts) = ap (λ b. record { g = t.g; a = t.a; b = t.b; coef = cond b o.zero t.coef } ∷ ts) (sym (none t.g)) ∙ ap (λ us. cleared_term o marks t ∷ us) (none-cleared ts)
