-- Terms that ascend are distinct.
use Rattle.std.specs.Prelude.{◌≡◌, ℕ, ◌<◌, ◌==◌, ◌&&◌, ◌||◌, nat_lt, true, Option, Some, List, [], ◌∷◌, length}
use Rattle.std.proofs.Common.{zero, suc, ◌⊎◌, inl, inr, refl, ◌∙◌, arith, get_or}
use Rattle.std.specs.List.{AllByRecursion}
use Rattle.std.proofs.lemmas.Bool.{eqb-true, ltb-true, or_cases, and_parts, cases_Bool, cond-false}
use Rattle.lzk_field.specs.Ring.{Ops}
use Rattle.lzk_circuit.specs.declared.layer.Term.{Term}
use Rattle.lzk_circuit.specs.declared.layer.Layer.{Layer}
use Rattle.lzk_circuit.specs.Wires.{is_at, coef, AreDistinct}
use Rattle.lzk_circuit.specs.Valid.{precedes, IsPlaced, ArePlaced, AreLayersPlaced, IsTerm, AreTerms, AreLayersOf}

module _ {A : Type 0} where
  pub record Before (t u : Term A) : Type 0 where
    pub cases : (t.g < u.g) ⊎ ((t.g ≡ u.g) × ((t.a < u.a) ⊎ ((t.a ≡ u.a) × (t.b < u.b))))

  pub before_from : (t u : Term A) → precedes t u ≡ true → Before t u
  before_from t u e = record {
    cases = elim (or_cases (nat_lt t.g u.g) ((t.g == u.g) && (nat_lt t.a u.a || ((t.a == u.a) && nat_lt t.b u.b))) e) [
      | inl l ↦ inl (ltb-true t.g u.g l)
      | inr r ↦ let p = and_parts (t.g == u.g) (nat_lt t.a u.a || ((t.a == u.a) && nat_lt t.b u.b)) r in
          inr (
            eqb-true t.g u.g p.0,
            elim (or_cases (nat_lt t.a u.a) ((t.a == u.a) && nat_lt t.b u.b) p.1) [
              | inl l ↦ inl (ltb-true t.a u.a l)
              | inr r ↦ let q = and_parts (t.a == u.a) (nat_lt t.b u.b) r in inr (eqb-true t.a u.a q.0, ltb-true t.b u.b q.1)
            ],
          )
    ];
  }

  before_then : (t u w : Term A) → Before t u → Before u w → Before t w
  before_then t u w x y = record {
    cases = elim x.cases [
      | inl l ↦ elim y.cases [ inl m ↦ inl (omega arith) | inr m ↦ inl (omega arith) ]
      | inr l ↦ elim y.cases [
        | inl m ↦ inl (omega arith)
        | inr m ↦ inr (
          omega arith,
          elim l.1 [
            | inl p ↦ elim m.1 [ inl q ↦ inl (omega arith) | inr q ↦ inl (omega arith) ]
            | inr p ↦ elim m.1 [ inl q ↦ inl (omega arith) | inr q ↦ inr (omega arith, omega arith) ]
          ],
        )
      ]
    ];
  }

  -- each of the terms comes after t
  abbrev pub AllAfter : Term A → List (Term A) → Type 0
  AllAfter t us = AllByRecursion (Before t) us

  all_after_from : (t u : Term A) (us : List (Term A)) → Before t u → AllAfter u us → AllAfter t us
  all_after_from t u [] h all = tt
  all_after_from t u (w ∷ us) h all = (before_then t u w h all.0, all_after_from t u us h all.1)

  not_at : (t u : Term A) → Before t u → is_at u t.g t.a t.b ≡ true → ⊥
  not_at t u h e =
      let p = and_parts (t.g == u.g) ((t.a == u.a) && (t.b == u.b)) e in
      let q = and_parts (t.a == u.a) (t.b == u.b) p.1 in
      let eg = eqb-true t.g u.g p.0 in
      let ea = eqb-true t.a u.a q.0 in
      let eb = eqb-true t.b u.b q.1 in
      elim h.cases [ inl l ↦ omega arith | inr r ↦ elim r.1 [ inl l ↦ omega arith | inr s ↦ omega arith ] ]

  pub all_after : (wires width : ℕ) (t : Term A) (ts : List (Term A)) → ArePlaced wires width (Some t) ts → AllAfter t ts
  all_after wires width t [] h = tt
  all_after wires width t (u ∷ ts) h =
      let first = before_from t u h.1 in
      (first, all_after_from t u ts first (all_after wires width u ts h.2))

  pub placed-at : (wires width i : ℕ) (before : Option (Term A)) (ts : List (Term A)) (d : Term A) → ArePlaced wires width before ts → i < length ts → IsPlaced wires width (get_or ts i d)
  placed-at wires width i before [] d h l = absurd (omega arith)
  placed-at wires width zero before (t ∷ ts) d h l = h.0
  placed-at wires width (suc i) before (t ∷ ts) d h l = placed-at wires width i (Some t) ts d h.2 (omega arith)

module _ {A : Type 0} (o : Ops A) where
  -- no other term has the numbers of t
  absent : (t : Term A) (us : List (Term A)) → AllAfter t us → coef o us t.g t.a t.b ≡ o.zero
  absent t [] h = refl
  absent t (u ∷ us) h =
      cond-false (is_at u t.g t.a t.b) u.coef (coef o us t.g t.a t.b) (elim (cases_Bool (is_at u t.g t.a t.b)) [ inl e ↦ absurd (not_at t u h.0 e) | inr e ↦ e ]) ∙ absent t us h.1

  pub placed-distinct : (wires width : ℕ) (before : Option (Term A)) (ts : List (Term A)) → ArePlaced wires width before ts → AreDistinct o wires width ts
  placed-distinct wires width before [] h = tt
  placed-distinct wires width before (t ∷ ts) h =
      let one = h.0 in
      (one.g, omega (arith, one.a, one.b), one.b, absent t ts (all_after wires width t ts h.2), placed-distinct wires width (Some t) ts h.2)

  -- ---- terms are in their places

  pub placed : (wires width : ℕ) (t : Term A) → IsTerm o wires width t → IsPlaced wires width t
  placed wires width t h = record { g = h.g; a = h.a; b = h.b }

  pub terms-placed : (wires width : ℕ) (before : Option (Term A)) (ts : List (Term A)) → AreTerms o wires width before ts → ArePlaced wires width before ts
  terms-placed wires width before [] h = tt
  terms-placed wires width before (t ∷ ts) h = (placed wires width t h.0, h.1, terms-placed wires width (Some t) ts h.2)

  pub layers-placed : (version inputs : ℕ) (layers : List (Layer A)) → AreLayersOf o version inputs layers → AreLayersPlaced inputs layers
  layers-placed version inputs [] h = tt
  layers-placed version inputs (layer ∷ layers) h = let one = h.0 in (one.each, layers-placed version inputs layers h.1)

  pub distinct : (wires width : ℕ) (before : Option (Term A)) (ts : List (Term A)) → AreTerms o wires width before ts → AreDistinct o wires width ts
  distinct wires width before ts h = placed-distinct wires width before ts (terms-placed wires width before ts h)

  pub term-at : (wires width i : ℕ) (before : Option (Term A)) (ts : List (Term A)) (d : Term A) → AreTerms o wires width before ts → i < length ts → IsTerm o wires width (get_or ts i d)
  term-at wires width i before [] d h l = absurd (omega arith)
  term-at wires width zero before (t ∷ ts) d h l = h.0
  term-at wires width (suc i) before (t ∷ ts) d h l = term-at wires width i (Some t) ts d h.2 (omega arith)
