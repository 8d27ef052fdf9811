-- Where the terms of each wire stand.
use Rattle.std.specs.Prelude.{◌≡◌, ℕ, ◌+◌, ◌-◌, ◌<◌, ◌≤◌, ◌==◌, ◌&&◌, ◌||◌, nat_lt, cond, Option, Some, None, IsTrue, List, [], ◌∷◌, length, take, drop}
use Rattle.std.proofs.Common.{zero, suc, ◌⊎◌, inl, inr, refl, sym, ap, ◌∙◌, arith, get_or}
use Rattle.std.proofs.lemmas.Bool.{or_cases, and_parts, cases_lt, ltb-true, lt-ltb, le-ltb, ne_eqb, eq-eqb, eqb-true}
use Rattle.lzk_field.specs.Ring.{Ops}
use Rattle.lzk_circuit.specs.declared.layer.Term.{Term}
use Rattle.lzk_circuit.specs.Valid.{follows, AreTerms}
use Rattle.lzk_circuit_reduce.specs.Renumbering.{of_wire, terms_before}

module _ {A : Type 0} where
  up : (s t : Term A) → IsTrue (follows (Some s) t) → s.g ≤ t.g
  up s t h = elim (or_cases (nat_lt s.g t.g) ((s.g == t.g) && (nat_lt s.a t.a || ((s.a == t.a) && nat_lt s.b t.b))) h) [
    | inl l ↦ omega (arith, ltb-true s.g t.g l)
    | inr q ↦ omega (arith, eqb-true s.g t.g (and_parts (s.g == t.g) (nat_lt s.a t.a || ((s.a == t.a) && nat_lt s.b t.b)) q).0)
  ]

  pub before_one : (g : ℕ) (t : Term A) (ts : List (Term A)) → t.g < g → terms_before g (t ∷ ts) ≡ suc (terms_before g ts)
  before_one g t ts l = ap (λ b. cond b 1 0 + terms_before g ts) (lt-ltb t.g g l) ∙ omega arith

  pub before_same : (g : ℕ) (t : Term A) (ts : List (Term A)) → g ≤ t.g → terms_before g (t ∷ ts) ≡ terms_before g ts
  before_same g t ts l = ap (λ b. cond b 1 0 + terms_before g ts) (le-ltb t.g g l) ∙ omega arith

  pub own_one : (g : ℕ) (t : Term A) (ts : List (Term A)) → t.g ≡ g → of_wire g (t ∷ ts) ≡ t ∷ of_wire g ts
  own_one g t ts e = ap (λ b. cond b (t ∷ of_wire g ts) (of_wire g ts)) (eq-eqb t.g g e)

  pub own_same : (g : ℕ) (t : Term A) (ts : List (Term A)) → (t.g < g) ⊎ (g < t.g) → of_wire g (t ∷ ts) ≡ of_wire g ts
  own_same g t ts l = ap (λ b. cond b (t ∷ of_wire g ts) (of_wire g ts)) (ne_eqb t.g g (λ e. elim l [ inl m ↦ omega (arith, e, m) | inr m ↦ omega (arith, e, m) ]))

  pub before-most : (g : ℕ) (ts : List (Term A)) → terms_before g ts ≤ length ts
  before-most g [] = omega arith
  before-most g (t ∷ ts) = elim (cases_lt t.g g) [
    | inl l ↦ omega (arith, before_one g t ts l, before-most g ts)
    | inr l ↦ omega (arith, before_same g t ts l, before-most g ts)
  ]

  pub before-more : (g h : ℕ) (ts : List (Term A)) → g ≤ h → terms_before g ts ≤ terms_before h ts
  before-more g h [] l = omega arith
  before-more g h (t ∷ ts) l = elim (cases_lt t.g g) [
    | inl m ↦ omega (arith, before_one g t ts m, before_one h t ts (omega (arith, l, m)), before-more g h ts l)
    | inr m ↦ elim (cases_lt t.g h) [
      | inl n ↦ omega (arith, before_same g t ts m, before_one h t ts n, before-more g h ts l)
      | inr n ↦ omega (arith, before_same g t ts m, before_same h t ts n, before-more g h ts l)
    ]
  ]

  pub before-none : (ts : List (Term A)) → terms_before 0 ts ≡ 0
  before-none [] = refl
  before-none (t ∷ ts) = before_same 0 t ts (omega arith) ∙ before-none ts

module _ {A : Type 0} (o : Ops A) (wires width : ℕ) where
  none_before : (g : ℕ) (s : Term A) (ts : List (Term A)) → g ≤ s.g → AreTerms o wires width (Some s) ts → terms_before g ts ≡ 0
  none_before g s [] l h = refl
  none_before g s (t ∷ ts) l h = let m : g ≤ t.g = omega (arith, l, up s t h.1) in before_same g t ts m ∙ none_before g t ts m h.2

  none_own : (g : ℕ) (s : Term A) (ts : List (Term A)) → g < s.g → AreTerms o wires width (Some s) ts → of_wire g ts ≡ []
  none_own g s [] l h = refl
  none_own g s (t ∷ ts) l h = let m : g < t.g = omega (arith, l, up s t h.1) in own_same g t ts (inr m) ∙ none_own g t ts m h.2

  -- a term of a wire before g stands among the first
  pub before-within : (g i : ℕ) (before : Option (Term A)) (ts : List (Term A)) (d : Term A) → AreTerms o wires width before ts → i < length ts → (get_or ts i d).g < g → i < terms_before g ts
  before-within g i before [] d h l m = absurd (omega (arith, l))
  before-within g zero before (t ∷ ts) d h l m = omega (arith, before_one g t ts m)
  before-within g (suc i) before (t ∷ ts) d h l m =
      let rest = before-within g i (Some t) ts d h.2 (omega (arith, l)) m in
      elim (cases_lt t.g g) [
        | inl k ↦ omega (arith, before_one g t ts k, rest)
        | inr k ↦ absurd (omega (arith, none_before g t ts k h.2, rest))
      ]

  -- and one of a later wire does not
  pub before-ends : (g i : ℕ) (before : Option (Term A)) (ts : List (Term A)) (d : Term A) → AreTerms o wires width before ts → i < length ts → g ≤ (get_or ts i d).g → terms_before g ts ≤ i
  before-ends g i before [] d h l m = omega arith
  before-ends g zero before (t ∷ ts) d h l m = omega (arith, before_same g t ts m, none_before g t ts m h.2)
  before-ends g (suc i) before (t ∷ ts) d h l m =
      let rest = before-ends g i (Some t) ts d h.2 (omega (arith, l)) m in
      elim (cases_lt t.g g) [
        | inl k ↦ omega (arith, before_one g t ts k, rest)
        | inr k ↦ omega (arith, before_same g t ts k, rest)
      ]

  -- a term behind those of the wires before g is of none of them
  pub before-past : (g i : ℕ) (before : Option (Term A)) (ts : List (Term A)) (d : Term A) → AreTerms o wires width before ts → i < length ts → terms_before g ts ≤ i → g ≤ (get_or ts i d).g
  before-past g i before ts d h l m = elim (cases_lt (get_or ts i d).g g) [
    | inl k ↦ absurd (omega (arith, before-within g i before ts d h l k, m))
    | inr k ↦ k
  ]

  -- the terms of wire g stand behind those of the wires before it
  pub own-terms : (g : ℕ) (before : Option (Term A)) (ts : List (Term A)) → AreTerms o wires width before ts → take (terms_before (g + 1) ts - terms_before g ts) (drop (terms_before g ts) ts) ≡ of_wire g ts
  own-terms g before [] h = refl
  own-terms g before (t ∷ ts) h = elim (cases_lt t.g g) [
    | inl l ↦ let m : t.g < g + 1 = omega arith in
        let n : terms_before (g + 1) (t ∷ ts) - terms_before g (t ∷ ts) ≡ terms_before (g + 1) ts - terms_before g ts = omega (arith, before_one (g + 1) t ts m, before_one g t ts l) in
        ap (λ k. take k (drop (terms_before g (t ∷ ts)) (t ∷ ts))) n ∙ ap (λ k. take (terms_before (g + 1) ts - terms_before g ts) (drop k (t ∷ ts))) (before_one g t ts l) ∙ own-terms g (Some t) ts h.2 ∙ sym (own_same g t ts (inl l))
    | inr l ↦ let z : terms_before g (t ∷ ts) ≡ 0 = before_same g t ts l ∙ none_before g t ts l h.2 in
        let y : terms_before g ts ≡ 0 = none_before g t ts l h.2 in
        elim (cases_lt g t.g) [
          | inl m ↦ let w : terms_before (g + 1) (t ∷ ts) - terms_before g (t ∷ ts) ≡ 0 = omega (arith, before_same (g + 1) t ts (omega arith), none_before (g + 1) t ts (omega arith) h.2) in
              ap (λ k. take k (drop (terms_before g (t ∷ ts)) (t ∷ ts))) w ∙ sym (own_same g t ts (inr m) ∙ none_own g t ts m h.2)
          | inr m ↦ let n : terms_before (g + 1) (t ∷ ts) - terms_before g (t ∷ ts) ≡ suc (terms_before (g + 1) ts) = omega (arith, before_one (g + 1) t ts (omega arith), z) in
              let rest : take (terms_before (g + 1) ts) ts ≡ of_wire g ts =
              ap (λ k. take k ts) (omega (arith, y)) ∙ ap (λ k. take (terms_before (g + 1) ts - terms_before g ts) (drop k ts)) (sym y) ∙ own-terms g (Some t) ts h.2 in
              ap (λ k. take k (drop (terms_before g (t ∷ ts)) (t ∷ ts))) n ∙ ap (λ k. take (suc (terms_before (g + 1) ts)) (drop k (t ∷ ts))) z ∙ ap (λ us. t ∷ us) rest ∙ sym (own_one g t ts (omega (arith, l, m)))
        ]
  ]

  -- the same, as a slice of them
  pub own-slice : (g start end : ℕ) (ts us : List (Term A)) → us ≡ ts → start ≡ terms_before g ts → end ≡ terms_before (g + 1) us → AreTerms o wires width None ts → take (end - start) (drop start us) ≡ of_wire g ts
  own-slice g start end ts us e s f h =
      ap (λ k. take (end - k) (drop k us)) s ∙ ap (λ k. take (k - terms_before g ts) (drop (terms_before g ts) us)) (f ∙ ap (terms_before (g + 1)) e)
      ∙ ap (λ vs. take (terms_before (g + 1) ts - terms_before g ts) (drop (terms_before g ts) vs)) e ∙ own-terms g None ts h
