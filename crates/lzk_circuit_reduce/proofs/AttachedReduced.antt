-- Reduced layers stay so with assertion wires behind their own.
use Rattle.std.specs.Prelude.{◌≡◌, ℕ, ◌+◌, ◌<◌, ◌≤◌, ◌==◌, cond, true, Option, Some, None, List, [], ◌∷◌, ◌++◌, length, map}
use Rattle.std.proofs.Common.{inl, inr, refl, sym, ap, ◌∙◌, arith}
use Rattle.std.proofs.lemmas.Bool.{cases_lt, or_cases, eqb-true, ne_eqb}
use Rattle.lzk_field.specs.Ring.{Ops}
use Rattle.lzk_circuit.specs.declared.layer.Term.{Term}
use Rattle.lzk_circuit.specs.declared.layer.Layer.{Layer}
use Rattle.lzk_circuit.specs.Valid.{under_of, AreTerms, AreLayers}
use Rattle.lzk_circuit_reduce.specs.Asserting.{AreReducedWithUnder, IsReducedWith, IsReducedUnder}
use Rattle.lzk_circuit_reduce.specs.Attached.{assertions, attached, attached_layers, IsAsserting, IsReducedAssertingLayer, AreReducedAssertingUnder, IsReducedAsserting}
use Rattle.lzk_circuit_reduce.specs.Reduced.{terms_of, IsNamed}
use Rattle.lzk_circuit_reduce.specs.Renumbering.{of_wire}
use Rattle.lzk_circuit_reduce.specs.Targets.{targets_at, behind, is_in, AreBelow, AreTargets}

module _ {A : Type 0} (o : Ops A) where
  -- ---- the terms of a layer's own wires

  none-of : (g : ℕ) (ws : List ℕ) (k : ℕ) → k < g → of_wire k (assertions o g ws) ≡ []
  none-of g [] k l = refl
  none-of g (w ∷ ws) k l =
      let t : Term A = record { g = g; a = 0; b = w; coef = o.zero } in
      let rest = of_wire k (assertions o (g + 1) ws) in
      ap (λ p. cond p (t ∷ rest) rest) (ne_eqb g k (λ e. omega (arith, l, e))) ∙ none-of (g + 1) ws k (omega (arith, l))

  of-append : (k : ℕ) (ts us : List (Term A)) → of_wire k us ≡ [] → of_wire k (ts ++ us) ≡ of_wire k ts
  of-append k [] us none = none
  of-append k (t ∷ ts) us none = ap (λ rest. cond (t.g == k) (t ∷ rest) rest) (of-append k ts us none)

  own-terms : (layer : Layer A) (ws : List ℕ) (k : ℕ) → k < layer.wires → terms_of k (layer.terms ++ assertions o layer.wires ws) ≡ terms_of k layer.terms
  own-terms layer ws k l = ap (map (λ (t : Term A). (t.a, t.b, t.coef))) (of-append k layer.terms (assertions o layer.wires ws) (none-of layer.wires ws k l))

  -- ---- which wires assert

  asserts-back : (ts us : List (Term A)) (k : ℕ) → IsAsserting o us k → IsAsserting o (ts ++ us) k
  asserts-back [] us k h = h
  asserts-back (t ∷ ts) us k h = inr (asserts-back ts us k h)

  asserts-here : (g : ℕ) (ws : List ℕ) (k : ℕ) → g ≤ k → k < g + length ws → IsAsserting o (assertions o g ws) k
  asserts-here g [] k le l = absurd (omega (arith, le, l))
  asserts-here g (w ∷ ws) k le l = elim (cases_lt g k) [
    | inl more ↦ inr (asserts-here (g + 1) ws k (omega (arith, more)) (omega (arith, l)))
    | inr same ↦ let e : g ≡ k = omega (arith, le, same) in inl (e, refl)
  ]

  asserts-late : (g : ℕ) (ws : List ℕ) (k : ℕ) → IsAsserting o (assertions o g ws) k → g ≤ k
  asserts-late g [] k h = absurd h
  asserts-late g (w ∷ ws) k (inl here) = omega (arith, here.0)
  asserts-late g (w ∷ ws) k (inr later) = omega (arith, asserts-late (g + 1) ws k later)

  asserts-behind : (wires width : ℕ) (before : Option (Term A)) (ts us : List (Term A)) (k : ℕ) → AreTerms o wires width before ts → IsAsserting o (ts ++ us) k → IsAsserting o us k
  asserts-behind wires width before [] us k h a = a
  asserts-behind wires width before (t ∷ ts) us k h (inl here) = let one = h.0 in absurd (one.coef here.1)
  asserts-behind wires width before (t ∷ ts) us k h (inr later) = asserts-behind wires width (Some t) ts us k h.2 later

  -- an own wire asserts nothing, and each other does
  own-wire : (layer : Layer A) (ws : List ℕ) (k : ℕ) → k < layer.wires + length ws → (IsAsserting o (layer.terms ++ assertions o layer.wires ws) k → ⊥) → k < layer.wires
  own-wire layer ws k l none = elim (cases_lt k layer.wires) [
    | inl own ↦ own
    | inr other ↦ absurd (none (asserts-back layer.terms (assertions o layer.wires ws) k (asserts-here layer.wires ws k other l)))
  ]

  -- ---- which wires are named

  named-front : (ts us : List (Term A)) (k : ℕ) → IsNamed ts k → IsNamed (ts ++ us) k
  named-front [] us k h = absurd h
  named-front (t ∷ ts) us k (inl here) = inl here
  named-front (t ∷ ts) us k (inr later) = inr (named-front ts us k later)

  named-back : (ts us : List (Term A)) (k : ℕ) → IsNamed us k → IsNamed (ts ++ us) k
  named-back [] us k h = h
  named-back (t ∷ ts) us k h = inr (named-back ts us k h)

  named-asserted : (g : ℕ) (ws : List ℕ) (k : ℕ) → is_in ws k ≡ true → IsNamed (assertions o g ws) k
  named-asserted g [] k h = absurd cc
  named-asserted g (w ∷ ws) k h = elim (or_cases (w == k) (is_in ws k) h) [
    | inl e ↦ inl (inr (eqb-true w k e))
    | inr more ↦ inr (named-asserted (g + 1) ws k more)
  ]

  named-below : (wires width : ℕ) (before : Option (Term A)) (ts us : List (Term A)) (k : ℕ) → AreTerms o wires width before ts → (IsNamed us k → k < width) → IsNamed (ts ++ us) k → k < width
  named-below wires width before [] us k h rest n = rest n
  named-below wires width before (t ∷ ts) us k h rest (inl (inl e)) = let one = h.0 in omega (arith, one.a, one.b, e)
  named-below wires width before (t ∷ ts) us k h rest (inl (inr e)) = let one = h.0 in omega (arith, one.b, e)
  named-below wires width before (t ∷ ts) us k h rest (inr later) = named-below wires width (Some t) ts us k h.2 rest later

  asserted-below : (width g : ℕ) (ws : List ℕ) (k : ℕ) → 1 ≤ width → AreBelow width ws → IsNamed (assertions o g ws) k → k < width
  asserted-below width g [] k some h n = absurd n
  asserted-below width g (w ∷ ws) k some h (inl (inl e)) = omega (arith, some, e)
  asserted-below width g (w ∷ ws) k some h (inl (inr e)) = omega (arith, h.0, e)
  asserted-below width g (w ∷ ws) k some h (inr later) = asserted-below width (g + 1) ws k some h.1 later

  -- ---- a layer under another

  attached-layer : (above layer : Layer A) (ws vs : List ℕ) (width : ℕ) → AreTerms o above.wires layer.wires None above.terms → AreTerms o layer.wires width None layer.terms → 1 ≤ layer.wires → AreBelow layer.wires ws
      → IsReducedUnder o above ws layer → IsReducedAssertingLayer o (attached o above ws) (attached o layer vs)
  attached-layer above layer ws vs width upper lower some named h =
      let all = layer.terms ++ assertions o layer.wires vs in
      let same : (k : ℕ) → k < layer.wires → terms_of k all ≡ terms_of k layer.terms = own-terms layer vs in
      record {
        one = same 0 some ∙ h.one;
        different = λ g k l m ng nk.
            let own = own-wire layer vs k m nk in
            let less : g < layer.wires = omega (arith, l, own) in
            λ e. h.different g k l own (sym (same g less) ∙ e ∙ same k own);
        used = λ g first l none.
            let own = own-wire layer vs g l none in
            elim (h.used g first own) [
              | inl n ↦ named-front above.terms (assertions o above.wires ws) g n
              | inr i ↦ named-back above.terms (assertions o above.wires ws) g (named-asserted above.wires ws g i)
            ];
        alone = λ g a n.
            let late = asserts-late layer.wires vs g (asserts-behind layer.wires width None layer.terms (assertions o layer.wires vs) g lower a) in
            let low = named-below above.wires layer.wires None above.terms (assertions o above.wires ws) g upper (asserted-below layer.wires above.wires ws g some named) n in
            omega (arith, late, low);
      }

  attached-under : (inputs : ℕ) (above : Layer A) (ws : List (List ℕ)) (layers : List (Layer A)) → AreLayers o inputs (above ∷ layers) → AreTargets inputs ws (above ∷ layers) → AreReducedWithUnder o above ws layers
      → AreReducedAssertingUnder o (attached o above (targets_at ws 0)) (attached_layers o (behind ws) layers)
  attached-under inputs above ws [] h t r = tt
  attached-under inputs above ws (layer ∷ layers) h t r =
      let upper = h.0 in
      let rest = h.1 in
      let lower = rest.0 in (
        attached-layer above layer (targets_at ws 0) (targets_at (behind ws) 0) (under_of inputs layers).width upper.each lower.each lower.some t.0 r.0,
        attached-under inputs layer (behind ws) layers h.1 t.1 r.1,
      )

  pub attached-reduced : (inputs : ℕ) (ws : List (List ℕ)) (layers : List (Layer A)) → AreLayers o inputs layers → AreTargets inputs ws layers → IsReducedWith o ws layers → IsReducedAsserting o (attached_layers o ws layers)
  attached-reduced inputs ws [] h t r = tt
  attached-reduced inputs ws (layer ∷ layers) h t r = attached-under inputs layer ws layers h t r

  -- a single layer has no inner one
  pub attached-single : (ws : List (List ℕ)) (layers : List (Layer A)) → length layers ≡ 1 → IsReducedAsserting o (attached_layers o ws layers)
  attached-single ws [] e = tt
  attached-single ws (layer ∷ []) e = tt
  attached-single ws (layer ∷ next ∷ layers) e = absurd (omega (arith, e))
