-- Layers of which each wire is used.
use Rattle.std.specs.Prelude.{◌≡◌, ℕ, ◌+◌, ◌<◌, ◌≤◌, ◌==◌, ◌||◌, Bool, true, None, List, [], ◌∷◌, length}
use Rattle.std.proofs.Common.{◌⊎◌, zero, suc, inl, inr, sym, ◌∙◌, arith, subst, get_or}
use Rattle.std.proofs.lemmas.Bool.{or_cases, eqb-true}
use Rattle.lzk_field.specs.Ring.{Ops}
use Rattle.lzk_circuit.specs.declared.layer.Term.{Term}
use Rattle.lzk_circuit.specs.declared.layer.Layer.{Layer}
use Rattle.lzk_circuit.specs.Valid.{AreTerms, AreLayers}
use Rattle.lzk_circuit_reduce.specs.Marks.{is_marked}
use Rattle.lzk_circuit_reduce.specs.Asserting.{AreUsedWith, AreUsedUnderWith, AreAllUsedWith}
use Rattle.lzk_circuit_reduce.specs.Reduced.{IsNamed}
use Rattle.lzk_circuit_reduce.proofs.TargetLaws.{behind-at}
use Rattle.lzk_circuit_reduce.specs.Targets.{targets_at, behind, is_in, AreBelow, AreTargets}

module _ {A : Type 0} where
  -- a term of some names its wires
  pub named-first : (ts : List (Term A)) (i g : ℕ) (d : Term A) → i < length ts → (get_or ts i d).a ≡ g → IsNamed ts g
  named-first [] i g d l e = absurd (omega (arith, l))
  named-first (t ∷ ts) zero g d l e = inl (inl e)
  named-first (t ∷ ts) (suc i) g d l e = inr (named-first ts i g d (omega (arith, l)) e)

  pub named-second : (ts : List (Term A)) (i g : ℕ) (d : Term A) → i < length ts → (get_or ts i d).b ≡ g → IsNamed ts g
  named-second [] i g d l e = absurd (omega (arith, l))
  named-second (t ∷ ts) zero g d l e = inl (inr e)
  named-second (t ∷ ts) (suc i) g d l e = inr (named-second ts i g d (omega (arith, l)) e)

  -- marks are of wires that were marked before, or that a term names; a term's wires more are marked
  pub named-more : (ts : List (Term A)) (i : ℕ) (d e : Term A) (old marks more : List Bool) → i < length ts → ((k : ℕ) → is_marked more k ≡ (is_marked marks k || (((get_or ts i d).a == k) || ((get_or ts i e).b == k))))
      → ((k : ℕ) → is_marked marks k ≡ true → (is_marked old k ≡ true) ⊎ IsNamed ts k) → (k : ℕ) → is_marked more k ≡ true → (is_marked old k ≡ true) ⊎ IsNamed ts k
  named-more ts i d e old marks more l with_both h k m = elim (or_cases (is_marked marks k) (((get_or ts i d).a == k) || ((get_or ts i e).b == k)) (sym (with_both k) ∙ m)) [
    | inl before ↦ h k before
    | inr both ↦ elim (or_cases ((get_or ts i d).a == k) ((get_or ts i e).b == k) both) [
      | inl first ↦ inr (named-first ts i k d l (eqb-true (get_or ts i d).a k first))
      | inr second ↦ inr (named-second ts i k e l (eqb-true (get_or ts i e).b k second))
    ]
  ]

  -- a layer whose wires are all marked as named or asserted, or are wire 0
  pub used-of-marks : (above layer : Layer A) (ws : List ℕ) (ts : List (Term A)) (first below more : List Bool) → ts ≡ above.terms → length more ≡ layer.wires
      → ((k : ℕ) → k < layer.wires → is_marked first k ≡ (k == 0))
      → ((k : ℕ) → is_marked below k ≡ true → (is_marked first k ≡ true) ⊎ IsNamed ts k)
      → ((k : ℕ) → is_marked more k ≡ (is_marked below k || is_in ws k)) → ((k : ℕ) → k < length more → is_marked more k ≡ true) → AreUsedWith above ws layer
  used-of-marks above layer ws ts first below more e count least named with_ws all g some l = elim (or_cases (is_marked below g) (is_in ws g) (sym (with_ws g) ∙ all g (omega (arith, l, count)))) [
    | inr asserted ↦ inr asserted
    | inl here ↦ elim (named g here) [
      | inl zeroth ↦ absurd (omega (arith, eqb-true g 0 (sym (least g l) ∙ zeroth), some))
      | inr k ↦ inl (subst (λ us. IsNamed us g) e k)
    ]
  ]

  -- each of the first l layers but one uses the next one
  abbrev pub AreUsedTo : ℕ → List (List ℕ) → List (Layer A) → Type 0
  AreUsedTo l ws layers = (i : ℕ) (d : Layer A) → i + 1 < l → AreUsedWith (get_or layers i d) (targets_at ws i) (get_or layers (suc i) d)

  used_under : (above : Layer A) (ws : List (List ℕ)) (layers : List (Layer A)) → AreUsedTo (length (above ∷ layers)) ws (above ∷ layers) → AreUsedUnderWith above ws layers
  used_under above ws [] h = tt
  used_under above ws (layer ∷ layers) h =
      (h 0 layer (omega arith), used_under layer (behind ws) layers (λ i d l. subst (λ xs. AreUsedWith (get_or (layer ∷ layers) i d) xs (get_or (layer ∷ layers) (suc i) d)) (behind-at ws i) (h (suc i) d (omega (arith, l)))))

  pub all-used : (ws : List (List ℕ)) (layers : List (Layer A)) (l : ℕ) → length layers ≤ l → AreUsedTo l ws layers → AreAllUsedWith ws layers
  all-used ws [] l e h = tt
  all-used ws (layer ∷ layers) l e h = used_under layer ws layers (λ i d k. h i d (omega (arith, k, e)))

  -- the terms of a layer stand over the wires of the next one
  pub inner-terms : (o : Ops A) (inputs : ℕ) (layers : List (Layer A)) (i : ℕ) (d : Layer A) → i + 1 < length layers → AreLayers o inputs layers → AreTerms o (get_or layers i d).wires (get_or layers (suc i) d).wires None (get_or layers i d).terms
  inner-terms o inputs [] i d l h = absurd (omega (arith, l))
  inner-terms o inputs (x ∷ []) i d l h = absurd (omega (arith, l))
  inner-terms o inputs (x ∷ y ∷ ys) zero d l h = let one = h.0 in one.each
  inner-terms o inputs (x ∷ y ∷ ys) (suc i) d l h = inner-terms o inputs (y ∷ ys) i d (omega (arith, l)) h.1

  -- what such a layer asserts
  pub inner-targets : (inputs : ℕ) (ws : List (List ℕ)) (layers : List (Layer A)) (i : ℕ) (d : Layer A) → i + 1 < length layers → AreTargets inputs ws layers → AreBelow (get_or layers (suc i) d).wires (targets_at ws i)
  inner-targets inputs ws [] i d l t = absurd (omega (arith, l))
  inner-targets inputs ws (x ∷ []) i d l t = absurd (omega (arith, l))
  inner-targets inputs ws (x ∷ y ∷ ys) zero d l t = t.0
  inner-targets inputs ws (x ∷ y ∷ ys) (suc i) d l t =
      subst (AreBelow (get_or (y ∷ ys) (suc i) d).wires) (sym (behind-at ws i)) (inner-targets inputs (behind ws) (y ∷ ys) i d (omega (arith, l)) t.1)
