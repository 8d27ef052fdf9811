-- The layers of version 1 among those of both versions, for the crates that build them.
use Rattle.std.specs.Prelude.{◌≡◌, ◌≢◌, ◌⊎◌, ℕ, ◌≤◌, ◌+◌, Option, Some, None, List, [], ◌∷◌, length}
use Rattle.std.proofs.Common.{inl, inr, refl, arith, subst}
use Rattle.lzk_field.specs.Ring.{Ops}
use Rattle.lzk_circuit.specs.declared.layer.Term.{Term}
use Rattle.lzk_circuit.specs.declared.layer.Layer.{Layer}
use Rattle.lzk_circuit.specs.Limits.{most_publics, most_privates, most_layers}
use Rattle.lzk_circuit.specs.Valid.{Wiring, wiring, wiring_of, input_width, Under, under_of, ArePlaced, AreApart, MayStand, MayEachStand, AreTerms, IsLayer, AreLayers, IsLayerOf, AreLayersOf, IsValid}
use Rattle.lzk_circuit.proofs.OrderLaws.{terms-placed}

module _ {A : Type 0} (o : Ops A) where
  -- ---- terms of version 1

  one-stands : (before : Option (Term A)) (t : Term A) → t.coef ≢ o.zero → MayStand o 1 before t
  one-stands before t h = record { nonzero = λ e. h; apart = λ n. absurd (n refl) }

  pub terms-stand : (wires width : ℕ) (before : Option (Term A)) (ts : List (Term A)) → AreTerms o wires width before ts → MayEachStand o 1 before ts
  terms-stand wires width before [] h = tt
  terms-stand wires width before (t ∷ ts) h = let one = h.0 in (one-stands before t one.coef, terms-stand wires width (Some t) ts h.2)

  terms-one : (wires width : ℕ) (before : Option (Term A)) (ts : List (Term A)) → ArePlaced wires width before ts → MayEachStand o 1 before ts → AreTerms o wires width before ts
  terms-one wires width before [] h coefs = tt
  terms-one wires width before (t ∷ ts) h coefs =
      let one = h.0 in
      let c = coefs.0 in
      (record { g = one.g; a = one.a; b = one.b; coef = c.nonzero refl }, h.1, terms-one wires width (Some t) ts h.2 coefs.1)

  pub layer-stands : (under : Under) (layer : Layer A) → IsLayer o under layer → IsLayerOf o 1 under layer
  layer-stands under layer h = record {
    some = h.some;
    most = h.most;
    wires = h.wires;
    terms = h.terms;
    each = terms-placed o layer.wires under.width None layer.terms h.each;
    coefs = terms-stand layer.wires under.width None layer.terms h.each;
  }

  layer-one : (under : Under) (layer : Layer A) → IsLayerOf o 1 under layer → IsLayer o under layer
  layer-one under layer h = record { some = h.some; most = h.most; wires = h.wires; terms = h.terms; each = terms-one layer.wires under.width None layer.terms h.each h.coefs }

  pub layers-stand : (inputs : ℕ) (layers : List (Layer A)) → AreLayers o inputs layers → AreLayersOf o 1 inputs layers
  layers-stand inputs [] h = tt
  layers-stand inputs (layer ∷ layers) h = (layer-stands (under_of inputs layers) layer h.0, layers-stand inputs layers h.1)

  pub layers-one : (inputs : ℕ) (layers : List (Layer A)) → AreLayersOf o 1 inputs layers → AreLayers o inputs layers
  layers-one inputs [] h = tt
  layers-one inputs (layer ∷ layers) h = (layer-one (under_of inputs layers) layer h.0, layers-one inputs layers h.1)

  -- a circuit of version 1 has layers of version 1
  pub valid-one : (c : Wiring A) → c.version ≡ 1 → IsValid o c → AreLayers o (input_width c) c.layers
  valid-one c one valid = layers-one (input_width c) c.layers (subst (λ v. AreLayersOf o v (input_width c) c.layers) one valid.layers)

  pub one-valid : (publics privates : ℕ) (layers : List (Layer A)) → publics ≤ most_publics → privates ≤ most_privates → 1 ≤ length layers → length layers ≤ most_layers → AreLayers o (1 + publics + privates) layers
      → IsValid o (wiring publics privates layers)
  one-valid publics privates layers p q some few h = record {
    version = inl refl;
    publics = p;
    privates = q;
    some = some;
    depth = few;
    layers = layers-stand (1 + publics + privates) layers h;
  }

  -- ---- what version 1 takes, version 2 takes

  two-apart : (before : Option (Term A)) (t : Term A) → ((s : Term A) → before ≡ Some s → s.coef ≢ o.zero) → t.coef ≢ o.zero → AreApart o before t
  two-apart None t all h = tt
  two-apart (Some s) t all h = λ same. (all s refl, h)

  terms-two : (before : Option (Term A)) (ts : List (Term A)) → ((s : Term A) → before ≡ Some s → s.coef ≢ o.zero) → MayEachStand o 1 before ts → MayEachStand o 2 before ts
  terms-two before [] all h = tt
  terms-two before (t ∷ ts) all h =
      let one = h.0 in
      let coef = one.nonzero refl in (
        record { nonzero = λ (e : 2 ≡ 1). absurd (omega (arith, e)); apart = λ n. two-apart before t all coef },
        terms-two (Some t) ts (λ s e. let same : t ≡ s = cc in subst (λ (x : Term A). x.coef ≢ o.zero) same coef) h.1,
      )

  pub layers-two : (version inputs : ℕ) (layers : List (Layer A)) → (version ≡ 1) ⊎ (version ≡ 2) → AreLayersOf o version inputs layers → AreLayersOf o 2 inputs layers
  layers-two version inputs [] is h = tt
  layers-two version inputs (layer ∷ layers) is h =
      let one = h.0 in
      let coefs : MayEachStand o 2 None layer.terms = elim is [
        | inl e ↦ terms-two None layer.terms (λ s n. absurd cc) (subst (λ v. MayEachStand o v None layer.terms) e one.coefs)
        | inr e ↦ subst (λ v. MayEachStand o v None layer.terms) e one.coefs
      ] in
      (record { some = one.some; most = one.most; wires = one.wires; terms = one.terms; each = one.each; coefs = coefs }, layers-two version inputs layers is h.1)

  pub upgraded-valid : (c : Wiring A) → IsValid o c → IsValid o (wiring_of 2 c.publics c.privates c.layers)
  upgraded-valid c h = record {
    version = inr refl;
    publics = h.publics;
    privates = h.privates;
    some = h.some;
    depth = h.depth;
    layers = layers-two c.version (input_width c) c.layers h.version h.layers;
  }
