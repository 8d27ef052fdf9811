-- There is no fault exactly where a circuit is valid.
use Rattle.std.specs.Prelude.{◌≡◌, ◌≢◌, ◌⊎◌, ℕ, ◌+◌, ◌==◌, ◌&&◌, ◌||◌, nat_lt, nat_le, not, true, false, Bool, cond, Option, Some, None, List, [], ◌∷◌, length}
use Rattle.std.proofs.Common.{inl, inr, refl, sym, ap, ◌∙◌}
use Rattle.std.proofs.lemmas.Bool.{eqb-false, ltb-true, lt-ltb, leb-true, le-leb, eq-eqb, ne_eqb, cases_eq, or_cases, and_parts, and_from, not-true}
use Rattle.std.proofs.Math.Bool.{or-true}
use Rattle.lzk_field.specs.Ring.{Ops, NumberLaws}
use Rattle.lzk_circuit.specs.declared.layer.Term.{Term}
use Rattle.lzk_circuit.specs.declared.layer.Layer.{Layer}
use Rattle.lzk_circuit.specs.declared.fault.CircuitKind.{CircuitKind}
use Rattle.lzk_circuit.specs.declared.fault.CircuitKind.TheVariants.{Range, Order, ZeroCoef, Assertion}
use Rattle.lzk_circuit.specs.declared.fault.CircuitFault.{CircuitFault}
use Rattle.lzk_circuit.specs.Limits.{most_publics, most_privates, most_layers, most_wires, most_total}
use Rattle.lzk_circuit.specs.Valid.{Under, under_of, follows, IsPlaced, ArePlaced, AreApart, MayStand, MayEachStand, IsLayerOf, AreLayersOf, IsValid, wiring_of}
use Rattle.lzk_circuit.specs.Faults.{first_of, unless, over_limit, at_term, are_apart, coef_fault, term_fault, terms_fault, limits_fault, layer_fault, layers_fault, counts_fault, first_fault}

both-none : {X : Type 0} (x y : Option X) → first_of x y ≡ None → (x ≡ None) × (y ≡ None)
both-none None y e = (refl, e)
both-none (Some x) y e = cc

passes : {X : Type 0} (b : Bool) (f : X) → unless b f ≡ None → b ≡ true
passes true f e = refl
passes false f e = cc

pass : {X : Type 0} (b : Bool) (f : X) → b ≡ true → unless b f ≡ None
pass b f e = ap (λ x. unless x f) e

both : {X : Type 0} (x y : Option X) → x ≡ None → y ≡ None → first_of x y ≡ None
both x y e f = ap (λ z. first_of z y) e ∙ f

at-none : (l i : ℕ) (kind : Option CircuitKind) → at_term l i kind ≡ None → kind ≡ None
at-none l i None e = refl
at-none l i (Some kind) e = cc

module _ {A : Type 0} (o : Ops A) (size : ℕ) (number : A → ℕ) (element : ℕ → A) (bytes : ℕ) (laws : NumberLaws o size number element bytes) where
  pub zero-only : (x : A) → number x ≡ 0 → x ≡ o.zero
  zero-only x e = sym (laws.element_number x) ∙ ap element (e ∙ sym laws.zero_number) ∙ laws.element_number o.zero

  -- an element is tested for 0 by its number
  pub nonzero-from : (x : A) → not (number x == 0) ≡ true → x ≢ o.zero
  nonzero-from x e = let n = eqb-false (number x) 0 (not-true (number x == 0) e) in λ z. n (ap number z ∙ laws.zero_number)

  pub nonzero-to : (x : A) → x ≢ o.zero → not (number x == 0) ≡ true
  nonzero-to x h = ap not (ne_eqb (number x) 0 (λ z. h (zero-only x z)))

  pub apart-from : (before : Option (Term A)) (t : Term A) → are_apart number before t ≡ true → AreApart o before t
  apart-from None t e = tt
  apart-from (Some s) t e = λ same.
      let both = not (number s.coef == 0) && not (number t.coef == 0) in
      elim (or_cases (not (s.g == t.g)) both e) [
        | inl other ↦ absurd (eqb-false s.g t.g (not-true (s.g == t.g) other) same)
        | inr h ↦ let p = and_parts (not (number s.coef == 0)) (not (number t.coef == 0)) h in (nonzero-from s.coef p.0, nonzero-from t.coef p.1)
      ]

  pub apart-to : (before : Option (Term A)) (t : Term A) → AreApart o before t → are_apart number before t ≡ true
  apart-to None t h = refl
  apart-to (Some s) t h =
      let both = not (number s.coef == 0) && not (number t.coef == 0) in
      elim (cases_eq s.g t.g) [
        | inl same ↦ let p = h same in
            ap (λ x. not (s.g == t.g) || x) (and_from (not (number s.coef == 0)) (not (number t.coef == 0)) (nonzero-to s.coef p.0) (nonzero-to t.coef p.1)) ∙ or-true (not (s.g == t.g))
        | inr other ↦ ap (λ x. not x || both) (ne_eqb s.g t.g other)
      ]

  coef-from : (version : ℕ) (before : Option (Term A)) (t : Term A) → coef_fault number version before t ≡ None → MayStand o version before t
  coef-from version before t e = record {
    nonzero = λ one.
        let n = not (number t.coef == 0) in
        let first : coef_fault number version before t ≡ unless n ZeroCoef = ap (λ x. cond x (unless n ZeroCoef) (unless (are_apart number before t) Assertion)) (eq-eqb version 1 one) in
        nonzero-from t.coef (passes n ZeroCoef (sym first ∙ e));
    apart = λ two.
        let n = not (number t.coef == 0) in
        let second : coef_fault number version before t ≡ unless (are_apart number before t) Assertion = ap (λ x. cond x (unless n ZeroCoef) (unless (are_apart number before t) Assertion)) (ne_eqb version 1 two) in
        apart-from before t (passes (are_apart number before t) Assertion (sym second ∙ e));
  }

  coef-to : (version : ℕ) (before : Option (Term A)) (t : Term A) → MayStand o version before t → coef_fault number version before t ≡ None
  coef-to version before t h =
      let n = not (number t.coef == 0) in
      elim (cases_eq version 1) [
        | inl one ↦ ap (λ x. cond x (unless n ZeroCoef) (unless (are_apart number before t) Assertion)) (eq-eqb version 1 one) ∙ pass n ZeroCoef (nonzero-to t.coef (h.nonzero one))
        | inr two ↦ ap (λ x. cond x (unless n ZeroCoef) (unless (are_apart number before t) Assertion)) (ne_eqb version 1 two)
            ∙ pass (are_apart number before t) Assertion (apart-to before t (h.apart two))
      ]

  module _ (version : ℕ) where
    term-from : (wires width : ℕ) (before : Option (Term A)) (t : Term A) → term_fault number version wires width before t ≡ None
        → IsPlaced wires width t × (follows before t ≡ true) × MayStand o version before t
    term-from wires width before t e =
        let range = nat_lt t.g wires && (nat_le t.a t.b && nat_lt t.b width) in
        let one = both-none (unless range Range) (first_of (unless (follows before t) Order) (coef_fault number version before t)) e in
        let two = both-none (unless (follows before t) Order) (coef_fault number version before t) one.1 in
        let p = and_parts (nat_lt t.g wires) (nat_le t.a t.b && nat_lt t.b width) (passes range Range one.0) in
        let q = and_parts (nat_le t.a t.b) (nat_lt t.b width) p.1 in (
          record { g = ltb-true t.g wires p.0; a = leb-true t.a t.b q.0; b = ltb-true t.b width q.1 },
          passes (follows before t) Order two.0,
          coef-from version before t two.1,
        )

    term-to : (wires width : ℕ) (before : Option (Term A)) (t : Term A) → IsPlaced wires width t → follows before t ≡ true → MayStand o version before t
        → term_fault number version wires width before t ≡ None
    term-to wires width before t h f coefs =
        let range = nat_lt t.g wires && (nat_le t.a t.b && nat_lt t.b width) in
        let in_range : range ≡ true = and_from (nat_lt t.g wires) (nat_le t.a t.b && nat_lt t.b width) (lt-ltb t.g wires h.g) (and_from (nat_le t.a t.b) (nat_lt t.b width) (le-leb t.a t.b h.a) (lt-ltb t.b width h.b)) in
        both (unless range Range) (first_of (unless (follows before t) Order) (coef_fault number version before t)) (pass range Range in_range)
        (both (unless (follows before t) Order) (coef_fault number version before t) (pass (follows before t) Order f) (coef-to version before t coefs))

    terms-from : (l wires width i : ℕ) (before : Option (Term A)) (ts : List (Term A)) → terms_fault number version l wires width before i ts ≡ None
        → ArePlaced wires width before ts × MayEachStand o version before ts
    terms-from l wires width i before [] e = (tt, tt)
    terms-from l wires width i before (t ∷ ts) e =
        let fault = term_fault number version wires width before t in
        let p = both-none (at_term l i fault) (terms_fault number version l wires width (Some t) (i + 1) ts) e in
        let q = term-from wires width before t (at-none l i fault p.0) in
        let rest = terms-from l wires width (i + 1) (Some t) ts p.1 in
        ((q.0, q.1, rest.0), (q.2, rest.1))

    terms-to : (l wires width i : ℕ) (before : Option (Term A)) (ts : List (Term A)) → ArePlaced wires width before ts → MayEachStand o version before ts
        → terms_fault number version l wires width before i ts ≡ None
    terms-to l wires width i before [] h coefs = refl
    terms-to l wires width i before (t ∷ ts) h coefs =
        both (at_term l i (term_fault number version wires width before t)) (terms_fault number version l wires width (Some t) (i + 1) ts)
        (ap (at_term l i) (term-to wires width before t h.0 h.1 coefs.0)) (terms-to l wires width (i + 1) (Some t) ts h.2 coefs.1)

    layer-from : (l : ℕ) (under : Under) (layer : Layer A) → layer_fault number version l under layer ≡ None → IsLayerOf o version under layer
    layer-from l under layer e =
        let k = length layer.terms in
        let p1 = nat_le 1 layer.wires in
        let p2 = nat_le layer.wires most_wires in
        let p3 = nat_le (under.wires + layer.wires) most_total in
        let p4 = nat_le (under.terms + k) most_total in
        let p = both-none (limits_fault l under.wires under.terms layer.wires k) (terms_fault number version l layer.wires under.width None 0 layer.terms) e in
        let q = and_parts p1 (p2 && (p3 && p4)) (passes (p1 && (p2 && (p3 && p4))) (over_limit l) p.0) in
        let r = and_parts p2 (p3 && p4) q.1 in
        let s = and_parts p3 p4 r.1 in
        let each = terms-from l layer.wires under.width 0 None layer.terms p.1 in
        record {
          some = leb-true 1 layer.wires q.0;
          most = leb-true layer.wires most_wires r.0;
          wires = leb-true (under.wires + layer.wires) most_total s.0;
          terms = leb-true (under.terms + k) most_total s.1;
          each = each.0;
          coefs = each.1;
        }

    layer-to : (l : ℕ) (under : Under) (layer : Layer A) → IsLayerOf o version under layer → layer_fault number version l under layer ≡ None
    layer-to l under layer h =
        let k = length layer.terms in
        let p1 = nat_le 1 layer.wires in
        let p2 = nat_le layer.wires most_wires in
        let p3 = nat_le (under.wires + layer.wires) most_total in
        let p4 = nat_le (under.terms + k) most_total in
        both (limits_fault l under.wires under.terms layer.wires k) (terms_fault number version l layer.wires under.width None 0 layer.terms)
        (pass (p1 && (p2 && (p3 && p4))) (over_limit l)
        (and_from p1 (p2 && (p3 && p4)) (le-leb 1 layer.wires h.some) (and_from p2 (p3 && p4) (le-leb layer.wires most_wires h.most)
        (and_from p3 p4 (le-leb (under.wires + layer.wires) most_total h.wires) (le-leb (under.terms + k) most_total h.terms)))))
        (terms-to l layer.wires under.width 0 None layer.terms h.each h.coefs)

    layers-from : (inputs l : ℕ) (layers : List (Layer A)) → layers_fault number version inputs l layers ≡ None → AreLayersOf o version inputs layers
    layers-from inputs l [] e = tt
    layers-from inputs l (layer ∷ layers) e =
        let p = both-none (layers_fault number version inputs (l + 1) layers) (layer_fault number version l (under_of inputs layers) layer) e in
        (layer-from l (under_of inputs layers) layer p.1, layers-from inputs (l + 1) layers p.0)

    layers-to : (inputs l : ℕ) (layers : List (Layer A)) → AreLayersOf o version inputs layers → layers_fault number version inputs l layers ≡ None
    layers-to inputs l [] h = refl
    layers-to inputs l (layer ∷ layers) h =
        both (layers_fault number version inputs (l + 1) layers) (layer_fault number version l (under_of inputs layers) layer) (layers-to inputs (l + 1) layers h.1)
        (layer-to l (under_of inputs layers) layer h.0)

    pub valid-from : (publics privates : ℕ) (layers : List (Layer A)) → (version ≡ 1) ⊎ (version ≡ 2) → first_fault number version publics privates layers ≡ None
        → IsValid o (wiring_of version publics privates layers)
    valid-from publics privates layers is e =
        let k = length layers in
        let p1 = nat_le publics most_publics in
        let p2 = nat_le privates most_privates in
        let p3 = nat_le 1 k in
        let p4 = nat_le k most_layers in
        let p = both-none (counts_fault publics privates k) (layers_fault number version (1 + publics + privates) 0 layers) e in
        let q = and_parts p1 (p2 && (p3 && p4)) (passes (p1 && (p2 && (p3 && p4))) (over_limit 0) p.0) in
        let r = and_parts p2 (p3 && p4) q.1 in
        let s = and_parts p3 p4 r.1 in
        record {
          version = is;
          publics = leb-true publics most_publics q.0;
          privates = leb-true privates most_privates r.0;
          some = leb-true 1 k s.0;
          depth = leb-true k most_layers s.1;
          layers = layers-from (1 + publics + privates) 0 layers p.1;
        }

    pub valid-to : (publics privates : ℕ) (layers : List (Layer A)) → IsValid o (wiring_of version publics privates layers) → first_fault number version publics privates layers ≡ None
    valid-to publics privates layers h =
        let k = length layers in
        let p1 = nat_le publics most_publics in
        let p2 = nat_le privates most_privates in
        let p3 = nat_le 1 k in
        let p4 = nat_le k most_layers in
        both (counts_fault publics privates k) (layers_fault number version (1 + publics + privates) 0 layers)
        (pass (p1 && (p2 && (p3 && p4))) (over_limit 0)
        (and_from p1 (p2 && (p3 && p4)) (le-leb publics most_publics h.publics) (and_from p2 (p3 && p4) (le-leb privates most_privates h.privates)
        (and_from p3 p4 (le-leb 1 k h.some) (le-leb k most_layers h.depth)))))
        (layers-to (1 + publics + privates) 0 layers h.layers)

    pub not-valid : (publics privates : ℕ) (layers : List (Layer A)) (fault : CircuitFault) → first_fault number version publics privates layers ≡ Some fault
        → IsValid o (wiring_of version publics privates layers) → ⊥
    not-valid publics privates layers fault e h = let n : first_fault number version publics privates layers ≡ None = valid-to publics privates layers h in cc

-- the counts pass, so the first fault is that of the layers
pub counts-pass : {A : Type 0} (number : A → ℕ) (version publics privates : ℕ) (layers : List (Layer A)) (fault : Option CircuitFault) → counts_fault publics privates (length layers) ≡ None
    → layers_fault number version (1 + publics + privates) 0 layers ≡ fault → first_fault number version publics privates layers ≡ fault
counts-pass number version publics privates layers fault none h = ap (λ x. first_of x (layers_fault number version (1 + publics + privates) 0 layers)) none ∙ h

pub counts-fail : {A : Type 0} (number : A → ℕ) (version publics privates : ℕ) (layers : List (Layer A)) (fault : CircuitFault) → counts_fault publics privates (length layers) ≡ Some fault
    → first_fault number version publics privates layers ≡ Some fault
counts-fail number version publics privates layers fault some = ap (λ x. first_of x (layers_fault number version (1 + publics + privates) 0 layers)) some
