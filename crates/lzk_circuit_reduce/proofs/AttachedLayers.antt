-- Layers with assertion wires behind their own are those of a circuit of version 2, whose checks are the outputs and the values of the asserted wires.
use Rattle.std.specs.Prelude.{◌≡◌, ◌≢◌, ℕ, ◌+◌, ◌-◌, ◌<◌, ◌≤◌, ◌==◌, ◌&&◌, cond, Option, Some, None, List, [], ◌∷◌, ◌++◌, length, map}
use Rattle.std.specs.List.{filter, range_with_len}
use Rattle.std.proofs.Common.{inl, inr, zero, suc, refl, sym, ap, ◌∙◌, arith, subst, get_or}
use Rattle.std.proofs.Math.ListN.{replicate}
use Rattle.std.proofs.lemmas.Bool.{cases_lt, eq-eqb, ne_eqb}
use Rattle.std.proofs.lemmas.List.{length-append, length-map, append-nil, ext_get_or, get_or-map, get_or_append_left, get_or-append_right, append_assoc}
use Rattle.std.proofs.lemmas.List.FromFn.{length-map-range_with_len, get_or-map-range_with_len}
use Rattle.lzk_circuit.specs.Limits.{most_wires, most_total}
use Rattle.lzk_field.specs.Ring.{Ops, Laws}
use Rattle.lzk_field.specs.Sums.{entry}
use Rattle.lzk_field.proofs.RingBasics.{zero_plus, one_times}
use Rattle.lzk_circuit.specs.declared.layer.Term.{Term}
use Rattle.lzk_circuit.specs.declared.layer.Layer.{Layer}
use Rattle.lzk_circuit.specs.Checks.{is_assertion, assertion_wires, asserted, output_checks, inner_checks, checks_of, assertion_count, check_count}
use Rattle.lzk_circuit.specs.Valid.{under_of, AreTerms, AreLayers, IsLayerOf, AreLayersOf}
use Rattle.lzk_circuit.specs.Wires.{is_at, coef, zero_of, zero_at, wire, layer_values, wires_of}
use Rattle.lzk_circuit.proofs.AssertLaws.{zero_of-other, wire-ext}
use Rattle.lzk_circuit.proofs.DepthLaws.{wires-width}
use Rattle.lzk_circuit.proofs.TermSums.{wire-terms}
use Rattle.lzk_circuit.proofs.ValidLaws.{zero-only}
use Rattle.lzk_circuit_reduce.specs.Attached.{assertions, attached, attached_layers, AreNarrowWith}
use Rattle.lzk_circuit_reduce.specs.Reduced.{HaveOnes, HaveOnesUnder, terms_of, output_count}
use Rattle.lzk_circuit_reduce.specs.Renumbering.{of_wire, triples}
use Rattle.lzk_circuit_reduce.specs.Rows.{row_value}
use Rattle.lzk_circuit_reduce.specs.Targets.{targets_at, behind, AreBelow, AreTargets, AreAllTerms, target_values, target_count}
use Rattle.lzk_circuit_reduce.proofs.AttachedLaws.{cond-zero, attached-placed, attached-stand, attached-values, attached-asserts, assertion-at, length-assertions, zero-entry}
use Rattle.lzk_circuit_reduce.proofs.RenumberLaws.{wire-value}
use Rattle.lzk_circuit_reduce.proofs.TargetLaws.{behind-at}

pub below-wider : (n m : ℕ) (ws : List ℕ) → n ≤ m → AreBelow n ws → AreBelow m ws
below-wider n m [] le h = tt
below-wider n m (w ∷ ws) le h = (omega (arith, h.0, le), below-wider n m ws le h.1)

module _ {A : Type 0} where
  pub all-terms : (o : Ops A) (inputs : ℕ) (layers : List (Layer A)) → AreLayers o inputs layers → AreAllTerms o inputs layers
  all-terms o inputs [] h = tt
  all-terms o inputs (layer ∷ layers) h = let one = h.0 in (one.each, all-terms o inputs layers h.1)

  pub terms-wider : (o : Ops A) (wires n m : ℕ) (before : Option (Term A)) (ts : List (Term A)) → n ≤ m → AreTerms o wires n before ts → AreTerms o wires m before ts
  terms-wider o wires n m before [] le h = tt
  terms-wider o wires n m before (t ∷ ts) le h =
      let one = h.0 in
      (record { g = one.g; a = one.a; b = omega (arith, one.b, le); coef = one.coef }, h.1, terms-wider o wires n m (Some t) ts le h.2)

  -- ---- how many wires and terms there are

  width-more : (o : Ops A) (inputs : ℕ) (ws : List (List ℕ)) (layers : List (Layer A)) → (under_of inputs layers).width ≤ (under_of inputs (attached_layers o ws layers)).width
  width-more o inputs ws [] = omega arith
  width-more o inputs ws (layer ∷ layers) = omega arith

  all-wires : (o : Ops A) (inputs : ℕ) (ws : List (List ℕ)) (layers : List (Layer A)) → (under_of inputs (attached_layers o ws layers)).wires ≡ (under_of inputs layers).wires + target_count ws layers
  all-wires o inputs ws [] = refl
  all-wires o inputs ws (layer ∷ layers) = omega (arith, all-wires o inputs (behind ws) layers)

  terms-count : (o : Ops A) (inputs : ℕ) (ws : List (List ℕ)) (layers : List (Layer A)) → (under_of inputs (attached_layers o ws layers)).terms ≡ (under_of inputs layers).terms + target_count ws layers
  terms-count o inputs ws [] = refl
  terms-count o inputs ws (layer ∷ layers) =
      let us = assertions o layer.wires (targets_at ws 0) in
      let own : length (layer.terms ++ us) ≡ length layer.terms + length (targets_at ws 0) = length-append layer.terms us ∙ ap (λ n. length layer.terms + n) (length-assertions o layer.wires (targets_at ws 0)) in
      omega (arith, terms-count o inputs (behind ws) layers, own)

  pub layers-count : (o : Ops A) (ws : List (List ℕ)) (layers : List (Layer A)) → length (attached_layers o ws layers) ≡ length layers
  layers-count o ws [] = refl
  layers-count o ws (layer ∷ layers) = ap suc (layers-count o (behind ws) layers)

  -- the layer at a place
  pub narrow-at : (most : ℕ) (ws : List (List ℕ)) (layers : List (Layer A)) (l : ℕ) (d : Layer A) → l < length layers → AreNarrowWith most ws layers → (get_or layers l d).wires + length (targets_at ws l) ≤ most
  narrow-at most ws [] l d within n = absurd (omega (arith, within))
  narrow-at most ws (layer ∷ layers) zero d within n = n.0
  narrow-at most ws (layer ∷ layers) (suc l) d within n =
      subst (λ xs. (get_or layers l d).wires + length xs ≤ most) (sym (behind-at ws l)) (narrow-at most (behind ws) layers l d (omega (arith, within)) n.1)

  -- a layer of version 2
  placed-layer : (o : Ops A) (inputs : ℕ) (ws : List (List ℕ)) (layer : Layer A) (layers : List (Layer A)) → AreAllTerms o inputs (layer ∷ layers) → AreTargets inputs ws (layer ∷ layers) → AreNarrowWith most_wires ws (layer ∷ layers)
      → 1 ≤ layer.wires + length (targets_at ws 0) → (under_of inputs (layer ∷ layers)).wires + target_count ws (layer ∷ layers) ≤ most_total → (under_of inputs (layer ∷ layers)).terms + target_count ws (layer ∷ layers) ≤ most_total
      → IsLayerOf o 2 (under_of inputs (attached_layers o (behind ws) layers)) (attached o layer (targets_at ws 0))
  placed-layer o inputs ws layer layers terms t narrow some wires all =
      let own = targets_at ws 0 in
      let low = attached_layers o (behind ws) layers in
      let wide = width-more o inputs (behind ws) layers in
      let us = assertions o layer.wires own in
      let many : length (layer.terms ++ us) ≡ length layer.terms + length own = length-append layer.terms us ∙ ap (λ n. length layer.terms + n) (length-assertions o layer.wires own) in
      let each : AreTerms o layer.wires (under_of inputs low).width None layer.terms = terms-wider o layer.wires (under_of inputs layers).width (under_of inputs low).width None layer.terms wide terms.0 in
      record {
        some = some;
        most = narrow.0;
        wires = omega (arith, wires, all-wires o inputs (behind ws) layers);
        terms = omega (arith, all, terms-count o inputs (behind ws) layers, many);
        each = attached-placed o layer own (under_of inputs low).width each (below-wider (under_of inputs layers).width (under_of inputs low).width own wide t.0);
        coefs = attached-stand o layer own (under_of inputs low).width each;
      }

  placed-under : (o : Ops A) (inputs : ℕ) (ws : List (List ℕ)) (layers : List (Layer A)) → AreLayers o inputs layers → AreTargets inputs ws layers → AreNarrowWith most_wires ws layers
      → (under_of inputs layers).wires + target_count ws layers ≤ most_total → (under_of inputs layers).terms + target_count ws layers ≤ most_total → AreLayersOf o 2 inputs (attached_layers o ws layers)
  placed-under o inputs ws [] h t narrow wires all = tt
  placed-under o inputs ws (layer ∷ layers) h t narrow wires all =
      let one = h.0 in (
        placed-layer o inputs ws layer layers (all-terms o inputs (layer ∷ layers) h) t narrow (omega (arith, one.some)) wires all,
        placed-under o inputs (behind ws) layers h.1 t.1 narrow.1 (omega (arith, wires)) (omega (arith, all)),
      )

  pub attached-layers : (o : Ops A) (inputs : ℕ) (ws : List (List ℕ)) (layers : List (Layer A)) → 1 ≤ length layers → AreAllTerms o inputs layers → (2 ≤ length layers → AreLayers o inputs layers) → AreTargets inputs ws layers → AreNarrowWith most_wires ws layers
      → 1 ≤ output_count layers + length (targets_at ws 0) → (under_of inputs layers).wires + target_count ws layers ≤ most_total → (under_of inputs layers).terms + target_count ws layers ≤ most_total
      → AreLayersOf o 2 inputs (attached_layers o ws layers)
  attached-layers o inputs ws [] many terms h t narrow some wires all = absurd (omega (arith, many))
  attached-layers o inputs ws (layer ∷ []) many terms h t narrow some wires all = (placed-layer o inputs ws layer [] terms t narrow some wires all, tt)
  attached-layers o inputs ws (layer ∷ next ∷ layers) many terms h t narrow some wires all =
      (placed-layer o inputs ws layer (next ∷ layers) terms t narrow some wires all, placed-under o inputs (behind ws) (next ∷ layers) (h (omega arith)).1 t.1 narrow.1 (omega (arith, wires)) (omega (arith, all)))

module _ {A : Type 0} (o : Ops A) (size : ℕ) (number : A → ℕ) (element : ℕ → A) (bytes : ℕ) (laws : Laws o size number element bytes) where
  open o use {plus, times}

  nonzero : (x : A) → x ≢ o.zero → number x ≢ 0
  nonzero x n z = n (zero-only o size number element bytes laws.numbers x z)

  -- ---- the assertion wires

  not-asserted : (wires width : ℕ) (before : Option (Term A)) (ts us : List (Term A)) → AreTerms o wires width before ts → filter (is_assertion number) (ts ++ us) ≡ filter (is_assertion number) us
  not-asserted wires width before [] us h = refl
  not-asserted wires width before (t ∷ ts) us h =
      let one = h.0 in
      let rest = filter (is_assertion number) (ts ++ us) in
      ap (λ b. cond b (t ∷ rest) rest) (ne_eqb (number t.coef) 0 (nonzero t.coef one.coef)) ∙ not-asserted wires width (Some t) ts us h.2

  all-assert : (g : ℕ) (ws : List ℕ) → filter (is_assertion number) (assertions o g ws) ≡ assertions o g ws
  all-assert g [] = refl
  all-assert g (w ∷ ws) =
      let t : Term A = record { g = g; a = 0; b = w; coef = o.zero } in
      let rest = filter (is_assertion number) (assertions o (g + 1) ws) in
      ap (λ b. cond b (t ∷ rest) rest) (eq-eqb (number o.zero) 0 laws.numbers.zero_number) ∙ ap (λ us. t ∷ us) (all-assert (g + 1) ws)

  asserting-wires : (layer : Layer A) (ws : List ℕ) (width : ℕ) → AreTerms o layer.wires width None layer.terms
      → assertion_wires number (layer.terms ++ assertions o layer.wires ws) ≡ map (λ (t : Term A). t.g) (assertions o layer.wires ws)
  asserting-wires layer ws width h = ap (map (λ (t : Term A). t.g)) (not-asserted layer.wires width None layer.terms (assertions o layer.wires ws) h ∙ all-assert layer.wires ws)

  -- ---- what they count

  asserted-value : (layer : Layer A) (ws : List ℕ) (below : List A) (i : ℕ) → AreTerms o layer.wires (length below) None layer.terms → AreBelow (length below) ws → entry o below 0 ≡ o.one → i < length ws
      → asserted o (layer.terms ++ assertions o layer.wires ws) below (layer.wires + i) ≡ entry o below (get_or ws i 0)
  asserted-value layer ws below i h all one l = attached-asserts o laws.ring layer ws below i h all l ∙ ap (λ x. times x (entry o below (get_or ws i 0))) one ∙ one_times o laws.ring _

  zero-here : (wires width : ℕ) (before : Option (Term A)) (ts us : List (Term A)) (k a b : ℕ) → AreTerms o wires width before ts → zero_at o us k a b ≡ o.zero → zero_at o (ts ++ us) k a b ≡ o.zero
  zero-here wires width before [] us k a b h none = none
  zero-here wires width before (t ∷ ts) us k a b h none =
      let one = h.0 in
      ap (λ x. cond (is_at t k a b) x (zero_at o (ts ++ us) k a b)) (zero_of-other o laws.ring laws.field t.coef one.coef)
      ∙ ap (cond (is_at t k a b) o.zero) (zero-here wires width (Some t) ts us k a b h.2 none) ∙ cond-zero o (is_at t k a b)

  zero-later : (g : ℕ) (ws : List ℕ) (k a b : ℕ) → k < g → zero_at o (assertions o g ws) k a b ≡ o.zero
  zero-later g [] k a b l = refl
  zero-later g (w ∷ ws) k a b l =
      ap (λ p. cond (p && ((a == 0) && (b == w))) (zero_of o o.zero) (zero_at o (assertions o (g + 1) ws) k a b)) (ne_eqb k g (λ e. omega (arith, l, e))) ∙ zero-later (g + 1) ws k a b (omega (arith, l))

  asserted-none : (layer : Layer A) (ws : List ℕ) (below : List A) (k : ℕ) → AreTerms o layer.wires (length below) None layer.terms → k < layer.wires → asserted o (layer.terms ++ assertions o layer.wires ws) below k ≡ o.zero
  asserted-none layer ws below k h l =
      wire-ext o laws.ring (zero_at o (layer.terms ++ assertions o layer.wires ws)) (coef o []) below k (λ a b. zero-here layer.wires (length below) None layer.terms (assertions o layer.wires ws) k a b h (zero-later layer.wires ws k a b l))
      ∙ wire-terms o laws.ring (k + 1) [] below k (omega arith) tt

  inner-are : (layer : Layer A) (ws : List ℕ) (below : List A) → AreTerms o layer.wires (length below) None layer.terms → AreBelow (length below) ws → entry o below 0 ≡ o.one
      → map (asserted o (layer.terms ++ assertions o layer.wires ws) below) (map (λ (t : Term A). t.g) (assertions o layer.wires ws)) ≡ map (entry o below) ws
  inner-are layer ws below h all one =
      let us = assertions o layer.wires ws in
      let f = asserted o (layer.terms ++ us) below in
      let wires = map (λ (t : Term A). t.g) us in
      let d : Term A = record { g = 0; a = 0; b = 0; coef = o.zero } in
      let many : length wires ≡ length ws = length-map us (λ (t : Term A). t.g) ∙ length-assertions o layer.wires ws in
      ext_get_or o.zero (map f wires) (map (entry o below) ws) (length-map wires f ∙ many ∙ sym (length-map ws (entry o below)))
      (λ i l.
      let li : i < length ws = omega (arith, l, length-map wires f, many) in
      get_or-map f wires i 0 o.zero (omega (arith, li, many)) ∙ ap f (get_or-map (λ (t : Term A). t.g) us i d 0 (omega (arith, li, length-assertions o layer.wires ws)) ∙ ap (λ (t : Term A). t.g) (assertion-at o laws.ring layer.wires ws i d li))
      ∙ asserted-value layer ws below i h all one li ∙ sym (get_or-map (entry o below) ws i 0 o.zero li))

  outputs-are : (layer : Layer A) (ws : List ℕ) (below zs : List A) → AreTerms o layer.wires (length below) None layer.terms → AreBelow (length below) ws → entry o (below ++ zs) 0 ≡ o.one
      → output_checks o (attached o layer ws) (below ++ zs) ≡ layer_values o layer below ++ map (entry o (below ++ zs)) ws
  outputs-are layer ws below zs h all one =
      let ts = layer.terms ++ assertions o layer.wires ws in
      let m = layer.wires + length ws in
      let low = below ++ zs in
      let v = wire o (coef o ts) low in
      let f : ℕ → A = λ g. plus (v g) (asserted o ts low g) in
      let front = layer_values o layer below in
      let count : length front ≡ layer.wires = length-map-range_with_len (wire o (coef o layer.terms) below) 0 layer.wires in
      let back = map (entry o low) ws in
      let long : length (front ++ back) ≡ m = omega (arith, length-append front back, count, length-map ws (entry o low)) in
      let wide : length below ≤ length low = omega (arith, length-append below zs) in
      let terms = terms-wider o layer.wires (length below) (length low) None layer.terms wide h in
      let named = below-wider (length below) (length low) ws wide all in
      let zeros : List A = replicate (length ws) o.zero in
      let wires : (k : ℕ) → k < m → v k ≡ entry o (front ++ zeros) k = λ k l. sym (get_or-map-range_with_len v 0 m k k o.zero l (omega arith)) ∙ ap (λ xs. entry o xs k) (attached-values o laws.ring layer ws below zs h all) in
      ext_get_or o.zero (map f (range_with_len 0 m)) (front ++ back) (length-map-range_with_len f 0 m ∙ sym long)
      (λ k l.
      let less : k < m = omega (arith, l, length-map-range_with_len f 0 m) in
      get_or-map-range_with_len f 0 m k k o.zero less (omega arith) ∙ elim (cases_lt k layer.wires) [
        | inl here ↦
            ap (λ x. plus x (asserted o ts low k)) (wires k less ∙ get_or_append_left front zeros o.zero k (omega (arith, here, count))) ∙ ap (plus (entry o front k)) (asserted-none layer ws low k terms here)
            ∙ laws.ring.plus_zero _ ∙ sym (get_or_append_left front back o.zero k (omega (arith, here, count)))
        | inr there ↦
            let i = k - layer.wires in
            let li : i < length ws = omega (arith, less, there) in
            let e : layer.wires + i ≡ k = omega (arith, there) in
            ap (λ x. plus x (asserted o ts low k)) (wires k less ∙ get_or-append_right front zeros layer.wires k o.zero count there ∙ zero-entry o laws.ring (length ws) i) ∙ zero_plus o laws.ring _
            ∙ ap (asserted o ts low) (sym e) ∙ asserted-value layer ws low i terms named one li
            ∙ sym (get_or-append_right front back layer.wires k o.zero count there ∙ get_or-map (entry o low) ws i 0 o.zero li)
      ])

  -- ---- all layers

  same-head : (x y : ℕ × ℕ × A) → x ∷ [] ≡ y ∷ [] → x ≡ y
  same-head x y e = cc

  one-row : (us : List (Term A)) (below : List A) → triples us ≡ (0, 0, o.one) ∷ [] → entry o below 0 ≡ o.one → row_value o below us ≡ o.one
  one-row [] below e one = absurd (omega (arith, ap length e))
  one-row (t ∷ u ∷ us) below e one = absurd (omega (arith, ap length e))
  one-row (t ∷ []) below e one =
      let x : ℕ × ℕ × A = (t.a, t.b, t.coef) in
      let y : ℕ × ℕ × A = (0, 0, o.one) in
      let all = same-head x y e in
      let a : t.a ≡ 0 = ap (λ x. x.0) all in
      let b : t.b ≡ 0 = ap (λ x. x.1) all in
      let c : t.coef ≡ o.one = ap (λ x. x.2) all in
      laws.ring.plus_zero _ ∙ ap (λ x. times x (times (entry o below t.a) (entry o below t.b))) c ∙ one_times o laws.ring _
      ∙ ap (λ k. times (entry o below k) (entry o below t.b)) a ∙ ap (λ k. times (entry o below 0) (entry o below k)) b ∙ ap (λ x. times x (entry o below 0)) one ∙ one_times o laws.ring _ ∙ one

  some-wire : (wires width : ℕ) (before : Option (Term A)) (ts : List (Term A)) → AreTerms o wires width before ts → terms_of 0 ts ≡ (0, 0, o.one) ∷ [] → 1 ≤ wires
  some-wire wires width before [] h e = absurd (omega (arith, ap length e))
  some-wire wires width before (t ∷ ts) h e = let one = h.0 in omega (arith, one.g)

  -- wire 0 of each layer is the one
  one-stands : (layers : List (Layer A)) (inputs : List A) → AreAllTerms o (length inputs) layers → HaveOnesUnder o layers → entry o inputs 0 ≡ o.one → entry o (wires_of o layers inputs) 0 ≡ o.one
  one-stands [] inputs terms ones one = one
  one-stands (layer ∷ layers) inputs terms ones one =
      let below = wires_of o layers inputs in
      let v = wire o (coef o layer.terms) below in
      let each : AreTerms o layer.wires (length below) None layer.terms = subst (λ w. AreTerms o layer.wires w None layer.terms) (sym (wires-width o layers inputs)) terms.0 in
      let some = some-wire layer.wires (length below) None layer.terms each ones.0 in
      get_or-map-range_with_len v 0 layer.wires 0 0 o.zero some (omega arith) ∙ wire-value o laws.ring layer.wires layer.terms below 0 some each
      ∙ one-row (of_wire 0 layer.terms) below ones.0 (one-stands layers inputs terms.1 ones.1 one)

  -- the layers' own wires have the same values, with others behind them
  record Loose (ws : List (List ℕ)) (layers : List (Layer A)) (inputs : List A) : Type 0 where
    pub others : List A
    pub are : wires_of o (attached_layers o ws layers) inputs ≡ wires_of o layers inputs ++ others

  terms-over : (layer : Layer A) (layers : List (Layer A)) (inputs : List A) → AreAllTerms o (length inputs) (layer ∷ layers) → AreTerms o layer.wires (length (wires_of o layers inputs)) None layer.terms
  terms-over layer layers inputs terms = subst (λ w. AreTerms o layer.wires w None layer.terms) (sym (wires-width o layers inputs)) terms.0

  own-below : (ws : List (List ℕ)) (layer : Layer A) (layers : List (Layer A)) (inputs : List A) → AreTargets (length inputs) ws (layer ∷ layers) → AreBelow (length (wires_of o layers inputs)) (targets_at ws 0)
  own-below ws layer layers inputs t = subst (λ w. AreBelow w (targets_at ws 0)) (sym (wires-width o layers inputs)) t.0

  loose : (ws : List (List ℕ)) (layers : List (Layer A)) (inputs : List A) → AreAllTerms o (length inputs) layers → AreTargets (length inputs) ws layers → Loose ws layers inputs
  loose ws [] inputs terms t = record { others = []; are = sym (append-nil inputs) }
  loose ws (layer ∷ layers) inputs terms t =
      let own = targets_at ws 0 in
      let low = loose (behind ws) layers inputs terms.1 t.1 in
      record {
        others = replicate (length own) o.zero;
        are = ap (layer_values o (attached o layer own)) low.are ∙ attached-values o laws.ring layer own (wires_of o layers inputs) low.others (terms-over layer layers inputs terms) (own-below ws layer layers inputs t);
      }

  front-values : (ws : List ℕ) (below zs : List A) → AreBelow (length below) ws → map (entry o (below ++ zs)) ws ≡ map (entry o below) ws
  front-values [] below zs h = refl
  front-values (w ∷ ws) below zs h = ap (λ x. x ∷ map (entry o (below ++ zs)) ws) (get_or_append_left below zs o.zero w h.0) ∙ ap (λ xs. entry o below w ∷ xs) (front-values ws below zs h.1)

  front-one : (below zs : List A) → entry o below 0 ≡ o.one → 1 ≤ length below → entry o (below ++ zs) 0 ≡ o.one
  front-one below zs one some = get_or_append_left below zs o.zero 0 some ∙ one

  some-below : (layers : List (Layer A)) (inputs : List A) → AreAllTerms o (length inputs) layers → HaveOnesUnder o layers → 1 ≤ length inputs → 1 ≤ length (wires_of o layers inputs)
  some-below [] inputs terms ones some = some
  some-below (layer ∷ layers) inputs terms ones some = omega (arith, wires-width o (layer ∷ layers) inputs, some-wire layer.wires (under_of (length inputs) layers).width None layer.terms terms.0 ones.0)

  inner-attached : (ws : List (List ℕ)) (layers : List (Layer A)) (inputs : List A) → AreAllTerms o (length inputs) layers → AreTargets (length inputs) ws layers → HaveOnesUnder o layers → 1 ≤ length inputs → entry o inputs 0 ≡ o.one
      → inner_checks o number (attached_layers o ws layers) inputs ≡ target_values o ws layers inputs
  inner-attached ws [] inputs terms t ones some one = refl
  inner-attached ws (layer ∷ layers) inputs terms t ones some one =
      let own = targets_at ws 0 in
      let below = wires_of o layers inputs in
      let low = loose (behind ws) layers inputs terms.1 t.1 in
      let all = layer.terms ++ assertions o layer.wires own in
      let rest = inner_checks o number (attached_layers o (behind ws) layers) inputs in
      let wide : length below ≤ length (below ++ low.others) = omega (arith, length-append below low.others) in
      let over = terms-over layer layers inputs terms in
      let named = own-below ws layer layers inputs t in
      ap (λ xs. map (asserted o all xs) (assertion_wires number all) ++ rest) low.are
      ∙ ap (λ xs. map (asserted o all (below ++ low.others)) xs ++ rest) (asserting-wires layer own (length below) over)
      ∙ ap (λ xs. xs ++ rest) (inner-are layer own (below ++ low.others) (terms-wider o layer.wires (length below) (length (below ++ low.others)) None layer.terms wide over) (below-wider (length below) (length (below ++ low.others)) own wide named)
      (front-one below low.others (one-stands layers inputs terms.1 ones.1 one) (some-below layers inputs terms.1 ones.1 some)))
      ∙ ap (λ xs. xs ++ rest) (front-values own below low.others named) ∙ ap (λ xs. map (entry o below) own ++ xs) (inner-attached (behind ws) layers inputs terms.1 t.1 ones.1 some one)

  pub attached-checks : (ws : List (List ℕ)) (layers : List (Layer A)) (inputs : List A) → 1 ≤ length layers → AreAllTerms o (length inputs) layers → AreTargets (length inputs) ws layers → HaveOnes o layers → 1 ≤ length inputs → entry o inputs 0 ≡ o.one
      → checks_of o number (attached_layers o ws layers) inputs ≡ wires_of o layers inputs ++ target_values o ws layers inputs
  attached-checks ws [] inputs many terms t ones some one = absurd (omega (arith, many))
  attached-checks ws (layer ∷ layers) inputs many terms t ones some one =
      let own = targets_at ws 0 in
      let below = wires_of o layers inputs in
      let low = loose (behind ws) layers inputs terms.1 t.1 in
      let rest = inner_checks o number (attached_layers o (behind ws) layers) inputs in
      let named = own-below ws layer layers inputs t in
      let front = layer_values o layer below in
      ap (λ xs. output_checks o (attached o layer own) xs ++ rest) low.are
      ∙ ap (λ xs. xs ++ rest) (outputs-are layer own below low.others (terms-over layer layers inputs terms) named (front-one below low.others (one-stands layers inputs terms.1 ones one) (some-below layers inputs terms.1 ones some)))
      ∙ ap (λ xs. (front ++ xs) ++ rest) (front-values own below low.others named)
      ∙ ap (λ xs. (front ++ map (entry o below) own) ++ xs) (inner-attached (behind ws) layers inputs terms.1 t.1 ones some one)
      ∙ append_assoc front (map (entry o below) own) (target_values o (behind ws) layers inputs)

  inner-count : (inputs : ℕ) (ws : List (List ℕ)) (layers : List (Layer A)) → AreAllTerms o inputs layers → assertion_count number (attached_layers o ws layers) ≡ target_count ws layers
  inner-count inputs ws [] terms = refl
  inner-count inputs ws (layer ∷ layers) terms =
      let own = targets_at ws 0 in
      let us = assertions o layer.wires own in
      omega (arith, ap length (asserting-wires layer own (under_of inputs layers).width terms.0), length-map us (λ (t : Term A). t.g), length-assertions o layer.wires own, inner-count inputs (behind ws) layers terms.1)

  pub attached-count : (inputs : ℕ) (ws : List (List ℕ)) (layers : List (Layer A)) → AreAllTerms o inputs layers → check_count number (attached_layers o ws layers) ≡ output_count layers + target_count ws layers
  attached-count inputs ws [] terms = refl
  attached-count inputs ws (layer ∷ layers) terms = omega (arith, inner-count inputs (behind ws) layers terms.1)
