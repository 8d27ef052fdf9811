-- Layers' marked wires, from the first layer down.
use Rattle.std.specs.Prelude.{◌≡◌, ℕ, ◌<◌, ◌≤◌, ◌==◌, ◌||◌, true, Bool, None, List, [], ◌∷◌, ◌++◌, length, map}
use Rattle.std.proofs.Common.{◌⊎◌, inl, inr, refl, sym, ap, ◌∙◌, arith, subst}
use Rattle.std.proofs.lemmas.Bool.{cases_lt, or_cases, or_left, or_right, eq-eqb, eqb-true}
use Rattle.std.proofs.lemmas.List.{ext_get_or, length-map}
use Rattle.std.proofs.lemmas.List.FromFn.{get_or-map-range_with_len}
use Rattle.lzk_field.specs.Ring.{Ops, RingLaws}
use Rattle.lzk_field.specs.Sums.{entry}
use Rattle.lzk_circuit.specs.declared.layer.Term.{Term}
use Rattle.lzk_circuit.specs.declared.layer.Layer.{Layer}
use Rattle.lzk_circuit.specs.Valid.{under_of, IsLayer, AreTerms, AreLayers}
use Rattle.lzk_circuit.specs.Wires.{coef, wire, layer_values, wires_of}
use Rattle.lzk_circuit.proofs.DepthLaws.{wires-width}
use Rattle.lzk_circuit_reduce.specs.Marks.{is_marked, names, marked_before}
use Rattle.lzk_circuit_reduce.specs.Asserting.{AreUsedUnderWith, AreFewer, AreAsMany}
use Rattle.lzk_circuit_reduce.specs.Reduced.{terms_of, HasOne, HaveOnesUnder, AreDifferent, AreAllDifferent, IsNamed, AreSameOutputs}
use Rattle.lzk_circuit_reduce.specs.Targets.{targets_at, behind, is_in, AreBelow, AreTargets, AreSameTargets, target_values}
use Rattle.lzk_circuit_reduce.specs.Used.{all_true, named_marks, used_terms, used_layer, marks_of_under, used_layers, used_targets}
use Rattle.lzk_circuit_reduce.proofs.MarkedPlaceLaws.{marked-at, places-most, places-up, marked-place, marked-within, all-count, all-marked, all-places}
use Rattle.lzk_circuit_reduce.proofs.TargetLaws.{still-in}
use Rattle.lzk_circuit_reduce.proofs.UsedLayerLaws.{AreMarkedUnder, marked-under, named-count, named-is, named-used, used-short, used-are-terms, used-terms-of, used-same, AreMarkedCopies, used-wire, used_places}

module _ {A : Type 0} where
  pub under-count : (inputs : ℕ) (marks : List Bool) (ts : List (Term A)) (ws : List ℕ) (layers : List (Layer A)) → length (marks_of_under inputs marks ts ws layers) ≡ (under_of inputs layers).width
  under-count inputs marks ts ws [] = all-count inputs
  under-count inputs marks ts ws (layer ∷ layers) = named-count layer.wires marks ts ws

  under-named : (inputs : ℕ) (marks : List Bool) (ts : List (Term A)) (ws : List ℕ) (layers : List (Layer A)) (k : ℕ) → k < (under_of inputs layers).width → names marks ts k ≡ true → is_marked (marks_of_under inputs marks ts ws layers) k ≡ true
  under-named inputs marks ts ws [] k l n = all-marked inputs k l
  under-named inputs marks ts ws (layer ∷ layers) k l n =
      named-is layer.wires marks ts ws k l ∙ or_left ((k == 0) || names marks ts k) (is_in ws k) (or_right (k == 0) (names marks ts k) n)

  pub under-asserted : (inputs : ℕ) (marks : List Bool) (ts : List (Term A)) (ws : List ℕ) (layers : List (Layer A)) (k : ℕ) → k < (under_of inputs layers).width → is_in ws k ≡ true → is_marked (marks_of_under inputs marks ts ws layers) k ≡ true
  under-asserted inputs marks ts ws [] k l n = all-marked inputs k l
  under-asserted inputs marks ts ws (layer ∷ layers) k l n = named-is layer.wires marks ts ws k l ∙ or_right ((k == 0) || names marks ts k) (is_in ws k) n

  -- marks that a layer, or the inputs, can have: wire 0 of a layer is marked, and all inputs are
  abbrev pub AreMarksOf : ℕ → List Bool → List (Layer A) → Type 0
  AreMarksOf inputs marks [] = marks ≡ all_true inputs
  AreMarksOf inputs marks (layer ∷ layers) = (length marks ≡ layer.wires) × (is_marked marks 0 ≡ true)

  pub marks-count : (inputs : ℕ) (marks : List Bool) (layers : List (Layer A)) → AreMarksOf inputs marks layers → length marks ≡ (under_of inputs layers).width
  marks-count inputs marks [] m = ap length m ∙ all-count inputs
  marks-count inputs marks (layer ∷ layers) m = m.0

module _ {A : Type 0} (o : Ops A) where
  pub under-marks : (inputs : ℕ) (marks : List Bool) (ts : List (Term A)) (ws : List ℕ) (layers : List (Layer A)) → AreLayers o inputs layers → AreMarksOf inputs (marks_of_under inputs marks ts ws layers) layers
  under-marks inputs marks ts ws [] h = refl
  under-marks inputs marks ts ws (layer ∷ layers) h = let one = h.0 in (named-count layer.wires marks ts ws, named-is layer.wires marks ts ws 0 one.some)

  pub under-marked : (inputs : ℕ) (marks : List Bool) (ws : List ℕ) (layer : Layer A) (layers : List (Layer A)) → IsLayer o (under_of inputs layers) layer → AreMarkedUnder marks (marks_of_under inputs marks layer.terms ws layers) layer.terms
  under-marked inputs marks ws layer layers h =
      marked-under o layer.wires (under_of inputs layers).width marks (marks_of_under inputs marks layer.terms ws layers) None layer.terms h.each (under-named inputs marks layer.terms ws layers)

  used-width : (inputs : ℕ) (marks : List Bool) (ws : List (List ℕ)) (layers : List (Layer A)) → AreMarksOf inputs marks layers → (under_of inputs (used_layers inputs marks ws layers)).width ≡ marked_before marks (length marks)
  used-width inputs marks ws [] m =
      sym (ap (λ ms. marked_before ms (length ms)) m ∙ ap (marked_before (all_true inputs)) (all-count inputs) ∙ all-places inputs inputs (omega arith))
  used-width inputs marks ws (layer ∷ layers) m = refl

  used-fewer : (inputs : ℕ) (marks : List Bool) (ws : List (List ℕ)) (layers : List (Layer A)) → AreLayers o inputs layers → AreMarksOf inputs marks layers
      → ((under_of inputs (used_layers inputs marks ws layers)).wires ≤ (under_of inputs layers).wires) × ((under_of inputs (used_layers inputs marks ws layers)).terms ≤ (under_of inputs layers).terms)
  used-fewer inputs marks ws [] h m = (omega arith, omega arith)
  used-fewer inputs marks ws (layer ∷ layers) h m =
      let below = marks_of_under inputs marks layer.terms (targets_at ws 0) layers in
      let rest = used-fewer inputs below (behind ws) layers h.1 (under-marks inputs marks layer.terms (targets_at ws 0) layers h.1) in
      (omega (arith, rest.0, places-most marks (length marks), m.0), omega (arith, rest.1, used-short marks below layer.terms))

  pub used-are-layers : (inputs : ℕ) (marks : List Bool) (ws : List (List ℕ)) (layers : List (Layer A)) → AreLayers o inputs layers → AreMarksOf inputs marks layers → AreLayers o inputs (used_layers inputs marks ws layers)
  used-are-layers inputs marks ws [] h m = tt
  used-are-layers inputs marks ws (layer ∷ layers) h m =
      let one = h.0 in
      let below = marks_of_under inputs marks layer.terms (targets_at ws 0) layers in
      let n = under-marks inputs marks layer.terms (targets_at ws 0) layers h.1 in
      let fewer = used-fewer inputs below (behind ws) layers h.1 n in
      let most = places-most marks (length marks) in
      let same : marked_before below (length below) ≡ (under_of inputs (used_layers inputs below (behind ws) layers)).width = sym (used-width inputs below (behind ws) layers n) in
      let each : AreTerms o (length marks) (under_of inputs layers).width None layer.terms = subst (λ w. AreTerms o w (under_of inputs layers).width None layer.terms) (sym m.0) one.each in (
        record {
          some = omega (arith, marked-place marks 0 m.1);
          most = omega (arith, most, m.0, one.most);
          wires = omega (arith, fewer.0, most, m.0, one.wires);
          terms = omega (arith, fewer.1, used-short marks below layer.terms, one.terms);
          each = subst (λ w. AreTerms o (marked_before marks (length marks)) w None (used_terms marks below layer.terms)) same
              (used-are-terms o marks below (length marks) (under_of inputs layers).width layer.terms each (under-marked inputs marks (targets_at ws 0) layer layers one));
        },
        used-are-layers inputs below (behind ws) layers h.1 n,
      )

  used-has-one : (marks below : List Bool) (layer : Layer A) → is_marked marks 0 ≡ true → HasOne o layer → HasOne o (used_layer marks below layer)
  used-has-one marks below layer m h = used-terms-of marks below 0 layer.terms m ∙ ap (used_places below) h

  pub used-have-ones : (inputs : ℕ) (marks : List Bool) (ws : List (List ℕ)) (layers : List (Layer A)) → AreLayers o inputs layers → AreMarksOf inputs marks layers → HaveOnesUnder o layers → HaveOnesUnder o (used_layers inputs marks ws layers)
  used-have-ones inputs marks ws [] h m one = tt
  used-have-ones inputs marks ws (layer ∷ layers) h m one =
      let below = marks_of_under inputs marks layer.terms (targets_at ws 0) layers in (
        used-has-one marks below layer m.1 one.0,
        used-have-ones inputs below (behind ws) layers h.1 (under-marks inputs marks layer.terms (targets_at ws 0) layers h.1) one.1,
      )

  used-differ : (marks below : List Bool) (layer : Layer A) → length marks ≡ layer.wires → AreMarkedUnder marks below layer.terms → AreDifferent layer → AreDifferent (used_layer marks below layer)
  used-differ marks below layer e n d = λ g h l k same.
      let second = marked-at marks (length marks) h k in
      let first = marked-at marks (length marks) g (omega (arith, l, k)) in
      let ts = layer.terms in
      let less : first.wire < second.wire = elim (cases_lt first.wire second.wire) [
        | inl a ↦ a
        | inr a ↦ absurd (omega (arith, l, first.place_is, second.place_is, places-up marks second.wire first.wire a))
      ] in
      let us = used_terms marks below ts in
      d first.wire second.wire less (omega (arith, second.within, e))
      (used-same marks below first.wire second.wire ts first.marked second.marked n (ap (λ x. terms_of x us) first.place_is ∙ same ∙ sym (ap (λ x. terms_of x us) second.place_is)))

  pub used-are-different : (inputs : ℕ) (marks : List Bool) (ws : List (List ℕ)) (layers : List (Layer A)) → AreLayers o inputs layers → AreMarksOf inputs marks layers → AreAllDifferent layers → AreAllDifferent (used_layers inputs marks ws layers)
  used-are-different inputs marks ws [] h m d = tt
  used-are-different inputs marks ws (layer ∷ layers) h m d =
      let below = marks_of_under inputs marks layer.terms (targets_at ws 0) layers in (
        used-differ marks below layer m.0 (under-marked inputs marks (targets_at ws 0) layer layers h.0) d.0,
        used-are-different inputs below (behind ws) layers h.1 (under-marks inputs marks layer.terms (targets_at ws 0) layers h.1) d.1,
      )

module _ {A : Type 0} where
  -- what stays below is named by what stays above, or asserted there
  used-are-named : (marks : List Bool) (ts : List (Term A)) (ws : List ℕ) (width g : ℕ) → 1 ≤ g → g < marked_before (named_marks width marks ts ws) (length (named_marks width marks ts ws))
      → IsNamed (used_terms marks (named_marks width marks ts ws) ts) g ⊎ (is_in (map (marked_before (named_marks width marks ts ws)) ws) g ≡ true)
  used-are-named marks ts ws width g some l =
      let below = named_marks width marks ts ws in
      let w = marked-at below (length below) g l in
      let named = sym (named-is width marks ts ws w.wire (omega (arith, w.within, named-count width marks ts ws))) ∙ w.marked in
      elim (or_cases ((w.wire == 0) || names marks ts w.wire) (is_in ws w.wire) named) [
        | inr asserted ↦ inr (subst (λ n. is_in (map (marked_before below) ws) n ≡ true) w.place_is (still-in (marked_before below) ws w.wire asserted))
        | inl first ↦ elim (or_cases (w.wire == 0) (names marks ts w.wire) first) [
          | inl zero ↦ absurd (omega (arith, some, w.place_is, places-most below w.wire, eqb-true w.wire 0 zero))
          | inr above ↦ inl (subst (IsNamed (used_terms marks below ts)) w.place_is (named-used marks below ts w.wire above))
        ]
      ]

  pub used-are-used : (inputs : ℕ) (marks : List Bool) (ws : List (List ℕ)) (layer : Layer A) (layers : List (Layer A))
      → AreUsedUnderWith (used_layer marks (marks_of_under inputs marks layer.terms (targets_at ws 0) layers) layer) (used_targets inputs marks ws (layer ∷ layers))
      (used_layers inputs (marks_of_under inputs marks layer.terms (targets_at ws 0) layers) (behind ws) layers)
  used-are-used inputs marks ws layer [] = tt
  used-are-used inputs marks ws layer (next ∷ layers) =
      (used-are-named marks layer.terms (targets_at ws 0) next.wires, used-are-used inputs (named_marks next.wires marks layer.terms (targets_at ws 0)) (behind ws) next layers)

module _ {A : Type 0} (o : Ops A) (r : RingLaws o) where
  value-at : (layer : Layer A) (below : List A) (k : ℕ) → k < layer.wires → entry o (layer_values o layer below) k ≡ wire o (coef o layer.terms) below k
  value-at layer below k l = get_or-map-range_with_len (wire o (coef o layer.terms) below) 0 layer.wires k k o.zero l (omega arith)

  pub used-copies : (inputs : ℕ) (marks : List Bool) (ws : List (List ℕ)) (layers : List (Layer A)) (values : List A) → AreLayers o inputs layers → AreMarksOf inputs marks layers → length values ≡ inputs
      → AreMarkedCopies o marks (wires_of o layers values) (wires_of o (used_layers inputs marks ws layers) values)
  used-copies inputs marks ws [] values h m e = λ k n.
      let l : k < inputs = omega (arith, marked-within marks k n, ap length m, all-count inputs) in
      sym (ap (entry o values) (ap (λ ms. marked_before ms k) m ∙ all-places inputs k (omega (arith, l))))
  used-copies inputs marks ws (layer ∷ layers) values h m e = λ k n.
      let one = h.0 in
      let below = marks_of_under inputs marks layer.terms (targets_at ws 0) layers in
      let mu = under-marks o inputs marks layer.terms (targets_at ws 0) layers h.1 in
      let old = wires_of o layers values in
      let new = wires_of o (used_layers inputs below (behind ws) layers) values in
      let l = marked-within marks k n in
      let width_old : length old ≡ (under_of inputs layers).width = wires-width o layers values ∙ ap (λ i. (under_of i layers).width) e in
      let width_new : length new ≡ marked_before below (length below) = wires-width o (used_layers inputs below (behind ws) layers) values ∙ ap (λ i. (under_of i (used_layers inputs below (behind ws) layers)).width) e ∙ used-width o inputs below (behind ws) layers mu in
      let each : AreTerms o (length marks) (length old) None layer.terms = subst (λ w. AreTerms o w (length old) None layer.terms) (sym m.0) (subst (λ w. AreTerms o layer.wires w None layer.terms) (sym width_old) one.each) in
      value-at layer old k (omega (arith, l, m.0))
      ∙ used-wire o r marks below old new k layer.terms n l each width_new (under-marked o inputs marks (targets_at ws 0) layer layers one) (used-copies inputs below (behind ws) layers values h.1 mu e)
      ∙ sym (value-at (used_layer marks below layer) new (marked_before marks k) (marked-place marks k n))

  pub used-outputs : (inputs : ℕ) (marks : List Bool) (ws : List (List ℕ)) (layer : Layer A) (layers : List (Layer A)) → AreLayers o inputs (layer ∷ layers) → marks ≡ all_true layer.wires → AreSameOutputs o inputs (used_layers inputs marks ws (layer ∷ layers)) (layer ∷ layers)
  used-outputs inputs marks ws layer layers h m values e =
      let n = layer.wires in
      let one = h.0 in
      let count : length marks ≡ n = ap length m ∙ all-count n in
      let first : is_marked marks 0 ≡ true = ap (λ ms. is_marked ms 0) m ∙ all-marked n 0 one.some in
      let all = layer ∷ layers in
      let kept = used_layers inputs marks ws all in
      let places : (k : ℕ) → k ≤ n → marked_before marks k ≡ k = λ k l. ap (λ ms. marked_before ms k) m ∙ all-places n k l in
      let width : length (wires_of o kept values) ≡ n = wires-width o kept values ∙ ap (marked_before marks) count ∙ places n (omega arith) in
      let width_old : length (wires_of o all values) ≡ n = wires-width o all values in
      ext_get_or o.zero (wires_of o kept values) (wires_of o all values) (width ∙ sym width_old)
      (λ k l.
      let within : k < n = omega (arith, l, width) in
      sym (ap (entry o (wires_of o kept values)) (places k (omega (arith, within))))
      ∙ sym (used-copies inputs marks ws all values h (count, first) e k (ap (λ ms. is_marked ms k) m ∙ all-marked n k within)))

  -- ---- what they assert

  kept-below : (marks : List Bool) (width : ℕ) (ws : List ℕ) → AreBelow width ws → ((k : ℕ) → k < width → is_in ws k ≡ true → is_marked marks k ≡ true) → AreBelow (marked_before marks (length marks)) (map (marked_before marks) ws)
  kept-below marks width [] h m = tt
  kept-below marks width (w ∷ ws) h m =
      (marked-place marks w (m w h.0 (or_left (w == w) (is_in ws w) (eq-eqb w w refl))), kept-below marks width ws h.1 (λ k l i. m k l (or_right (w == k) (is_in ws k) i)))

  kept-values : (marks : List Bool) (width : ℕ) (ws : List ℕ) (old new : List A) → AreBelow width ws → ((k : ℕ) → k < width → is_in ws k ≡ true → is_marked marks k ≡ true) → AreMarkedCopies o marks old new
      → map (entry o new) (map (marked_before marks) ws) ≡ map (entry o old) ws
  kept-values marks width [] old new h m c = refl
  kept-values marks width (w ∷ ws) old new h m c =
      ap (λ x. x ∷ map (entry o new) (map (marked_before marks) ws)) (sym (c w (m w h.0 (or_left (w == w) (is_in ws w) (eq-eqb w w refl)))))
      ∙ ap (λ xs. entry o old w ∷ xs) (kept-values marks width ws old new h.1 (λ k l i. m k l (or_right (w == k) (is_in ws k) i)) c)

  pub used-are-targets : (inputs : ℕ) (marks : List Bool) (ws : List (List ℕ)) (layers : List (Layer A)) → AreLayers o inputs layers → AreTargets inputs ws layers → AreTargets inputs (used_targets inputs marks ws layers) (used_layers inputs marks ws layers)
  used-are-targets inputs marks ws [] h t = tt
  used-are-targets inputs marks ws (layer ∷ layers) h t =
      let below = marks_of_under inputs marks layer.terms (targets_at ws 0) layers in
      let own = map (marked_before below) (targets_at ws 0) in (
        subst (λ n. AreBelow n own) (sym (used-width o inputs below (behind ws) layers (under-marks o inputs marks layer.terms (targets_at ws 0) layers h.1)))
            (kept-below below (under_of inputs layers).width (targets_at ws 0) t.0 (under-asserted inputs marks layer.terms (targets_at ws 0) layers)),
        used-are-targets inputs below (behind ws) layers h.1 t.1,
      )

  pub used-as-many : (inputs : ℕ) (marks : List Bool) (ws : List (List ℕ)) (layers : List (Layer A)) → AreAsMany (used_targets inputs marks ws layers) ws layers
  used-as-many inputs marks ws [] = tt
  used-as-many inputs marks ws (layer ∷ layers) =
      let below = marks_of_under inputs marks layer.terms (targets_at ws 0) layers in
      (length-map (targets_at ws 0) (marked_before below), used-as-many inputs below (behind ws) layers)

  pub used-asserted : (inputs : ℕ) (marks : List Bool) (ws : List (List ℕ)) (layers : List (Layer A)) → AreLayers o inputs layers → AreTargets inputs ws layers
      → AreSameTargets o inputs (used_targets inputs marks ws layers) (used_layers inputs marks ws layers) ws layers
  used-asserted inputs marks ws [] h t values e = refl
  used-asserted inputs marks ws (layer ∷ layers) h t values e =
      let below = marks_of_under inputs marks layer.terms (targets_at ws 0) layers in
      let mu = under-marks o inputs marks layer.terms (targets_at ws 0) layers h.1 in
      let old = wires_of o layers values in
      let new = wires_of o (used_layers inputs below (behind ws) layers) values in
      ap (λ xs. xs ++ target_values o (used_targets inputs below (behind ws) layers) (used_layers inputs below (behind ws) layers) values)
      (kept-values below (under_of inputs layers).width (targets_at ws 0) old new t.0 (under-asserted inputs marks layer.terms (targets_at ws 0) layers) (used-copies inputs below (behind ws) layers values h.1 mu e))
      ∙ ap (λ xs. map (entry o old) (targets_at ws 0) ++ xs) (used-asserted inputs below (behind ws) layers h.1 t.1 values e)

  pub used-no-more : (inputs : ℕ) (marks : List Bool) (ws : List (List ℕ)) (layers : List (Layer A)) → AreLayers o inputs layers → AreMarksOf inputs marks layers → AreFewer (used_layers inputs marks ws layers) layers
  used-no-more inputs marks ws [] h m = tt
  used-no-more inputs marks ws (layer ∷ layers) h m =
      let below = marks_of_under inputs marks layer.terms (targets_at ws 0) layers in
      (omega (arith, places-most marks (length marks), m.0), used-short marks below layer.terms, used-no-more inputs below (behind ws) layers h.1 (under-marks o inputs marks layer.terms (targets_at ws 0) layers h.1))
