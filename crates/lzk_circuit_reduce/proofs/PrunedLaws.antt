-- What layers are without the wires that nothing uses.
use Rattle.std.specs.Prelude.{◌≡◌, ℕ, ◌+◌, ◌-◌, ◌<◌, ◌≤◌, true, Bool, None, List, [], ◌∷◌, ◌++◌, length, map}
use Rattle.std.proofs.Common.{suc, refl, sym, ap, ◌∙◌, arith, subst, get_or, take, drop}
use Rattle.std.proofs.lemmas.List.{drop_more, drop_all, take_all, length-drop, append-nil}
use Rattle.lzk_field.specs.Ring.{Ops, RingLaws}
use Rattle.lzk_circuit.specs.declared.layer.Term.{Term}
use Rattle.lzk_circuit.specs.declared.layer.Layer.{Layer}
use Rattle.lzk_circuit.specs.Valid.{under_of, AreTerms, AreLayers}
use Rattle.lzk_circuit_reduce.specs.Marks.{is_marked, marked_before}
use Rattle.lzk_circuit_reduce.specs.Asserting.{IsForm, AreAllUsedWith}
use Rattle.lzk_circuit_reduce.specs.Reduced.{HaveOnes, AreInnerDifferent}
use Rattle.lzk_circuit_reduce.specs.Targets.{targets_at, behind, AreTargets}
use Rattle.lzk_circuit_reduce.specs.Used.{all_true, all_of, used_terms, marks_of_under, used_layers, used_targets, IsPruned, ArePrunedTo}
use Rattle.lzk_circuit_reduce.proofs.MarkedPlaceLaws.{all-count, all-marked, all-places}
use Rattle.lzk_circuit_reduce.proofs.UsedLaws.{marks-as}
use Rattle.lzk_circuit_reduce.proofs.TargetLaws.{behind-drop, targets-drop}
use Rattle.lzk_circuit_reduce.proofs.PushedLaws.{pushed-used, pushed-targets}
use Rattle.lzk_circuit_reduce.proofs.UsedLayersLaws.{under-count, AreMarksOf, under-marks, used-are-layers, used-have-ones, used-are-different, used-are-used, used-outputs, used-are-targets, used-as-many, used-asserted, used-no-more}

module _ {A : Type 0} where
  -- a slice from l on
  pub rest-slice : (l : ℕ) (layers : List (Layer A)) → take (length layers - l) (drop l layers) ≡ drop l layers
  rest-slice l layers = take_all (length layers - l) (drop l layers) (omega (arith, length-drop l layers))

  used-count : (inputs : ℕ) (marks : List Bool) (ws : List (List ℕ)) (layers : List (Layer A)) → length (used_layers inputs marks ws layers) ≡ length layers
  used-count inputs marks ws [] = refl
  used-count inputs marks ws (layer ∷ layers) = ap suc (used-count inputs (marks_of_under inputs marks layer.terms (targets_at ws 0) layers) (behind ws) layers)

  lists-count : (inputs : ℕ) (marks : List Bool) (ws : List (List ℕ)) (layers : List (Layer A)) → length (used_targets inputs marks ws layers) ≡ length layers
  lists-count inputs marks ws [] = refl
  lists-count inputs marks ws (layer ∷ layers) = ap suc (lists-count inputs (marks_of_under inputs marks layer.terms (targets_at ws 0) layers) (behind ws) layers)

  pub pruned-lists : (inputs : ℕ) (ws : List (List ℕ)) (layers : List (Layer A)) (moved : List (List ℕ)) (kept : List (Layer A)) → IsPruned inputs ws layers moved kept → length moved ≡ length kept
  pruned-lists inputs ws layers moved kept p = ap length p.moved_are ∙ lists-count inputs (all_of layers) ws layers ∙ sym (ap length p.kept_are ∙ used-count inputs (all_of layers) ws layers)

  pub pruned-used : (inputs : ℕ) (ws : List (List ℕ)) (layers : List (Layer A)) (moved : List (List ℕ)) (kept : List (Layer A)) → IsPruned inputs ws layers moved kept → AreAllUsedWith moved kept
  pruned-used inputs ws [] moved kept p = subst (AreAllUsedWith moved) (sym p.kept_are) tt
  pruned-used inputs ws (layer ∷ layers) moved kept p =
      subst (AreAllUsedWith moved) (sym p.kept_are) (subst (λ ms. AreAllUsedWith ms (used_layers inputs (all_true layer.wires) ws (layer ∷ layers))) (sym p.moved_are) (used-are-used inputs (all_true layer.wires) ws layer layers))

module _ {A : Type 0} (o : Ops A) where
  first-marks : (inputs : ℕ) (layer : Layer A) (layers : List (Layer A)) → 1 ≤ layer.wires → AreMarksOf inputs (all_true layer.wires) (layer ∷ layers)
  first-marks inputs layer layers some = (all-count layer.wires, all-marked layer.wires 0 some)

  pub pruned-ones : (inputs : ℕ) (ws : List (List ℕ)) (layers : List (Layer A)) (moved : List (List ℕ)) (kept : List (Layer A)) → IsPruned inputs ws layers moved kept → AreLayers o inputs layers → HaveOnes o layers → HaveOnes o kept
  pruned-ones inputs ws [] moved kept p h ones = subst (HaveOnes o) (sym p.kept_are) tt
  pruned-ones inputs ws (layer ∷ layers) moved kept p h ones =
      let below = marks_of_under inputs (all_true layer.wires) layer.terms (targets_at ws 0) layers in
      subst (HaveOnes o) (sym p.kept_are) (used-have-ones o inputs below (behind ws) layers h.1 (under-marks o inputs (all_true layer.wires) layer.terms (targets_at ws 0) layers h.1) ones)

  pub pruned-different : (inputs : ℕ) (ws : List (List ℕ)) (layers : List (Layer A)) (moved : List (List ℕ)) (kept : List (Layer A)) → IsPruned inputs ws layers moved kept → AreLayers o inputs layers → AreInnerDifferent layers → AreInnerDifferent kept
  pruned-different inputs ws [] moved kept p h different = subst AreInnerDifferent (sym p.kept_are) tt
  pruned-different inputs ws (layer ∷ layers) moved kept p h different =
      let below = marks_of_under inputs (all_true layer.wires) layer.terms (targets_at ws 0) layers in
      subst AreInnerDifferent (sym p.kept_are) (used-are-different o inputs below (behind ws) layers h.1 (under-marks o inputs (all_true layer.wires) layer.terms (targets_at ws 0) layers h.1) different)

  used-form : (r : RingLaws o) (inputs : ℕ) (ws : List (List ℕ)) (layer : Layer A) (layers : List (Layer A)) → AreLayers o inputs (layer ∷ layers) → AreTargets inputs ws (layer ∷ layers)
      → IsForm o inputs ws (layer ∷ layers) (used_targets inputs (all_true layer.wires) ws (layer ∷ layers)) (used_layers inputs (all_true layer.wires) ws (layer ∷ layers))
  used-form r inputs ws layer layers h t =
      let one = h.0 in
      let marks = all_true layer.wires in
      let all = layer ∷ layers in
      let m = first-marks inputs layer layers one.some in
      record {
        count = used-count inputs marks ws all;
        valid = used-are-layers o inputs marks ws all h m;
        outputs = all-places layer.wires (length marks) (omega (arith, all-count layer.wires)) ∙ all-count layer.wires;
        values = λ values e. used-outputs o r inputs marks ws layer layers h refl values e;
        fewer = used-no-more o r inputs marks ws all h m;
        targets = used-are-targets o r inputs marks ws all h t;
        as_many = used-as-many o r inputs marks ws all;
        asserted = λ values e. used-asserted o r inputs marks ws all h t values e;
      }

  pub pruned-form : (r : RingLaws o) (inputs : ℕ) (ws : List (List ℕ)) (layers : List (Layer A)) (moved : List (List ℕ)) (kept : List (Layer A)) → IsPruned inputs ws layers moved kept → 1 ≤ length layers → AreLayers o inputs layers → AreTargets inputs ws layers
      → IsForm o inputs ws layers moved kept
  pruned-form r inputs ws [] moved kept p some h t = absurd (omega (arith, some))
  pruned-form r inputs ws (layer ∷ layers) moved kept p some h t =
      subst (IsForm o inputs ws (layer ∷ layers) moved) (sym p.kept_are)
      (subst (λ ms. IsForm o inputs ws (layer ∷ layers) ms (used_layers inputs (all_true layer.wires) ws (layer ∷ layers))) (sym p.moved_are) (used-form r inputs ws layer layers h t))

module _ {A : Type 0} (o : Ops A) where
  pub pruning-starts : (inputs : ℕ) (ws : List (List ℕ)) (layers : List (Layer A)) (d : Layer A) (marks : List Bool) (moved : List (List ℕ)) (kept : List (Layer A)) → 1 ≤ length layers → AreLayers o inputs layers → length marks ≡ (get_or layers 0 d).wires
      → ((k : ℕ) → k < (get_or layers 0 d).wires → is_marked marks k ≡ true) → moved ≡ [] → kept ≡ [] → ArePrunedTo o inputs ws layers marks 0 moved kept
  pruning-starts inputs ws [] d marks moved kept some h count all n none = absurd (omega (arith, some))
  pruning-starts inputs ws (layer ∷ layers) d marks moved kept some h count all n none =
      let same = marks-as (λ k. true) layer.wires marks count all in
      record {
        is = record {
          kept_are = ap (λ xs. xs ++ used_layers inputs marks ws (layer ∷ layers)) none ∙ ap (λ ms. used_layers inputs ms ws (layer ∷ layers)) same;
          moved_are = ap (λ xs. xs ++ used_targets inputs marks ws (layer ∷ layers)) n ∙ ap (λ ms. used_targets inputs ms ws (layer ∷ layers)) same;
        };
        rest = h;
        count = count;
      }

  pub pruning-adds : (inputs : ℕ) (ws : List (List ℕ)) (layers : List (Layer A)) (d : Layer A) (marks below : List Bool) (ts : List (Term A)) (pushed : Layer A) (own : List ℕ) (l : ℕ) (moved grown : List (List ℕ)) (kept more : List (Layer A)) → l < length layers → ts ≡ (get_or layers l d).terms
      → below ≡ marks_of_under inputs marks ts (targets_at ws l) (drop (l + 1) layers) → pushed.wires ≡ marked_before marks (length marks) → pushed.terms ≡ used_terms marks below ts → own ≡ map (marked_before below) (targets_at ws l)
      → more ≡ kept ++ pushed ∷ [] → grown ≡ moved ++ own ∷ [] → ArePrunedTo o inputs ws layers marks l moved kept → ArePrunedTo o inputs ws layers below (l + 1) grown more
  pruning-adds inputs ws layers d marks below ts pushed own l moved grown kept more within slice under wires terms targets push grow p =
      let layer = get_or layers l d in
      let rest = drop (l + 1) layers in
      let here = targets-drop l ws in
      let front : drop l layers ≡ layer ∷ rest = drop_more layers l d within in
      let h : AreLayers o inputs (layer ∷ rest) = subst (AreLayers o inputs) front p.rest in
      let at_l : below ≡ marks_of_under inputs marks ts (targets_at (drop l ws) 0) rest = under ∙ ap (λ xs. marks_of_under inputs marks ts xs rest) (sym here) in
      let layers_are = ap (λ ls. kept ++ used_layers inputs marks (drop l ws) ls) front ∙ sym (pushed-used inputs marks below ts (drop l ws) rest layer pushed kept more slice at_l wires terms push) ∙ ap (λ xs. more ++ used_layers inputs below xs rest) (behind-drop l ws) in
      let lists_are = ap (λ ls. moved ++ used_targets inputs marks (drop l ws) ls) front ∙ sym (pushed-targets inputs marks below ts (drop l ws) rest layer own moved grown slice at_l (targets ∙ ap (map (marked_before below)) (sym here)) grow) ∙ ap (λ xs. grown ++ used_targets inputs below xs rest) (behind-drop l ws) in
      record {
        is = record { kept_are = sym layers_are ∙ p.is.kept_are; moved_are = sym lists_are ∙ p.is.moved_are };
        rest = h.1;
        count = ap length under ∙ under-count inputs marks ts (targets_at ws l) rest;
      }

  -- the next layer's terms
  pub pruning-terms : (inputs : ℕ) (ws : List (List ℕ)) (layers : List (Layer A)) (d : Layer A) (marks : List Bool) (ts : List (Term A)) (l : ℕ) (moved : List (List ℕ)) (kept : List (Layer A)) → l < length layers → ts ≡ (get_or layers l d).terms
      → ArePrunedTo o inputs ws layers marks l moved kept → AreTerms o (length marks) (under_of inputs (drop (l + 1) layers)).width None ts
  pruning-terms inputs ws layers d marks ts l moved kept within slice p =
      let layer = get_or layers l d in
      let rest = drop (l + 1) layers in
      let width = (under_of inputs rest).width in
      let front : drop l layers ≡ layer ∷ rest = drop_more layers l d within in
      let h : AreLayers o inputs (layer ∷ rest) = subst (AreLayers o inputs) front p.rest in
      let one = h.0 in
      let wires : layer.wires ≡ length marks = sym (p.count ∙ ap (λ ls. (under_of inputs ls).width) front) in
      subst (AreTerms o (length marks) width None) (sym slice) (subst (λ n. AreTerms o n width None layer.terms) wires one.each)

  pub pruning-ends : (inputs : ℕ) (ws : List (List ℕ)) (layers : List (Layer A)) (marks : List Bool) (l : ℕ) (moved : List (List ℕ)) (kept : List (Layer A)) → length layers ≤ l → ArePrunedTo o inputs ws layers marks l moved kept → IsPruned inputs ws layers moved kept
  pruning-ends inputs ws layers marks l moved kept h p =
      let none = drop_all l layers h in
      let all : kept ++ used_layers inputs marks (drop l ws) (drop l layers) ≡ kept = ap (λ ls. kept ++ used_layers inputs marks (drop l ws) ls) none ∙ append-nil kept in
      let lists : moved ++ used_targets inputs marks (drop l ws) (drop l layers) ≡ moved = ap (λ ls. moved ++ used_targets inputs marks (drop l ws) ls) none ∙ append-nil moved in
      record { kept_are = sym all ∙ p.is.kept_are; moved_are = sym lists ∙ p.is.moved_are }
