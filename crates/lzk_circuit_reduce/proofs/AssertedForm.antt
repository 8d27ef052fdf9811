-- Layers with their assertion wires are what they are to be.
use Rattle.std.specs.Prelude.{◌≡◌, ℕ, ◌+◌, ◌≤◌, List, [], ◌∷◌, ◌++◌, length}
use Rattle.std.proofs.Common.{refl, sym, ap₂, ◌∙◌, arith, subst}
use Rattle.lzk_circuit.specs.Limits.{most_wires, most_total}
use Rattle.lzk_field.specs.Ring.{Ops, Laws}
use Rattle.lzk_circuit.specs.declared.layer.Layer.{Layer}
use Rattle.lzk_circuit.specs.Valid.{under_of, AreLayers}
use Rattle.lzk_circuit_reduce.specs.Asserting.{IsForm, AreReducedWithUnder, IsReducedWith}
use Rattle.lzk_circuit_reduce.specs.Attached.{attached_layers, AreNarrowWith, IsAssertingForm}
use Rattle.lzk_circuit_reduce.specs.Reduced.{HaveOnes, HaveOnesUnder, output_count}
use Rattle.lzk_circuit_reduce.specs.Targets.{targets_at, behind, AreTargets, AreAllTerms, target_count}
use Rattle.lzk_circuit_reduce.proofs.AttachedLayers.{all-terms, layers-count, attached-layers, attached-checks, attached-count}
use Rattle.lzk_circuit_reduce.proofs.AttachedReduced.{attached-reduced, attached-single}
use Rattle.lzk_circuit_reduce.proofs.EachReduced.{some_reduced_with}
use Rattle.lzk_circuit_reduce.proofs.FormLaws.{few-wires, few-terms, same-count, same-first, still-narrow}

module _ {A : Type 0} (o : Ops A) (size : ℕ) (number : A → ℕ) (element : ℕ → A) (bytes : ℕ) (laws : Laws o size number element bytes) where
  first-wires : (ws : List (List ℕ)) (layers : List (Layer A)) → 1 ≤ length layers → output_count (attached_layers o ws layers) ≡ output_count layers + length (targets_at ws 0)
  first-wires ws [] many = absurd (omega (arith, many))
  first-wires ws (layer ∷ layers) many = refl

  -- a single layer
  pub single-form : (inputs : ℕ) (ws : List (List ℕ)) (layers : List (Layer A)) → length layers ≡ 1 → 1 ≤ inputs → AreAllTerms o inputs layers → HaveOnes o layers → AreTargets inputs ws layers → AreNarrowWith most_wires ws layers
      → 1 ≤ output_count layers + length (targets_at ws 0) → (under_of inputs layers).wires + target_count ws layers ≤ most_total → (under_of inputs layers).terms + target_count ws layers ≤ most_total
      → IsAssertingForm o number inputs ws layers (attached_layers o ws layers)
  single-form inputs ws layers single first terms ones t narrow some wires all =
      let many : 1 ≤ length layers = omega (arith, single) in
      record {
        count = layers-count o ws layers;
        valid = attached-layers o inputs ws layers many terms (λ two. absurd (omega (arith, two, single))) t narrow some wires all;
        checks_count = attached-count o size number element bytes laws inputs ws layers terms;
        first_count = first-wires ws layers many;
        checks = λ values e one.
            attached-checks o size number element bytes laws ws layers values many (subst (λ n. AreAllTerms o n layers) (sym e) terms) (subst (λ n. AreTargets n ws layers) (sym e) t) ones (omega (arith, e, first)) one;
        reduced = attached-single o ws layers single;
      }

  ones-under : (above : Layer A) (ws : List (List ℕ)) (layers : List (Layer A)) → AreReducedWithUnder o above ws layers → HaveOnesUnder o layers
  ones-under above ws [] h = tt
  ones-under above ws (layer ∷ layers) h = let one = h.0 in (one.one, ones-under layer (behind ws) layers h.1)

  reduced-ones : (ws : List (List ℕ)) (layers : List (Layer A)) → IsReducedWith o ws layers → HaveOnes o layers
  reduced-ones ws [] h = tt
  reduced-ones ws (layer ∷ layers) h = ones-under layer ws layers h

  -- reduced layers
  pub reduced-form : (inputs : ℕ) (ws : List (List ℕ)) (layers : List (Layer A)) (moved : List (List ℕ)) (kept : List (Layer A)) → 1 ≤ length layers → 1 ≤ inputs → AreNarrowWith most_wires ws layers
      → 1 ≤ output_count layers + length (targets_at ws 0) → (under_of inputs layers).wires + target_count ws layers ≤ most_total → (under_of inputs layers).terms + target_count ws layers ≤ most_total
      → IsForm o inputs ws layers moved kept → IsReducedWith o moved kept → IsAssertingForm o number inputs ws layers (attached_layers o moved kept)
  reduced-form inputs ws layers moved kept many first narrow some wires all f reduced =
      let ones = reduced-ones moved kept reduced in
      let terms = all-terms o inputs kept f.valid in
      let more : 1 ≤ length kept = omega (arith, f.count, many) in
      let same = same-count moved ws kept layers f.count f.as_many in
      record {
        count = layers-count o moved kept ∙ f.count;
        valid = attached-layers o inputs moved kept more terms (λ two. f.valid) f.targets (still-narrow most_wires moved ws kept layers f.count f.fewer f.as_many narrow) (omega (arith, some, f.outputs, same-first moved ws layers many f.as_many))
            (omega (arith, wires, few-wires inputs kept layers f.fewer, same)) (omega (arith, all, few-terms inputs kept layers f.fewer, same));
        checks_count = attached-count o size number element bytes laws inputs moved kept terms ∙ omega (arith, f.outputs, same);
        first_count = first-wires moved kept more ∙ omega (arith, f.outputs, same-first moved ws layers many f.as_many);
        checks = λ values e one.
            attached-checks o size number element bytes laws moved kept values more (subst (λ n. AreAllTerms o n kept) (sym e) terms) (subst (λ n. AreTargets n moved kept) (sym e) f.targets) ones (omega (arith, e, first)) one
            ∙ ap₂ (λ xs ys. xs ++ ys) (f.values values e) (f.asserted values e);
        reduced = attached-reduced o inputs moved kept f.valid f.targets reduced;
      }

  -- some layers are it
  pub some_asserting : (inputs : ℕ) (ws : List (List ℕ)) (layers : List (Layer A)) → 1 ≤ length layers → 1 ≤ inputs → AreAllTerms o inputs layers → (2 ≤ length layers → AreLayers o inputs layers) → HaveOnes o layers → AreTargets inputs ws layers
      → AreNarrowWith most_wires ws layers → 1 ≤ output_count layers + length (targets_at ws 0) → (under_of inputs layers).wires + target_count ws layers ≤ most_total → (under_of inputs layers).terms + target_count ws layers ≤ most_total
      → (all : List (Layer A)) × IsAssertingForm o number inputs ws layers all
  some_asserting inputs ws [] many first terms valid ones t narrow some wires all = absurd (omega (arith, many))
  some_asserting inputs ws (layer ∷ []) many first terms valid ones t narrow some wires all =
      (attached_layers o ws (layer ∷ []), single-form inputs ws (layer ∷ []) refl first terms ones t narrow some wires all)
  some_asserting inputs ws (layer ∷ next ∷ layers) many first terms valid ones t narrow some wires all =
      let r = some_reduced_with o size number element bytes laws inputs ws (layer ∷ next ∷ layers) many (valid (omega arith)) ones t in
      (attached_layers o r.moved r.kept, reduced-form inputs ws (layer ∷ next ∷ layers) r.moved r.kept many first narrow some wires all r.form r.reduced)
