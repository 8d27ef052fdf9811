-- From a stack of layers to a circuit of version 2.
use Rattle.std.specs.Prelude.{◌≡◌, ℕ, ◌+◌, ◌-◌, ◌*◌, ◌<◌, ◌≤◌, List, [], ◌++◌, length, map}
use Rattle.std.proofs.Common.{zero, suc, refl, sym, ap, ◌∙◌, arith, subst}
use Rattle.std.proofs.Math.Nat.{suc-mul}
use Rattle.std.proofs.lemmas.List.{length-append, map-append}
use Rattle.lzk_profile.specs.Profile.{most_wires, most_total}
use Rattle.lzk_field.specs.Ring.{Ops}
use Rattle.lzk_field.specs.Sums.{entry}
use Rattle.lzk_circuit.specs.declared.layer.Layer.{Layer}
use Rattle.lzk_circuit.specs.declared.layer.Term.{Term}
use Rattle.lzk_circuit.specs.Valid.{under_of, AreLayers}
use Rattle.lzk_circuit_reduce.specs.Attached.{AreNarrowWith, IsAssertingForm}
use Rattle.lzk_circuit_reduce.specs.Reduced.{HaveOnes, AreInnerDifferent, output_count}
use Rattle.lzk_circuit_reduce.specs.Renumbering.{at}
use Rattle.lzk_circuit_reduce.specs.Targets.{targets_at, AreTargets, AreAllTerms, target_count, target_values}
use Rattle.lzk_level.specs.Gates.{Gate}
use Rattle.lzk_level.specs.Bounds.{total}
use Rattle.lzk_level.specs.Checking.{of_depth, by_depth, AreAsserts, AreAsserting}
use Rattle.lzk_level.specs.Levels.{AreValues, AreWeights}
use Rattle.lzk_level.specs.Stacks.{IsStack}
use Rattle.lzk_level.specs.Wires.{AreFormValues, AreFormWeights}
use Rattle.lzk_level.proofs.AssertingLaws.{mul-more}
use Rattle.lzk_level.proofs.CheckingLaws.{all-placed, deepest, depth-light, depth-each}
use Rattle.lzk_level.proofs.FinishLaws.{greatest-each, greatest-some}

-- what the reduction to a circuit of version 2 asks
pub record IsReady {A : Type 0} (o : Ops A) (inputs : ℕ) (layers : List (Layer A)) (ws : List (List ℕ)) : Type 0 where
  pub some : 1 ≤ length layers
  pub terms : AreAllTerms o inputs layers
  pub layers_are : 2 ≤ length layers → AreLayers o inputs layers
  pub ones : HaveOnes o layers
  pub different : AreInnerDifferent layers
  pub targets : AreTargets inputs ws layers
  pub lists : length ws ≡ length layers
  pub checks : 1 ≤ output_count layers + length (targets_at ws 0)
  pub narrow : AreNarrowWith most_wires ws layers
  pub few_wires : (under_of inputs layers).wires + target_count ws layers ≤ most_total
  pub few_terms : (under_of inputs layers).terms + target_count ws layers ≤ most_total

-- a node of the uppermost level
pub record IsTop (depths : List ℕ) (count k : ℕ) : Type 0 where
  pub within : k < length depths
  pub deep_as : at depths k ≡ count

pub tops : (depths asserts outputs : List ℕ) (count : ℕ) → ((i : ℕ) → i < length asserts → at asserts i < length depths) → outputs ≡ of_depth depths count asserts → (i : ℕ) → i < length outputs → IsTop depths count (at outputs i)
tops depths asserts outputs count there e =
    subst (λ ks. (i : ℕ) → i < length ks → IsTop depths count (at ks i)) (sym e)
    (λ i l. let own = depth-each depths (λ k. k < length depths) count asserts there i l in record { within = own.0; deep_as = own.1 })

module _ {A : Type 0} (o : Ops A) (inputs : ℕ) (made : List (Gate A)) (depths asserts : List ℕ) (form : ℕ → List (Term A)) (count : ℕ) (a : AreAsserts inputs made depths asserts count)
    (values_are : (values : List A) → AreValues o inputs made values → AreFormValues o inputs (length depths) form values) (weights_are : (weights : List ℕ) → AreWeights inputs made weights → AreFormWeights inputs (length depths) form weights)
    (layers : List (Layer A)) (ws : List (List ℕ)) (s : IsStack o inputs form depths count (of_depth depths count asserts) asserts layers ws) where
  some-count : 1 ≤ count
  some-count = omega (arith, a.is, greatest-some 1 (map (at depths) asserts))

  -- the outputs and the asserted wires are as many as the asserted nodes
  as-many : length (of_depth depths count asserts) + length (by_depth depths asserts count) ≡ length asserts
  as-many = sym (length-append (of_depth depths count asserts) (by_depth depths asserts count)) ∙ all-placed depths (suc count) asserts (λ i l. omega (arith, a.is, greatest-each 1 depths asserts i l))

  -- those of the uppermost inner level are among the asserted wires
  below-top : length (of_depth depths (count - 1) asserts) ≤ length (by_depth depths asserts count)
  below-top =
      let n = count - 1 in
      let up : count ≡ suc n = omega (arith, some-count) in
      omega (arith, ap (λ k. length (by_depth depths asserts k)) up, length-append (of_depth depths n asserts) (by_depth depths asserts n))

  firsts : (i : ℕ) → i < length (of_depth depths count asserts) → 1 ≤ at (of_depth depths count asserts) i
  firsts i l = (depth-each depths (λ k. (1 ≤ k) × (k < length depths)) count asserts a.nodes i l).0.0

  room : count * length depths + total a.limits.weights + total (map (at a.limits.weights) (of_depth depths count asserts)) + length asserts ≤ most_total
  room = omega (arith, a.limits.most, mul-more count (length depths) (length asserts) some-count, depth-light depths a.limits.weights count asserts)

  some-outputs : 2 ≤ count → 1 ≤ length (of_depth depths count asserts)
  some-outputs two = subst (λ n. 1 ≤ length (of_depth depths n asserts)) (sym a.is) (deepest depths 1 asserts (omega (arith, two, a.is)))

  stack-valid : 2 ≤ length layers → AreLayers o inputs layers
  stack-valid two = s.valid a.limits.weights (weights_are a.limits.weights a.limits.are) (some-outputs (omega (arith, two, s.count_is))) firsts (omega (arith, room))

  -- the outputs' layer or the one below it has a node
  stack-checks : 1 ≤ output_count layers + length (targets_at ws 0)
  stack-checks = elim-count count refl
    where
      elim-count : (n : ℕ) → n ≡ count → 1 ≤ output_count layers + length (targets_at ws 0)
      elim-count zero e = absurd (omega (arith, e, some-count))
      elim-count (suc zero) e =
          let one : count ≡ 1 = sym e in
          omega (arith, s.first, s.asserted_first, as-many, a.some, ap (λ k. length (by_depth depths asserts k)) one, ap (λ k. length (of_depth depths (k - 1) asserts)) one, length-append (of_depth depths 0 asserts) [])
      elim-count (suc (suc n)) e = omega (arith, s.first, some-outputs (omega (arith, e)))

  stack-narrow : AreNarrowWith most_wires ws layers
  stack-narrow = s.narrow a.few (omega (arith, as-many, below-top, a.few))

  less : (count - 1) * length depths ≤ count * length depths
  less = let up : count ≡ suc (count - 1) = omega (arith, some-count) in omega (arith, suc-mul (count - 1) (length depths), ap (λ k. k * length depths) up)

  stack-wires : (under_of inputs layers).wires + target_count ws layers ≤ most_total
  stack-wires = omega (arith, s.few_wires, s.asserted_count, as-many, room, less)

  stack-terms : (under_of inputs layers).terms + target_count ws layers ≤ most_total
  stack-terms = omega (arith, s.few_terms a.limits.weights (weights_are a.limits.weights a.limits.are) firsts, s.asserted_count, as-many, room)

  pub stack-ready : IsReady o inputs layers ws
  stack-ready = record {
    some = omega (arith, s.count_is, some-count);
    terms = s.terms;
    layers_are = stack-valid;
    ones = s.ones;
    different = s.different;
    targets = s.asserted;
    lists = s.lists ∙ sym s.count_is;
    checks = stack-checks;
    narrow = stack-narrow;
    few_wires = stack-wires;
    few_terms = stack-terms;
  }

  -- with their assertion wires the layers are what is asked
  pub stack-asserting : (number : A → ℕ) (all : List (Layer A)) → IsAssertingForm o number inputs ws layers all → AreAsserting o number inputs made depths asserts count all
  stack-asserting number all form = record {
    layers_count = form.count ∙ s.count_is;
    valid = form.valid;
    checks_count = omega (arith, form.checks_count, s.first, s.asserted_count, as-many);
    first_count = omega (arith, form.first_count, s.first, s.asserted_first);
    checks = λ vs ins v b.
        let f = values_are vs v in
        form.checks ins b.width (sym (b.each 0 a.graph.one) ∙ v.one) ∙ ap (λ xs. xs ++ target_values o ws layers ins) (s.values vs ins f b)
        ∙ ap (λ xs. map (entry o vs) (of_depth depths count asserts) ++ xs) (s.asserted_values vs ins f b)
        ∙ sym (map-append (entry o vs) (of_depth depths count asserts) (by_depth depths asserts count));
    reduced = form.reduced;
  }
