use Rattle.std.proofs.Common.{ℕ, List, sym, subst}
use Rattle.lzk_circuit.specs.Limits.{most_wires}
use Rattle.lzk_circuit.specs.Valid.{AreLayers}
use Rattle.lzk_circuit.specs.declared.layer.Layer.{Layer}
use Rattle.lzk_circuit_reduce.specs.Attached.{AreNarrowWith}
use Rattle.lzk_circuit_reduce.specs.Reduced.{HaveOnes, AreInnerDifferent}
use Rattle.lzk_circuit_reduce.specs.Targets.{AreAllTerms, AreTargets}
use Rattle.lzk_goldilocks.specs.Elements.{ops, laws}
use Rattle.lzk_goldilocks.specs.declared.element.Gold.{Gold}
use Rattle.lzk_tests_circuits.specs.Wasteful.{asserted}
use Rattle.lzk_tests_circuits.proofs.WastefulLaws.{ones, different, targets, narrow, all_terms, layers_are}
use Rattle.lzk_tests_circuits.proofs.expr.unused.asserting_layers.Goals as goal

pub asserting_used-requires-clause-terms : goal.asserting_used-requires-clause-terms
asserting_used-requires-clause-terms c κs = subst (λ (l : List (Layer Gold)). AreAllTerms ops 3 l) (sym c.in_ok-layers.ensures) (all_terms ops laws.field.one_not_zero)

pub asserting_used-requires-clause-layers : goal.asserting_used-requires-clause-layers
asserting_used-requires-clause-layers c κs = λ some. subst (λ (l : List (Layer Gold)). AreLayers ops 3 l) (sym c.in_ok-layers.ensures) (layers_are ops laws.field.one_not_zero)

pub asserting_used-requires-clause-ones : goal.asserting_used-requires-clause-ones
asserting_used-requires-clause-ones c κs = subst (λ (l : List (Layer Gold)). HaveOnes ops l) (sym c.in_ok-layers.ensures) (ones ops)

pub asserting_used-requires-clause-different : goal.asserting_used-requires-clause-different
asserting_used-requires-clause-different c κs = subst (λ (l : List (Layer Gold)). AreInnerDifferent l) (sym c.in_ok-layers.ensures) (different ops)

pub asserting_used-requires-clause-targets : goal.asserting_used-requires-clause-targets
asserting_used-requires-clause-targets c κs =
    subst (λ (ws : List (List ℕ)). AreTargets 3 ws c.in_ok-layers.layers.items) (sym c.in_ok-lists.ensures)
    (subst (λ (l : List (Layer Gold)). AreTargets 3 asserted l) (sym c.in_ok-layers.ensures) (targets ops))

pub asserting_used-requires-clause-narrow : goal.asserting_used-requires-clause-narrow
asserting_used-requires-clause-narrow c κs =
    subst (λ (ws : List (List ℕ)). AreNarrowWith most_wires ws c.in_ok-layers.layers.items) (sym c.in_ok-lists.ensures)
    (subst (λ (l : List (Layer Gold)). AreNarrowWith most_wires asserted l) (sym c.in_ok-layers.ensures) (narrow ops))
