use Rattle.std.proofs.Common.{List, sym, subst}
use Rattle.lzk_circuit.specs.Valid.{AreLayers}
use Rattle.lzk_circuit.specs.declared.layer.Layer.{Layer}
use Rattle.lzk_circuit_reduce.specs.Reduced.{HaveOnes, AreInnerDifferent}
use Rattle.lzk_goldilocks.specs.Elements.{ops, laws}
use Rattle.lzk_goldilocks.specs.declared.element.Gold.{Gold}
use Rattle.lzk_tests_circuits.proofs.WastefulLaws.{ones, different, layers_are}
use Rattle.lzk_tests_circuits.proofs.expr.unused.used_layers.Goals as goal

pub used-requires-clause-layers : goal.used-requires-clause-layers
used-requires-clause-layers c κs = subst (λ (l : List (Layer Gold)). AreLayers ops 3 l) (sym c.in_ok-layers.ensures) (layers_are ops laws.field.one_not_zero)

pub used-requires-clause-ones : goal.used-requires-clause-ones
used-requires-clause-ones c κs = subst (λ (l : List (Layer Gold)). HaveOnes ops l) (sym c.in_ok-layers.ensures) (ones ops)

pub used-requires-clause-different : goal.used-requires-clause-different
used-requires-clause-different c κs = subst (λ (l : List (Layer Gold)). AreInnerDifferent l) (sym c.in_ok-layers.ensures) (different ops)
