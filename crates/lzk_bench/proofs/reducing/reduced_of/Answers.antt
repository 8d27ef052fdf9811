use Rattle.std.proofs.Common.{◌≡◌, ◌+◌, List, [], ◌∷◌, subst, sym, ◌∙◌}
use Rattle.lzk_field.specs.Ring.{Ops}
use Rattle.lzk_circuit.specs.declared.layer.Layer.{Layer}
use Rattle.lzk_circuit.specs.Valid.{AreLayers, input_width}
use Rattle.lzk_circuit.proofs.VersionLaws.{valid-one}
use Rattle.lzk_goldilocks.specs.Elements.{ops}
use Rattle.lzk_goldilocks.specs.declared.element.Gold.{Gold}
use Rattle.lzk_circuit_reduce.specs.Reduced.{AreReducedUnder, HaveOnes, HaveOnesUnder, IsReduced}
use Rattle.lzk_bench.proofs.reducing.reduced_of.Goals as goal

ones_under : {A : Type 0} (o : Ops A) (above : Layer A) (layers : List (Layer A)) → AreReducedUnder o above layers → HaveOnesUnder o layers
ones_under o above [] are = tt
ones_under o above (layer ∷ layers) are = (are.0.one, ones_under o layer layers are.1)

reduced_ones : {A : Type 0} (o : Ops A) (layers : List (Layer A)) → IsReduced o layers → HaveOnes o layers
reduced_ones o [] are = tt
reduced_ones o (layer ∷ layers) are = ones_under o layer layers are

pub reduce_often-total-requires-clause-ones : goal.reduce_often-total-requires-clause-ones
reduce_often-total-requires-clause-ones c =
    subst (λ (layers : List (Layer Gold)). HaveOnes ops layers) (sym (c.deref.ensures.value ∙ c.in_ok-layers.ensures)) (reduced_ones ops c.args.circuit.now.layers c.requires.reduced)

pub reduce_often-total-requires-clause-layers : goal.reduce_often-total-requires-clause-layers
reduce_often-total-requires-clause-layers c =
    let circuit = c.args.circuit.now in
    let inputs : input_width circuit ≡ 1 + c.publics.result + c.privates.result = λ i. 1 + sym c.publics.ensures i + sym c.privates.ensures i in
    subst (λ (layers : List (Layer Gold)). AreLayers ops (1 + c.publics.result + c.privates.result) layers) (sym (c.deref.ensures.value ∙ c.in_ok-layers.ensures))
    (subst (λ n. AreLayers ops n circuit.layers) inputs (valid-one ops circuit c.requires.version c.valid_laws.ensures))
