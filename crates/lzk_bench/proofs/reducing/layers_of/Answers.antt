use Rattle.std.proofs.Common.{List, [], ◌∷◌, ◌++◌, ap, sym, ◌∙◌}
use Rattle.lzk_circuit.specs.declared.layer.Layer.{Layer}
use Rattle.lzk_circuit.specs.declared.layer.Term.{Term}
use Rattle.lzk_goldilocks.specs.declared.element.Gold.{Gold}
use Rattle.lzk_layout.proofs.ReadingLaws.{take_next}
use Rattle.lzk_bench.proofs.reducing.layers_of.Goals as goal

pub loop-l-preserved : goal.loop-l-preserved
loop-l-preserved c =
    let layer = c.layer-layer.result.now in
    let kept = c.loop-l.layers.items in
    let same = c.new.ensures ∙ c.in_ok-terms.ensures.items ∙ c.as_slice.ensures in
    c.in_ok-push.ensures.items ∙ ap (λ (terms : List (Term Gold)). kept ++ record { wires = layer.wires; terms = terms } ∷ []) same
    ∙ ap (λ (layers : List (Layer Gold)). layers ++ layer ∷ []) c.loop-l.invariant ∙ sym (take_next c.args.circuit.now.layers c.loop-l.l layer c.layer-layer.ensures)
