use Rattle.lzk_level.specs.Uses.{node_form}
use Rattle.lzk_level.proofs.TopLaws.{Outer}
use Rattle.lzk_level.proofs.wires.top_layer.Given as goal

abbrev pub invariant-loop-g : goal.invariant-loop-g
invariant-loop-g g l = Outer g.F.Field.ops l.graph.inputs (node_form l.graph.inputs l.graph.forms.now) l.graph.depths.now l.graph.last.now l.level l.below l.outputs l.g l.terms.items
