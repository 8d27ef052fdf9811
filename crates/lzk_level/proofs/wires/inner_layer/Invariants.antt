use Rattle.std.proofs.Common.{◌-◌, ◌≤◌, length}
use Rattle.lzk_level.specs.Uses.{node_form}
use Rattle.lzk_level.proofs.SharingLaws.{Sharing}
use Rattle.lzk_level.proofs.wires.inner_layer.Given as goal

abbrev pub invariant-loop-k : goal.invariant-loop-k
invariant-loop-k g l = record {
  shared : Sharing g.F.Field.ops g.F.Field.coding.number l.graph.inputs (node_form l.graph.inputs l.graph.forms.now) l.graph.depths.now l.graph.last.now l.level l.below l.k l.kept l.here;
  within : l.k ≤ length l.graph.depths.now;
}

abbrev pub decreases-loop-k : goal.decreases-loop-k
decreases-loop-k g l = length l.graph.depths.now - l.k
