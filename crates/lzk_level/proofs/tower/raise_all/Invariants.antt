use Rattle.std.proofs.Common.{◌-◌, ◌≤◌}
use Rattle.lzk_level.specs.Stacks.{IsTower}
use Rattle.lzk_level.specs.Uses.{node_form}
use Rattle.lzk_level.proofs.tower.raise_all.Given as goal

abbrev pub invariant-loop-level : goal.invariant-loop-level
invariant-loop-level g l = record {
  some : 1 ≤ l.level;
  tower : IsTower g.F.Field.ops l.graph.inputs (node_form l.graph.inputs l.graph.forms.now) l.graph.depths.now l.graph.last.now l.asserts (l.level - 1) l.tower;
}
