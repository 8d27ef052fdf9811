use Rattle.std.proofs.Common.{◌≡◌, ◌-◌, ◌<◌, ◌≤◌, length}
use Rattle.lzk_circuit_reduce.specs.Renumbering.{at}
use Rattle.lzk_level.specs.Stacking.{ArePassed}
use Rattle.lzk_level.proofs.wires.pass_nodes.Given as goal

abbrev pub invariant-loop-j : goal.invariant-loop-j
invariant-loop-j g l = record {
  passed : ArePassed l.graph.last.now l.next l.level;
  there : l.k < length l.graph.last.now;
  here : at l.next l.k ≡ l.j;
  some : 1 ≤ l.count;
  few : l.count ≤ l.j;
}

abbrev pub decreases-loop-j : goal.decreases-loop-j
decreases-loop-j g l = length l.graph.last.now - l.j
