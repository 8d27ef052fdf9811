use Rattle.std.proofs.Common.{◌≡◌, ◌≤◌, drop}
use Rattle.std.specs.Prelude.{None}
use Rattle.lzk_circuit.specs.Faults.{layers_fault}
use Rattle.lzk_circuit.specs.Limits.{most_total}
use Rattle.lzk_circuit.specs.Valid.{under_of}
use Rattle.lzk_circuit.proofs.check.check_layers.Given as goal

abbrev pub invariant-loop-l : goal.invariant-loop-l
invariant-loop-l g l = record {
  none : layers_fault g.F.Field.coding.number l.version l.inputs l.l (drop l.l l.layers) ≡ None;
  under : under_of l.inputs (drop l.l l.layers) ≡ record { width = l.width; wires = l.wires; terms = l.count };
  wires : l.wires ≤ most_total;
  terms : l.count ≤ most_total;
}
