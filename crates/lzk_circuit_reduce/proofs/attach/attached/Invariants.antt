use Rattle.std.proofs.Common.{◌≡◌, ◌≤◌, ◌++◌, drop, length}
use Rattle.lzk_circuit_reduce.specs.Attached.{attached_layers}
use Rattle.lzk_circuit_reduce.proofs.attach.attached.Given as goal

abbrev pub invariant-loop-l : goal.invariant-loop-l
invariant-loop-l g l = record {
  all : l.all.items ++ attached_layers g.F.Field.ops (drop l.l l.targets) (drop l.l l.layers) ≡ attached_layers g.F.Field.ops l.targets l.layers;
  count : length l.all.items ≡ l.l;
  room : length l.layers ≤ l.all.cap;
}
