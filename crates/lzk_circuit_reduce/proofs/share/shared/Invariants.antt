use Rattle.std.proofs.Common.{◌≡◌, ◌+◌, ◌≤◌, length}
use Rattle.lzk_circuit_reduce.proofs.SharedLayerLaws.{SharedFrom}
use Rattle.lzk_circuit_reduce.proofs.share.shared.Given as goal

abbrev pub invariant-loop-l : goal.invariant-loop-l
invariant-loop-l g l = record {
  shared : SharedFrom g.F.Field.ops l.inputs l.layers l.l l.kept.items l.numbers.items;
  count : length l.kept.items + l.l ≡ length l.layers;
  room : length l.layers ≤ l.kept.cap;
}
