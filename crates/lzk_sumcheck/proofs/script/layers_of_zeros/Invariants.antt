use Rattle.std.proofs.Common.{◌≡◌, ◌≤◌, length, map}
use Rattle.std.specs.List.{range_with_len}
use Rattle.lzk_layout.specs.Places.{bits_under, places_of}
use Rattle.lzk_sumcheck.specs.Script.{zero_layer}
use Rattle.lzk_sumcheck.proofs.script.layers_of_zeros.Given as goal

abbrev pub invariant-loop-l : goal.invariant-loop-l
invariant-loop-l g l = record {
  places : l.places ≡ places_of l.circuit l.l;
  layers : l.list.items ≡ map (λ k. zero_layer g.F.Field.ops (bits_under l.circuit k)) (range_with_len 0 l.l);
  count : length l.list.items ≡ l.l;
  room : l.depth ≤ l.list.cap;
}
