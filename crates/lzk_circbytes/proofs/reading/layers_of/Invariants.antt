use Rattle.std.proofs.Common.{◌≡◌, ◌≤◌, ◌-◌, map, length}
use Rattle.lzk_circuit.specs.Limits.{most_total}
use Rattle.lzk_circuit.specs.Valid.{above_layer}
use Rattle.lzk_circbytes.specs.Numbered.{numbered_layer, is_coefficient}
use Rattle.lzk_circbytes.specs.Reading.{many, layer_at, layers_at}
use Rattle.lzk_circbytes.specs.Answers.{Marks, under}
use Rattle.lzk_circbytes.proofs.Loop.{with_front}
use Rattle.lzk_circbytes.proofs.reading.layers_of.Given as goal

abbrev pub invariant-loop : goal.invariant-loop
invariant-loop g l =
    let number = g.F.Field.coding.number in
    record {
      wires : l.below.wires ≤ most_total;
      terms : l.below.terms ≤ most_total;
      flags : length l.used ≡ length l.coefs.list.now;
      used : Marks (map number l.coefs.list.now) (is_coefficient (map (numbered_layer number) l.layers.items)) l.fn.used l.used;
      read : with_front (map (numbered_layer number) l.layers.items) (many above_layer (layer_at (map number l.coefs.list.now)) (l.count - l.counter) (under l.below.width l.below.wires l.below.terms) l.rest)
          ≡ layers_at (map number l.coefs.list.now) l.inputs l.count l.bytes;
    }
