use Rattle.std.proofs.Common.{◌≡◌, ◌++◌, drop, map, reverse}
use Rattle.lzk_circbytes.specs.Numbered.{numbered_layer}
use Rattle.lzk_circbytes.specs.Spelling.{layers_bytes}
use Rattle.lzk_circbytes.proofs.encoding.push_layers.Given as goal

abbrev pub invariant-loop-i : goal.invariant-loop-i
invariant-loop-i g l =
    let view = numbered_layer g.F.Field.coding.number in
    l.out.items ++ layers_bytes l.constants.numbers.now 0 (drop l.i (reverse (map view l.circuit.layers))) ≡ l.fn.out.items ++ layers_bytes l.constants.numbers.now 0 (reverse (map view l.circuit.layers))
