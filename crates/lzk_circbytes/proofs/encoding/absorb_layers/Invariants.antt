use Rattle.std.proofs.Common.{drop, map, reverse}
use Rattle.sha2.specs.Hashers.{Holds256}
use Rattle.lzk_circbytes.specs.Numbered.{numbered_layer}
use Rattle.lzk_circbytes.proofs.Absorbing.{Absorbed}
use Rattle.lzk_circbytes.proofs.encoding.absorb_layers.Given as goal

abbrev pub invariant-loop-i : goal.invariant-loop-i
invariant-loop-i g l =
    let ls = reverse (map (numbered_layer g.F.Field.coding.number) l.circuit.layers) in
    Absorbed Holds256 l.constants.numbers.now l.fn.hasher l.hasher (drop l.i ls) ls
