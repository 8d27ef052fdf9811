use Rattle.std.proofs.Common.{◌++◌, drop, map}
use Rattle.std.specs.Prelude.{All}
use Rattle.lzk_circbytes.specs.Numbered.{numbered_layer, coefficients, coefs_of}
use Rattle.lzk_circbytes.specs.Recent.{WasMet, HaveSame}
use Rattle.lzk_circbytes.proofs.encoding.coefs_of.Given as goal

abbrev pub invariant-loop-l : goal.invariant-loop-l
invariant-loop-l g l =
    let view = numbered_layer g.F.Field.coding.number in
    record {
      same : HaveSame (l.numbers.items ++ coefficients (map view (drop l.l l.circuit.layers))) (coefs_of l.circuit.version (coefficients (map view l.circuit.layers)));
      met : All (WasMet l.numbers.items) l.met;
    }
