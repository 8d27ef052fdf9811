use Rattle.std.proofs.Common.{◌++◌, drop, map}
use Rattle.std.specs.Prelude.{All}
use Rattle.lzk_circbytes.specs.Numbered.{numbered_term}
use Rattle.lzk_circbytes.specs.Recent.{WasMet, HaveSame}
use Rattle.lzk_circbytes.proofs.encoding.push_coefficients.Given as goal

abbrev pub invariant-loop-t : goal.invariant-loop-t
invariant-loop-t g l =
    let view = numbered_term g.F.Field.coding.number in
    record {
      same : HaveSame (l.numbers.items ++ map (λ t. t.coef) (map view (drop l.t-index l.terms))) (l.fn.numbers.items ++ map (λ t. t.coef) (map view l.terms));
      met : All (WasMet l.numbers.items) l.met;
    }
