use Rattle.std.proofs.Common.{◌+◌, ◌≤◌, List, length, drop}
use Rattle.lzk_expr.specs.Tokens.{Token}
use Rattle.lzk_expr.specs.TokenReadings.{AreTold}
use Rattle.lzk_expr.proofs.SumWordLaws.{IsBegun}
use Rattle.lzk_expr.proofs.sum_words.push_sum.Given as goal

abbrev pub invariant-loop-symbol : goal.invariant-loop-symbol
invariant-loop-symbol l = record {
  depth : l.syntax.depth ≤ l.symbol-index;
  few : length l.numbers.items ≤ length l.fn.numbers.items + l.symbol-index;
  begun : (ts : List Token) → AreTold l.symbols ts
      → IsBegun l.field l.names.table (drop l.symbol-index l.symbols) l.syntax l.fn.words.items l.words.items l.fn.numbers.items l.numbers.items l.known l.below ts;
}
