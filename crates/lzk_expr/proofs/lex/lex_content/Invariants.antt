use Rattle.std.proofs.Common.{◌≡◌, ◌+◌, ◌-◌, ◌≤◌, length, drop}
use Rattle.lzk_expr.specs.Texts.{first_content}
use Rattle.lzk_expr.proofs.Lexing.{AreFound}
use Rattle.lzk_expr.proofs.lex.lex_content.Given as goal

abbrev pub invariant-loop-at : goal.invariant-loop-at
invariant-loop-at l = record {
  within : l.at ≤ length l.text;
  passed : length (first_content l.text) ≡ l.at + length (first_content (drop l.at l.text));
  found : AreFound (first_content l.text) (first_content (drop l.at l.text)) l.symbols.items l.depth;
}

abbrev pub decreases-loop-at : goal.decreases-loop-at
decreases-loop-at l = length l.text - l.at
