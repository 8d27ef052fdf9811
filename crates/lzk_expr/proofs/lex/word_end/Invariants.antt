use Rattle.std.proofs.Common.{◌≡◌, ◌+◌, drop}
use Rattle.std.specs.List.{prefix_len}
use Rattle.lzk_expr.specs.Tokens.{in_word}
use Rattle.lzk_expr.proofs.lex.word_end.Given as goal

abbrev pub invariant-loop-i : goal.invariant-loop-i
invariant-loop-i l = l.from + prefix_len in_word (drop l.from l.line) ≡ l.i + prefix_len in_word (drop l.i l.line)
