use Rattle.std.proofs.Common.{◌≡◌, ◌+◌, drop}
use Rattle.std.specs.List.{prefix_len}
use Rattle.lzk_expr.proofs.Told.{is_inner_symbol}
use Rattle.lzk_expr.proofs.line_forms.halves.Given as goal

abbrev pub invariant-loop-at : goal.invariant-loop-at
invariant-loop-at l = prefix_len is_inner_symbol l.symbols ≡ l.at + prefix_len is_inner_symbol (drop l.at l.symbols)
