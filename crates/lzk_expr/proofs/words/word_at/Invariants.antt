use Rattle.std.proofs.Common.{◌≡◌, ◌+◌, drop}
use Rattle.std.specs.List.{position_or_len}
use Rattle.lzk_expr.specs.Texts.{is_plain}
use Rattle.lzk_expr.proofs.words.word_at.Given as goal

abbrev pub invariant-loop-i : goal.invariant-loop-i
invariant-loop-i l = position_or_len is_plain l.bytes ≡ l.i + position_or_len is_plain (drop l.i l.bytes)
