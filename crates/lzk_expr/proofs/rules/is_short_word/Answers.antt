use Rattle.std.proofs.Common.{sym, ◌∙◌, length}
use Rattle.lzk_expr.proofs.Bounds.{le_test, short_word, long_word}
use Rattle.lzk_expr.proofs.rules.is_short_word.Goals as goal

pub returns-then-word-le32 : goal.returns-then-word-le32
returns-then-word-le32 c = le_test (length c.args.word.now) 32 c.if-word-le32.true ∙ sym (short_word c.args.word.now c.if-word-le32.true)

pub returns-else-word-le32 : goal.returns-else-word-le32
returns-else-word-le32 c = c.is_digit.ensures ∙ sym (long_word c.args.word.now c.if-word-le32.false)
