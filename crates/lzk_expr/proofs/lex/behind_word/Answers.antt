use Rattle.std.proofs.Common.{sym, ◌∙◌}
use Rattle.lzk_expr.proofs.Bounds.{behind_short, behind_long}
use Rattle.lzk_expr.proofs.lex.behind_word.Goals as goal

pub returns-then-is_short_word : goal.returns-then-is_short_word
returns-then-is_short_word c = λ ts. behind_short c.args.word.now c.args.depth ts (sym c.is_short_word.ensures ∙ c.if-is_short_word.true)

pub returns : goal.returns
returns c = λ ts. behind_long c.args.word.now c.args.depth ts (sym c.is_short_word.ensures ∙ c.if-is_short_word.false)
