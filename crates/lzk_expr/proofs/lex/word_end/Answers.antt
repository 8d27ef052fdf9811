use Rattle.std.proofs.Common.{sym, ◌∙◌, arith}
use Rattle.std.proofs.lemmas.List.Sums.{prefix_len-drop_no, prefix_len-drop_yes}
use Rattle.lzk_expr.specs.Tokens.{in_word}
use Rattle.lzk_expr.proofs.lex.word_end.Goals as goal

pub returns-then-not-in_word-clause-end : goal.returns-then-not-in_word-clause-end
returns-then-not-in_word-clause-end c = omega (arith, c.loop-i.invariant, prefix_len-drop_no in_word c.args.line.now c.loop-i.i 0 c.loop-i-test.true (sym c.in_word.ensures ∙ c.if-not-in_word.true))

pub loop-i-preserved : goal.loop-i-preserved
loop-i-preserved c = omega (arith, c.loop-i.invariant, prefix_len-drop_yes in_word c.args.line.now c.loop-i.i 0 c.loop-i-test.true (sym c.in_word.ensures ∙ c.if-not-in_word.false))
