use Rattle.std.proofs.Common.{sym, ◌∙◌}
use Rattle.lzk_expr.specs.Texts.{is_blank}
use Rattle.lzk_expr.proofs.Runs.{len_here, len_end, len_behind}
use Rattle.lzk_expr.proofs.words.word_len.Goals as goal

pub returns-then-is_blank-clause-len : goal.returns-then-is_blank-clause-len
returns-then-is_blank-clause-len c = len_here is_blank c.args.bytes.now c.loop-i.i c.loop-i.invariant c.loop-i-test.true (sym c.is_blank.ensures ∙ c.if-is_blank.true)

pub loop-i-preserved : goal.loop-i-preserved
loop-i-preserved c = len_behind is_blank c.args.bytes.now c.loop-i.i c.loop-i.invariant c.loop-i-test.true (sym c.is_blank.ensures ∙ c.if-is_blank.false)

pub returns-clause-len : goal.returns-clause-len
returns-clause-len c = len_end is_blank c.args.bytes.now c.loop-i.i c.loop-i.invariant c.loop-i-test.false
