use Rattle.std.proofs.Common.{sym, ap, not, ◌∙◌}
use Rattle.lzk_expr.specs.Texts.{is_plain}
use Rattle.lzk_expr.proofs.Runs.{place_here, place_none, len_behind}
use Rattle.lzk_expr.proofs.words.word_at.Goals as goal

pub returns-then-not-is_blank : goal.returns-then-not-is_blank
returns-then-not-is_blank c = place_here is_plain c.args.bytes.now c.loop-i.i c.loop-i.invariant c.loop-i-test.true (ap not (sym c.is_blank.ensures ∙ c.if-not-is_blank.true))

pub loop-i-preserved : goal.loop-i-preserved
loop-i-preserved c = len_behind is_plain c.args.bytes.now c.loop-i.i c.loop-i.invariant c.loop-i-test.true (ap not (sym c.is_blank.ensures ∙ c.if-not-is_blank.false))

pub returns : goal.returns
returns c = place_none is_plain c.args.bytes.now c.loop-i.i c.loop-i.invariant c.loop-i-test.false
