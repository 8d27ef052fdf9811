use Rattle.std.proofs.Common.{sym, ◌∙◌}
use Rattle.lzk_policy_texts.proofs.EntryNames.{asked, stray, no_stray}
use Rattle.lzk_policy_texts.proofs.values.refuse_strays.Goals as goal

pub returns-then-not-is_asked : goal.returns-then-not-is_asked
returns-then-not-is_asked c =
    sym (sym c.loop-entry.invariant ∙ stray c.args.shows.now c.args.entries.now c.loop-entry.entry-index c.entry-item.result c.loop-entry-test.true c.entry-item.is (sym c.is_asked.ensures ∙ c.if-not-is_asked.true))

pub loop-entry-preserved : goal.loop-entry-preserved
loop-entry-preserved c =
    sym (asked c.args.shows.now c.args.entries.now c.loop-entry.entry-index c.entry-item.result c.loop-entry-test.true c.entry-item.is (sym c.is_asked.ensures ∙ c.if-not-is_asked.false)) ∙ c.loop-entry.invariant

pub returns : goal.returns
returns c = sym (sym c.loop-entry.invariant ∙ no_stray c.args.shows.now c.args.entries.now c.loop-entry.entry-index c.loop-entry-test.false)
