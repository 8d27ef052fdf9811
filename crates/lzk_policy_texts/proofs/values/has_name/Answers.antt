use Rattle.std.proofs.Common.{sym, ◌∙◌}
use Rattle.lzk_policy_texts.proofs.EntryNames.{named, unnamed, no_name}
use Rattle.lzk_policy_texts.proofs.values.has_name.Goals as goal

pub returns-then-is_named : goal.returns-then-is_named
returns-then-is_named c =
    sym (sym c.loop-entry.invariant ∙ named c.args.name.now c.args.entries.now c.loop-entry.entry-index c.entry-item.result c.loop-entry-test.true c.entry-item.is (sym c.is_named.ensures ∙ c.if-is_named.true))

pub loop-entry-preserved : goal.loop-entry-preserved
loop-entry-preserved c =
    sym (unnamed c.args.name.now c.args.entries.now c.loop-entry.entry-index c.entry-item.result c.loop-entry-test.true c.entry-item.is (sym c.is_named.ensures ∙ c.if-is_named.false)) ∙ c.loop-entry.invariant

pub returns : goal.returns
returns c = sym (sym c.loop-entry.invariant ∙ no_name c.args.name.now c.args.entries.now c.loop-entry.entry-index c.loop-entry-test.false)
