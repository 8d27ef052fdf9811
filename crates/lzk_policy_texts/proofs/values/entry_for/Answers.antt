use Rattle.std.proofs.Common.{sym, ap, ◌∙◌}
use Rattle.lzk_policy_texts.specs.Chosen.{has_name}
use Rattle.lzk_policy_texts.proofs.EntryNames.{found, found_twice, not_found, no_entry}
use Rattle.lzk_policy_texts.proofs.values.entry_for.Goals as goal

pub loop-i-preserved : goal.loop-i-preserved
loop-i-preserved c =
    sym (not_found c.args.name.now c.args.entries.now c.loop-i.i c.index-entries-i.result c.loop-i-test.true c.index-entries-i.is (sym c.is_named.ensures ∙ c.if-is_named.false)) ∙ c.loop-i.invariant

pub returns : goal.returns
returns c = sym c.loop-i.invariant ∙ no_entry c.args.name.now c.args.entries.now c.loop-i.i c.loop-i-test.false

pub returns-then-has_name : goal.returns-then-has_name
returns-then-has_name c =
    sym c.loop-i.invariant
    ∙ found_twice c.args.name.now c.args.entries.now c.loop-i.i c.index-entries-i.result c.loop-i-test.true c.index-entries-i.is (sym c.is_named.ensures ∙ c.if-is_named.true) (ap (λ es. has_name c.args.name.now es) (sym c.split_at.ensures.back) ∙ sym c.has_name.ensures ∙ c.if-has_name.true)

pub returns-then-is_named : goal.returns-then-is_named
returns-then-is_named c =
    sym c.loop-i.invariant
    ∙ found c.args.name.now c.args.entries.now c.loop-i.i c.index-entries-i.result c.loop-i-test.true c.index-entries-i.is (sym c.is_named.ensures ∙ c.if-is_named.true) (ap (λ es. has_name c.args.name.now es) (sym c.split_at.ensures.back) ∙ sym c.has_name.ensures ∙ c.if-has_name.false)
