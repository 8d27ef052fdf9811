use Rattle.std.proofs.Common.{sym, ◌∙◌}
use Rattle.lzk_cmd_batch.proofs.Keeping.{place_at, other_at}
use Rattle.lzk_cmd_batch.proofs.kept.place_of.Goals as goal

pub returns-then-eq-clause-some : goal.returns-then-eq-clause-some
returns-then-eq-clause-some c = place_at c.args.files.now c.args.name.now c.loop-i.i _ c.loop-i-test.true (sym c.eq.ensures ∙ c.if-eq.true)

pub loop-i-preserved : goal.loop-i-preserved
loop-i-preserved c = other_at c.args.files.now c.args.name.now c.loop-i.i _ c.loop-i-test.true (sym c.eq.ensures ∙ c.if-eq.false) c.loop-i.invariant
