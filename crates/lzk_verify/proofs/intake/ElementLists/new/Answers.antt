use Rattle.std.proofs.Common.{length, ap, ◌∙◌}
use Rattle.std.proofs.lemmas.List.{length-replicate}
use Rattle.lzk_verify.proofs.intake.ElementLists.new.Goals as goal

pub returns-clause-public : goal.returns-clause-public
returns-clause-public g c = ap length c.in-Ok.ensures ∙ length-replicate c.publics.result g.F.Field.ops.zero ∙ c.publics.ensures

pub returns-clause-sent : goal.returns-clause-sent
returns-clause-sent g c = ap length c.in-Ok-zeros.ensures ∙ length-replicate c.sent_count.result g.F.Field.ops.zero ∙ c.sent_count.ensures

pub returns-clause-column : goal.returns-clause-column
returns-clause-column g c = ap length c.in-Ok-zeros-2.ensures ∙ length-replicate c.args.plan.now.params.nrow g.F.Field.ops.zero
