use Rattle.std.proofs.Common.{length, ap, ◌∙◌}
use Rattle.std.proofs.lemmas.List.{length-replicate}
use Rattle.lzk_verify.proofs.room.AnswerRoom.new.Goals as goal

pub returns-clause-answers : goal.returns-clause-answers
returns-clause-answers g c = c.in-Ok-new.ensures

pub returns-clause-inverses : goal.returns-clause-inverses
returns-clause-inverses g c = ap length c.in-Ok.ensures ∙ length-replicate c.args.plan.now.params.dblock g.F.Field.ops.zero
