use Rattle.std.proofs.Common.{refl, sym, subst, arith}
use Rattle.lzk_merkle.specs.Nodes.{AreOpened}
use Rattle.lzk_layout.specs.declared.params.Params.{Params}
use Rattle.lzk_accept.specs.Challenges as accept
use Rattle.lzk_verify.proofs.intake.Intake.new.Goals as goal

pub returns-clause-lists : goal.returns-clause-lists
returns-clause-lists g c =
    let are = c.args.plan.now.are in
    let drawn = c.in-Ok-new-2.ensures in
    record {
      sent = c.in-Ok.ensures.sent;
      challenges = subst (λ (p : Params). accept.HasShape p c.in-Ok-new-2.drawn.challenges) (sym are) drawn.room.challenges;
      columns = drawn.room.columns;
      opened = subst (λ (p : Params). AreOpened p.mcol c.in-Ok-new-2.drawn.columns) (sym are) drawn.opened;
      column = c.in-Ok.ensures.column;
      leaves = c.in-Ok-new.ensures.leaves;
      rows = c.in-Ok-new.ensures.rows;
      digests = c.in-Ok-new.ensures.path;
      few = omega arith;
    }

pub returns-clause-public : goal.returns-clause-public
returns-clause-public g c = c.in-Ok.ensures.public

pub returns-clause-script : goal.returns-clause-script
returns-clause-script g c = c.in-Ok-new-2.ensures.room.script

pub returns-clause-drawn : goal.returns-clause-drawn
returns-clause-drawn g c = refl
