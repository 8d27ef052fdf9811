use Rattle.std.proofs.Common.{arith, ◌∙◌}
use Rattle.lzk_cmd_files.proofs.Printing.{appends_more, rest_is}
use Rattle.lzk_cmd_files.proofs.print.print.Goals as goal

pub loop-done-preserved : goal.loop-done-preserved
loop-done-preserved g c =
    let before = c.loop-done.invariant in
    let wrote = c.in_ok-done.ensures in
    record {
      within = (let n = wrote.within in omega arith);
      front = appends_more (g.K.Sink.written c.args.out.now) (g.K.Sink.written c.loop-done.out) (g.K.Sink.written c.write.new.self) c.args.text.now c.loop-done.done c.in_ok-done.field-0 before.front (rw (rest_is c.args.text.now c.loop-done.done) at wrote.ok);
      later = (let n = wrote.cause.later in omega arith);
      quiet = record { never = wrote.kept ∙ before.quiet.never; uncounted = λ h. wrote.uncounted (before.quiet.never ∙ h) ∙ before.quiet.uncounted h };
    }
