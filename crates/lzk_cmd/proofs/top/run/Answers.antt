use Rattle.lzk_cmd.specs.Sights.{before, after}
use Rattle.lzk_cmd.proofs.DemoRuns.{demo_concluded, sha_concluded}
use Rattle.lzk_cmd.proofs.Promises.{concluded}
use Rattle.lzk_cmd.proofs.top.run.Goals as goal

pub returns-clause-run : goal.returns-clause-run
returns-clause-run g c =
    concluded (before g.S.Shelf g.K.Sink c.args.words.now c.args.shelf.now c.args.out.now) (after g.S.Shelf g.K.Sink c.conclude.result c.work-done.new.shelf c.conclude.new.out) c.work-done.ensures.moves c.conclude.ensures.quiet c.work-done.result c.work-done.ensures.works c.conclude.ensures.concludes

pub returns-clause-demo : goal.returns-clause-demo
returns-clause-demo g c =
    demo_concluded (before g.S.Shelf g.K.Sink c.args.words.now c.args.shelf.now c.args.out.now) (after g.S.Shelf g.K.Sink c.conclude.result c.work-done.new.shelf c.conclude.new.out) c.work-done.result c.work-done.ensures.unread c.conclude.ensures.concludes

pub returns-clause-made : goal.returns-clause-made
returns-clause-made g c =
    sha_concluded (before g.S.Shelf g.K.Sink c.args.words.now c.args.shelf.now c.args.out.now) (after g.S.Shelf g.K.Sink c.conclude.result c.work-done.new.shelf c.conclude.new.out) c.work-done.result c.work-done.ensures.unread c.conclude.ensures.concludes

pub returns-clause-laws : goal.returns-clause-laws
returns-clause-laws g c = c.run_laws.ensures

pub returns-clause-untouched : goal.returns-clause-untouched
returns-clause-untouched g c = c.work-done.ensures.untouched
