use Rattle.lzk_cmd_files.specs.Seen.{seen, seen_sink}
use Rattle.lzk_credential_run.specs.Runs.{texts}
use Rattle.lzk_credential_run.specs.Words.{command_of}
use Rattle.lzk_credential_run.proofs.RunEnds.{status_small}
use Rattle.lzk_credential_run.proofs.running.run.Goals as goal

pub returns-clause-run : goal.returns-clause-run
returns-clause-run g c = record { done = c.work-done.result; works = c.work-done.ensures; prints = c.conclude.ensures.concludes }

pub returns-clause-status : goal.returns-clause-status
returns-clause-status g c =
    status_small (command_of (texts c.args.words.now)) (seen g.S.Shelf c.args.shelf.now) (seen g.S.Shelf c.work-done.new.shelf) (seen_sink g.K.Sink c.args.out.now) (seen_sink g.K.Sink c.conclude.new.out) c.work-done.result c.conclude.result c.work-done.ensures c.conclude.ensures.concludes
