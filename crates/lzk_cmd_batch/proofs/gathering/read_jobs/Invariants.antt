use Rattle.std.proofs.Common.{map}
use Rattle.lzk_batch.specs.Lists.{entry_view}
use Rattle.lzk_cmd_files.specs.Seen.{seen}
use Rattle.lzk_cmd_batch.proofs.Gathers.{Reading}
use Rattle.lzk_cmd_batch.proofs.gathering.read_jobs.Given as goal

abbrev pub invariant-loop-i : goal.invariant-loop-i
invariant-loop-i g l = Reading (seen g.S.Shelf l.fn.shelf) (seen g.S.Shelf l.shelf) (map entry_view l.entries) l.i l.taken l.kept l.jobs.items
