use Rattle.lzk_cmd_files.proofs.Sights.{reads_then}
use Rattle.std.proofs.Common.{All, ◌≤◌, length, map, ap, sym, subst}
use Rattle.lzk_cmd_batch.specs.Gathered.{IsShort}
use Rattle.lzk_batch.specs.Lists.{entry_view}
use Rattle.lzk_cmd_files.specs.Seen.{seen}
use Rattle.lzk_cmd_batch.proofs.Batches.{no_list, no_jobs, tells}
use Rattle.lzk_cmd_batch.proofs.Batches.{no_memory}
use Rattle.lzk_cmd_batch.proofs.batching.batch.Goals as goal

pub returns-in_err-entries-clause-walks : goal.returns-in_err-entries-clause-walks
returns-in_err-entries-clause-walks g c =
    no_list c.args.list.now (seen g.S.Shelf c.args.shelf.now) (seen g.S.Shelf c.read_list.new.shelf) c.in_err-entries.field-0.0 _ c.in_err-entries.ensures.reads c.in_err-entries.ensures.gives c.from_residual.ensures.1

pub returns-in_err-gathered-clause-walks : goal.returns-in_err-gathered-clause-walks
returns-in_err-gathered-clause-walks g c =
    no_jobs c.args.list.now (seen g.S.Shelf c.args.shelf.now) (seen g.S.Shelf c.read_list.new.shelf) (seen g.S.Shelf c.read_jobs.new.shelf) c.in_ok-entries.entries c.in_ok-entries.ensures.reads c.in_ok-entries.ensures.gives c.in_err-gathered.ensures.reads
    (map entry_view c.deref.result.now) c.in_err-gathered.field-0.0 _ (ap (map entry_view) c.deref.ensures.value) c.in_err-gathered.ensures.gives c.from_residual-in_err-gathered.ensures.1

pub returns-clause-walks : goal.returns-clause-walks
returns-clause-walks g c =
    tells c.args.list.now (seen g.S.Shelf c.args.shelf.now) (seen g.S.Shelf c.read_list.new.shelf) (seen g.S.Shelf c.read_jobs.new.shelf) c.in_ok-entries.entries c.in_ok-entries.ensures.reads c.in_ok-entries.ensures.gives c.in_ok-gathered.ensures.reads
    (map entry_view c.deref.result.now) c.in_ok-gathered.gathered c.in_ok-judge.field-0 (ap (map entry_view) c.deref.ensures.value) c.in_ok-gathered.ensures.gives c.in_ok-judge.ensures

pub returns-in_err-entries-clause-reads : goal.returns-in_err-entries-clause-reads
returns-in_err-entries-clause-reads g c = c.read_list.ensures.reads

pub returns-in_err-gathered-clause-reads : goal.returns-in_err-gathered-clause-reads
returns-in_err-gathered-clause-reads g c = reads_then (seen g.S.Shelf c.args.shelf.now) (seen g.S.Shelf c.read_list.new.shelf) (seen g.S.Shelf c.read_jobs.new.shelf) c.read_list.ensures.reads c.read_jobs.ensures.reads

pub returns-in_err-judge-clause-reads : goal.returns-in_err-judge-clause-reads
returns-in_err-judge-clause-reads g c = reads_then (seen g.S.Shelf c.args.shelf.now) (seen g.S.Shelf c.read_list.new.shelf) (seen g.S.Shelf c.read_jobs.new.shelf) c.read_list.ensures.reads c.read_jobs.ensures.reads

pub returns-clause-reads : goal.returns-clause-reads
returns-clause-reads g c = reads_then (seen g.S.Shelf c.args.shelf.now) (seen g.S.Shelf c.read_list.new.shelf) (seen g.S.Shelf c.read_jobs.new.shelf) c.read_list.ensures.reads c.read_jobs.ensures.reads

pub returns-in_err-judge-clause-walks : goal.returns-in_err-judge-clause-walks
returns-in_err-judge-clause-walks g c =
    no_memory c.args.list.now (seen g.S.Shelf c.args.shelf.now) (seen g.S.Shelf c.read_list.new.shelf) (seen g.S.Shelf c.read_jobs.new.shelf) c.in_ok-entries.entries c.in_ok-entries.ensures.reads c.in_ok-entries.ensures.gives c.in_ok-gathered.ensures.reads
    _ c.from_residual-in_err-judge.ensures.1

pub read_jobs-requires-clause-few : goal.read_jobs-requires-clause-few
read_jobs-requires-clause-few g c = subst (λ xs. length xs ≤ 256) (sym c.deref.ensures.value) c.in_ok-entries.ensures.few

pub read_jobs-requires-clause-short : goal.read_jobs-requires-clause-short
read_jobs-requires-clause-short g c = subst (λ xs. All IsShort (map entry_view xs)) (sym c.deref.ensures.value) c.in_ok-entries.ensures.short

pub judge-requires-clause-held : goal.judge-requires-clause-held
judge-requires-clause-held g c κs within = (c.in_ok-gathered.ensures.gives.all.reads, c.in_ok-gathered.ensures.gives.all.held)

pub judge-requires-clause-ids : goal.judge-requires-clause-ids
judge-requires-clause-ids g c κs within = c.in_ok-gathered.ensures.ids

pub judge-requires-clause-few : goal.judge-requires-clause-few
judge-requires-clause-few g c κs within = c.in_ok-gathered.ensures.gives.few

pub judge-requires-clause-some : goal.judge-requires-clause-some
judge-requires-clause-some g c κs within = c.workers_of.ensures.some

pub judge-requires-clause-most : goal.judge-requires-clause-most
judge-requires-clause-most g c κs within = c.workers_of.ensures.most
