use Rattle.std.proofs.Common.{Option, map, refl, sym, ap, ◌∙◌, subst, arith}
use Rattle.lzk_batch.specs.Lists.{entry_view}
use Rattle.lzk_outside.specs.Outside.{Files}
use Rattle.lzk_cmd_batch.specs.Gathered.{AreKept}
use Rattle.lzk_cmd_batch.specs.declared.kept.CircuitFile.{CircuitFile}
use Rattle.lzk_cmd_batch.proofs.Keeping.{kept_ids}
use Rattle.lzk_cmd_files.specs.Seen.{seen}
use Rattle.lzk_cmd_batch.proofs.Gathers.{entry_at, short_at, reading_begins, reading_goes_on, reading_ends, ends_later}
use Rattle.lzk_cmd_files.proofs.Sights.{reads_then}
use Rattle.std.proofs.lemmas.Result.{IfOk-from_err}
use Rattle.lzk_cmd_batch.proofs.Gathers.{no_jobs}
use Rattle.lzk_cmd_batch.proofs.gathering.read_jobs.Goals as goal

pub loop-i-init : goal.loop-i-init
loop-i-init g c = reading_begins (seen g.S.Shelf c.args.shelf.now) (map entry_view c.args.entries.now) c.new-kept.result c.new-jobs.result.items c.new-kept.ensures.files c.new-kept.ensures.all c.new-jobs.ensures.items

pub read_job-requires-clause-short : goal.read_job-requires-clause-short
read_job-requires-clause-short g c = short_at c.args.entries.now c.loop-i.i c.index-entries-i.result c.loop-i-test.true c.index-entries-i.is c.requires.short

pub read_job-requires-clause-taken : goal.read_job-requires-clause-taken
read_job-requires-clause-taken g c = c.loop-i.invariant.total

pub read_job-requires-clause-kept : goal.read_job-requires-clause-kept
read_job-requires-clause-kept g c = subst (λ (told : Option Files). AreKept told c.loop-i.kept) (sym c.loop-i.invariant.reads.files) c.loop-i.invariant.kept_are

pub read_job-requires-clause-room : goal.read_job-requires-clause-room
read_job-requires-clause-room g c = omega (arith, c.loop-i.invariant.few, c.loop-i-test.true, c.requires.few)

pub returns-in_err-job-clause-gives : goal.returns-in_err-job-clause-gives
returns-in_err-job-clause-gives g c =
    let at = entry_at c.args.entries.now c.loop-i.i c.index-entries-i.result c.loop-i-test.true c.index-entries-i.is in
    ends_later (seen g.S.Shelf c.args.shelf.now) (seen g.S.Shelf c.loop-i.shelf) (seen g.S.Shelf c.read_job.new.shelf) (map entry_view c.args.entries.now) c.loop-i.i c.loop-i.taken c.loop-i.kept.all.items c.read_job.new.kept.all.items c.loop-i.jobs.items c.loop-i.invariant.read
    (entry_view c.index-entries-i.result) at c.loop-i.invariant.reads c.in_err-job.field-0.0 _ c.in_err-job.ensures.gives c.from_residual.ensures.1

pub returns-in_err-job-clause-reads : goal.returns-in_err-job-clause-reads
returns-in_err-job-clause-reads g c = reads_then (seen g.S.Shelf c.args.shelf.now) (seen g.S.Shelf c.loop-i.shelf) (seen g.S.Shelf c.read_job.new.shelf) c.loop-i.invariant.reads c.in_err-job.ensures.reads

pub returns-in_err-push-clause-reads : goal.returns-in_err-push-clause-reads
returns-in_err-push-clause-reads g c = reads_then (seen g.S.Shelf c.args.shelf.now) (seen g.S.Shelf c.loop-i.shelf) (seen g.S.Shelf c.read_job.new.shelf) c.loop-i.invariant.reads c.in_ok-job.ensures.reads

pub loop-i-preserved : goal.loop-i-preserved
loop-i-preserved g c =
    let at = entry_at c.args.entries.now c.loop-i.i c.index-entries-i.result c.loop-i-test.true c.index-entries-i.is in
    reading_goes_on (seen g.S.Shelf c.args.shelf.now) (seen g.S.Shelf c.loop-i.shelf) (seen g.S.Shelf c.read_job.new.shelf) (map entry_view c.args.entries.now) c.loop-i.i c.loop-i.taken c.loop-i.kept c.read_job.new.kept c.loop-i.jobs.items c.push.new.self.items c.loop-i.invariant
    (entry_view c.index-entries-i.result) at c.in_ok-job.job c.in_ok-job.all c.in_ok-job.ensures.reads c.in_ok-job.ensures.gives c.in_ok-job.ensures.kept c.in_ok-push.ensures.items

pub returns-clause-gives : goal.returns-clause-gives
returns-clause-gives g c =
    reading_ends (seen g.S.Shelf c.args.shelf.now) (seen g.S.Shelf c.loop-i.shelf) c.args.entries.now c.loop-i.i c.loop-i.taken c.loop-i.kept (record { circuits = c.loop-i.kept.all; ids = c.in_ok-ids.ids; jobs = c.loop-i.jobs }) c.loop-i.invariant c.requires.few c.loop-i.auto.i-end c.loop-i-test.false refl

pub returns-in_err-ids-clause-reads : goal.returns-in_err-ids-clause-reads
returns-in_err-ids-clause-reads g c = c.loop-i.invariant.reads

pub returns-clause-ids : goal.returns-clause-ids
returns-clause-ids g c =
    c.in_ok-ids.ensures ∙ ap (map (λ (file : CircuitFile). file.id)) c.deref.ensures.value ∙ kept_ids (g.S.Shelf.held c.args.shelf.now) c.loop-i.kept.files.items c.loop-i.kept.all.items c.loop-i.invariant.kept_are

pub returns-clause-reads : goal.returns-clause-reads
returns-clause-reads g c = c.loop-i.invariant.reads

pub returns-in_err-job-clause-ids : goal.returns-in_err-job-clause-ids
returns-in_err-job-clause-ids g c = IfOk-from_err _ _ c.from_residual.ensures.0

pub returns-in_err-push-clause-ids : goal.returns-in_err-push-clause-ids
returns-in_err-push-clause-ids g c = IfOk-from_err _ _ c.from_residual-in_err-push.ensures.0

pub returns-in_err-ids-clause-ids : goal.returns-in_err-ids-clause-ids
returns-in_err-ids-clause-ids g c = IfOk-from_err _ _ c.from_residual-in_err-ids.ensures.0

pub returns-in_err-push-clause-gives : goal.returns-in_err-push-clause-gives
returns-in_err-push-clause-gives g c = no_jobs (seen g.S.Shelf c.args.shelf.now) (seen g.S.Shelf c.read_job.new.shelf) (map entry_view c.args.entries.now) _ c.from_residual-in_err-push.ensures.1

pub returns-in_err-ids-clause-gives : goal.returns-in_err-ids-clause-gives
returns-in_err-ids-clause-gives g c = no_jobs (seen g.S.Shelf c.args.shelf.now) (seen g.S.Shelf c.loop-i.shelf) (map entry_view c.args.entries.now) _ c.from_residual-in_err-ids.ensures.1
