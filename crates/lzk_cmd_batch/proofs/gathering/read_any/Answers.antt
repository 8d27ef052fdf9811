use Rattle.std.proofs.Common.{sym, subst}
use Rattle.lzk_batch.specs.Lists.{entry_view}
use Rattle.lzk_batch.specs.declared.job.Job.TheVariants as jobs
use Rattle.lzk_circbytes.specs.declared.any.AnyCircuit.{AnyCircuit}
use Rattle.lzk_cmd_batch.specs.Gathered.{GivesAny, ReadsAny}
use Rattle.lzk_cmd_files.specs.Seen.{seen}
use Rattle.lzk_cmd_batch.proofs.Gathers.{gold_ends, gf_ends, gold_reads, gf_reads}
use Rattle.lzk_cmd_batch.proofs.gathering.read_any.Goals as goal

pub returns-in_err-job-in-Gold-clause-gives : goal.returns-in_err-job-in-Gold-clause-gives
returns-in_err-job-in-Gold-clause-gives g c =
    let old = seen g.S.Shelf c.args.shelf.now in
    let new = seen g.S.Shelf c.read_over.new.shelf in
    let entry = entry_view c.args.entry.now in
    subst (λ (k : AnyCircuit). GivesAny k old new entry c.args.place c.args.taken c.from_residual.result) (sym c.in-Gold.is)
    (gold_ends old new entry c.args.place c.args.taken c.in_err-job-in-Gold.field-0.0 c.from_residual.result c.from_residual.ensures.1 c.in-Gold.c c.in_err-job-in-Gold.ensures.gives)

pub returns-in_err-job-in-Gf-clause-gives : goal.returns-in_err-job-in-Gf-clause-gives
returns-in_err-job-in-Gf-clause-gives g c =
    let old = seen g.S.Shelf c.args.shelf.now in
    let new = seen g.S.Shelf c.read_over-in-Gf.new.shelf in
    let entry = entry_view c.args.entry.now in
    subst (λ (k : AnyCircuit). GivesAny k old new entry c.args.place c.args.taken c.from_residual-in_err-job-in-Gf.result) (sym c.in-Gf.is)
    (gf_ends old new entry c.args.place c.args.taken c.in_err-job-in-Gf.field-0.0 c.from_residual-in_err-job-in-Gf.result c.from_residual-in_err-job-in-Gf.ensures.1 c.in-Gf.c c.in_err-job-in-Gf.ensures.gives)

pub returns-in_ok-job-in-Gold-clause-gives : goal.returns-in_ok-job-in-Gold-clause-gives
returns-in_ok-job-in-Gold-clause-gives g c =
    let told = g.S.Shelf.held c.args.shelf.now in
    let entry = entry_view c.args.entry.now in
    subst (λ (k : AnyCircuit). ReadsAny k told entry c.args.place c.args.taken (jobs.Gold c.in_ok-job-in-Gold.job) c.in_ok-job-in-Gold.taken) (sym c.in-Gold.is)
    (gold_reads told entry c.args.place c.args.taken c.in_ok-job-in-Gold.taken c.in-Gold.c c.in_ok-job-in-Gold.job c.in_ok-job-in-Gold.ensures.gives)

pub returns-in_ok-job-in-Gf-clause-gives : goal.returns-in_ok-job-in-Gf-clause-gives
returns-in_ok-job-in-Gf-clause-gives g c =
    let told = g.S.Shelf.held c.args.shelf.now in
    let entry = entry_view c.args.entry.now in
    subst (λ (k : AnyCircuit). ReadsAny k told entry c.args.place c.args.taken (jobs.Gf c.in_ok-job-in-Gf.job) c.in_ok-job-in-Gf.taken) (sym c.in-Gf.is)
    (gf_reads told entry c.args.place c.args.taken c.in_ok-job-in-Gf.taken c.in-Gf.c c.in_ok-job-in-Gf.job c.in_ok-job-in-Gf.ensures.gives)

pub returns-in_err-job-in-Gold-clause-reads : goal.returns-in_err-job-in-Gold-clause-reads
returns-in_err-job-in-Gold-clause-reads g c = c.read_over.ensures.reads

pub returns-in_err-job-in-Gf-clause-reads : goal.returns-in_err-job-in-Gf-clause-reads
returns-in_err-job-in-Gf-clause-reads g c = c.read_over-in-Gf.ensures.reads

pub returns-in_ok-job-in-Gold-clause-reads : goal.returns-in_ok-job-in-Gold-clause-reads
returns-in_ok-job-in-Gold-clause-reads g c = c.read_over.ensures.reads

pub returns-in_ok-job-in-Gf-clause-reads : goal.returns-in_ok-job-in-Gf-clause-reads
returns-in_ok-job-in-Gf-clause-reads g c = c.read_over-in-Gf.ensures.reads
