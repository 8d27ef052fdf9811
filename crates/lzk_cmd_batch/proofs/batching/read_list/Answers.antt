use Rattle.std.proofs.lemmas.Result.{IfOk-from_err}
use Rattle.lzk_cmd_batch.proofs.Batches.{all_short}
use Rattle.lzk_cmd_files.specs.Seen.{seen}
use Rattle.lzk_cmd_files.proofs.Steps.{no_bytes, decoded}
use Rattle.lzk_cmd_batch.specs.Batched.{list_files}
use Rattle.lzk_cmd_batch.proofs.Batches.{few_jobs, jobs_of}
use Rattle.lzk_cmd_batch.proofs.batching.read_list.Goals as goal

pub returns-clause-short : goal.returns-clause-short
returns-clause-short g c = all_short c.args.name.now c.deref.result.now c.list_of.result c.list_of.ensures

pub returns-in_err-text-clause-reads : goal.returns-in_err-text-clause-reads
returns-in_err-text-clause-reads g c = c.read_file.ensures.reads

pub returns-in_err-text-clause-few : goal.returns-in_err-text-clause-few
returns-in_err-text-clause-few g c = IfOk-from_err _ _ c.from_residual.ensures.0

pub returns-in_err-text-clause-short : goal.returns-in_err-text-clause-short
returns-in_err-text-clause-short g c = IfOk-from_err _ _ c.from_residual.ensures.0

pub returns-clause-reads : goal.returns-clause-reads
returns-clause-reads g c = c.read_file.ensures.reads

pub returns-in_err-text-clause-gives : goal.returns-in_err-text-clause-gives
returns-in_err-text-clause-gives g c = no_bytes list_files jobs_of c.args.name.now (seen g.S.Shelf c.args.shelf.now) (seen g.S.Shelf c.read_file.new.shelf) _ c.in_err-text.field-0.0 c.in_err-text.ensures.gives c.from_residual.ensures.1

pub returns-clause-gives : goal.returns-clause-gives
returns-clause-gives g c =
    decoded list_files jobs_of c.args.name.now (seen g.S.Shelf c.args.shelf.now) (seen g.S.Shelf c.read_file.new.shelf) _ c.in_ok-text.text.items c.deref.result.now c.deref.ensures.value c.in_ok-text.ensures.gives c.list_of.ensures

pub returns-clause-few : goal.returns-clause-few
returns-clause-few g c = few_jobs c.args.name.now c.deref.result.now c.list_of.result c.list_of.ensures
