use Rattle.lzk_cmd_files.specs.Seen.{seen}
use Rattle.lzk_cmd_verify.proofs.Halts.{halts_at}
use Rattle.std.proofs.Common.{refl}
use Rattle.lzk_cmd_files.specs.declared.ending.Halt.TheVariants as halts
use Rattle.lzk_cmd_files.proofs.Steps.{handed_on}
use Rattle.lzk_cmd_files.proofs.Sights.{no_step}
use Rattle.lzk_cmd_verify.specs.Feeding.{FeedsOrEnds}
use Rattle.lzk_cmd_verify.proofs.feeding.feed_proof.Goals as goal

pub returns-in-Err-clause-gives : goal.returns-in-Err-clause-gives
returns-in-Err-clause-gives g c =
    let f = g.F.Field in
    let told = c.in-Err.ensures in
    halts_at f.ops f.coding (seen g.S.Shelf c.args.shelf.now) (seen g.S.Shelf c.feed_file-fed.new.shelf) c.args.name.now c.args.desk.now c.feed_file-fed.new.desk c.in-Err.fault c.halt_of.result
    told.told told.missing told.fault c.halt_of.ensures

pub returns-in-Err-clause-fed : goal.returns-in-Err-clause-fed
returns-in-Err-clause-fed g c = c.in-Err.ensures.fed

pub returns-in-Err-clause-circuit : goal.returns-in-Err-clause-circuit
returns-in-Err-clause-circuit g c = c.in-Err.ensures.circuit

pub returns-in-Err-clause-reads : goal.returns-in-Err-clause-reads
returns-in-Err-clause-reads g c = c.in-Err.ensures.reads

pub returns-in-Ok-clause-fed : goal.returns-in-Ok-clause-fed
returns-in-Ok-clause-fed g c = c.in-Ok.ensures.fed

pub returns-in-Ok-clause-circuit : goal.returns-in-Ok-clause-circuit
returns-in-Ok-clause-circuit g c = c.in-Ok.ensures.circuit

pub returns-in-Ok-clause-reads : goal.returns-in-Ok-clause-reads
returns-in-Ok-clause-reads g c = c.in-Ok.ensures.reads

pub returns-in-Ok-clause-gives : goal.returns-in-Ok-clause-gives
returns-in-Ok-clause-gives g c = c.in-Ok.ensures.told

pub returns-in_err-buffer-clause-circuit : goal.returns-in_err-buffer-clause-circuit
returns-in_err-buffer-clause-circuit g c = refl

pub returns-in_err-buffer-clause-fed : goal.returns-in_err-buffer-clause-fed
returns-in_err-buffer-clause-fed g c = c.requires.fed

pub returns-in_err-buffer-clause-reads : goal.returns-in_err-buffer-clause-reads
returns-in_err-buffer-clause-reads g c = no_step (seen g.S.Shelf c.args.shelf.now)

pub returns-in_err-buffer-clause-gives : goal.returns-in_err-buffer-clause-gives
returns-in_err-buffer-clause-gives g c = handed_on (FeedsOrEnds g.F.Field.ops g.F.Field.coding (seen g.S.Shelf c.args.shelf.now) (seen g.S.Shelf c.args.shelf.now) c.args.name.now c.args.desk.now c.args.desk.now) _ halts.Memory c.from_residual.ensures.1 tt

pub feed_file-fed-requires-clause-fed : goal.feed_file-fed-requires-clause-fed
feed_file-fed-requires-clause-fed g c κs within = c.requires.fed
