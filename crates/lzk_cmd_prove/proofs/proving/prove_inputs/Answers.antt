use Rattle.std.proofs.Common.{refl}
use Rattle.std.specs.Option.{option_copied}
use Rattle.lzk_cmd_files.specs.Seen.{seen}
use Rattle.lzk_cmd_files.specs.declared.ending.Halt.TheVariants as halts
use Rattle.lzk_cmd_prove.proofs.Proves.{no_memory}
use Rattle.lzk_cmd_files.proofs.Sights.{no_step, only_moves}
use Rattle.lzk_cmd_prove.proofs.proving.prove_inputs.Goals as goal

pub with_id-requires-clause-id : goal.with_id-requires-clause-id
with_id-requires-clause-id g c κs within = c.requires.id

pub returns-in_err-works-clause-walks : goal.returns-in_err-works-clause-walks
returns-in_err-works-clause-walks g c =
    let given = c.args.given.now in
    let task = c.args.task.now in
    no_memory g.F.Field.ops g.F.Field.coding given.circuit.now task.proof.now (option_copied task.digest) task.session.now (g.W.Words.at c.args.words.now) given.publics.now given.privates.now (seen g.S.Shelf c.args.shelf.now) halts.Memory _ refl c.from_residual.ensures.1

pub put_proof-ending-requires-clause-works : goal.put_proof-ending-requires-clause-works
put_proof-ending-requires-clause-works g c κs within = c.in_ok-works.ensures

pub returns-clause-walks : goal.returns-clause-walks
returns-clause-walks g c = c.put_proof-ending.ensures.walks

pub returns-clause-moves : goal.returns-clause-moves
returns-clause-moves g c = c.put_proof-ending.ensures.moves

pub returns-in_err-works-clause-moves : goal.returns-in_err-works-clause-moves
returns-in_err-works-clause-moves g c = only_moves (seen g.S.Shelf c.args.shelf.now) (seen g.S.Shelf c.args.shelf.now) (no_step (seen g.S.Shelf c.args.shelf.now))
