use Rattle.std.proofs.Common.{◌≡◌, true, false, length, Ok, sym, subst, ◌∙◌, ap}
use Rattle.lzk_circbytes.specs.declared.any.AnyCircuit.{AnyCircuit}
use Rattle.lzk_cmd_prove.specs.Hashed.{HashAny, is_for}
use Rattle.lzk_cmd_files.specs.Seen.{seen}
use Rattle.lzk_cmd_files.specs.Walks.{WalksToPut}
use Rattle.lzk_cmd_circuits.proofs.ShaFiles.{no_memory}
use Rattle.lzk_cmd_prove.proofs.Hashes.{proves_hash, refuses_counts, refuses_field}
use Rattle.lzk_cmd_files.proofs.Sights.{no_step, only_moves}
use Rattle.lzk_circbytes.specs.Files.{id_of_any}
use Rattle.lzk_cmd_prove.proofs.hashing.hash_any.Goals as goal

pub returns-then-is_for-clause-walks : goal.returns-then-is_for-clause-walks
returns-then-is_for-clause-walks g c =
    let name = c.args.name.now in
    let message = c.args.message.now in
    let task = c.args.task.now in
    let old = seen g.S.Shelf c.args.shelf.now in
    let new = seen g.S.Shelf c.prove_hash.new.shelf in
    let fits : is_for (length message) c.in-Gold.c ≡ true = sym c.is_for.ensures ∙ c.if-is_for.true in
    subst (λ (any : AnyCircuit). WalksToPut (λ files. HashAny name any message task.proof.now task.session.now task.seed) 1 old new c.prove_hash.result) (sym c.in-Gold.is)
    (proves_hash name message task.proof.now task.session.now task.seed c.in-Gold.c old new c.prove_hash.result fits c.prove_hash.ensures.walks)

pub returns-in_err-unfit-in-Gold-clause-walks : goal.returns-in_err-unfit-in-Gold-clause-walks
returns-in_err-unfit-in-Gold-clause-walks g c =
    let task = c.args.task.now in
    no_memory (λ files. HashAny c.args.name.now c.args.circuit.now c.args.message.now task.proof.now task.session.now task.seed) 1 (seen g.S.Shelf c.args.shelf.now) _ c.from_residual.ensures.1

pub returns-in_err-unfit-in-Gf-clause-walks : goal.returns-in_err-unfit-in-Gf-clause-walks
returns-in_err-unfit-in-Gf-clause-walks g c =
    let task = c.args.task.now in
    no_memory (λ files. HashAny c.args.name.now c.args.circuit.now c.args.message.now task.proof.now task.session.now task.seed) 1 (seen g.S.Shelf c.args.shelf.now) _ c.from_residual-in_err-unfit-in-Gf.ensures.1

pub returns-in_ok-unfit-in-Gold-clause-walks : goal.returns-in_ok-unfit-in-Gold-clause-walks
returns-in_ok-unfit-in-Gold-clause-walks g c =
    let name = c.args.name.now in
    let message = c.args.message.now in
    let task = c.args.task.now in
    let s = seen g.S.Shelf c.args.shelf.now in
    let e = c.in_ok-unfit-in-Gold.field-0 in
    let other : is_for (length message) c.in-Gold.c ≡ false = sym c.is_for.ensures ∙ c.if-is_for.false in
    subst (λ (any : AnyCircuit). WalksToPut (λ files. HashAny name any message task.proof.now task.session.now task.seed) 1 s s (Ok e)) (sym c.in-Gold.is) (refuses_counts name message task.proof.now task.session.now task.seed c.in-Gold.c s e other c.in_ok-unfit-in-Gold.ensures)

pub returns-in_ok-unfit-in-Gf-clause-walks : goal.returns-in_ok-unfit-in-Gf-clause-walks
returns-in_ok-unfit-in-Gf-clause-walks g c =
    let name = c.args.name.now in
    let message = c.args.message.now in
    let task = c.args.task.now in
    let s = seen g.S.Shelf c.args.shelf.now in
    let e = c.in_ok-unfit-in-Gf.field-0 in
    subst (λ (any : AnyCircuit). WalksToPut (λ files. HashAny name any message task.proof.now task.session.now task.seed) 1 s s (Ok e)) (sym c.in-Gf.is) (refuses_field name message task.proof.now task.session.now task.seed c.in-Gf.field-0 s e c.in_ok-unfit-in-Gf.ensures)

pub returns-then-is_for-clause-moves : goal.returns-then-is_for-clause-moves
returns-then-is_for-clause-moves g c = c.prove_hash.ensures.moves

pub returns-in_err-unfit-in-Gold-clause-moves : goal.returns-in_err-unfit-in-Gold-clause-moves
returns-in_err-unfit-in-Gold-clause-moves g c = only_moves (seen g.S.Shelf c.args.shelf.now) (seen g.S.Shelf c.args.shelf.now) (no_step (seen g.S.Shelf c.args.shelf.now))

pub returns-in_err-unfit-in-Gf-clause-moves : goal.returns-in_err-unfit-in-Gf-clause-moves
returns-in_err-unfit-in-Gf-clause-moves g c = only_moves (seen g.S.Shelf c.args.shelf.now) (seen g.S.Shelf c.args.shelf.now) (no_step (seen g.S.Shelf c.args.shelf.now))

pub returns-in_ok-unfit-in-Gold-clause-moves : goal.returns-in_ok-unfit-in-Gold-clause-moves
returns-in_ok-unfit-in-Gold-clause-moves g c = only_moves (seen g.S.Shelf c.args.shelf.now) (seen g.S.Shelf c.args.shelf.now) (no_step (seen g.S.Shelf c.args.shelf.now))

pub returns-in_ok-unfit-in-Gf-clause-moves : goal.returns-in_ok-unfit-in-Gf-clause-moves
returns-in_ok-unfit-in-Gf-clause-moves g c = only_moves (seen g.S.Shelf c.args.shelf.now) (seen g.S.Shelf c.args.shelf.now) (no_step (seen g.S.Shelf c.args.shelf.now))

pub prove_hash-requires-clause-digest : goal.prove_hash-requires-clause-digest
prove_hash-requires-clause-digest g c κs within = c.requires.digest

pub prove_hash-requires-clause-message : goal.prove_hash-requires-clause-message
prove_hash-requires-clause-message g c κs within = c.requires.message

pub prove_hash-requires-clause-id : goal.prove_hash-requires-clause-id
prove_hash-requires-clause-id g c κs within = c.requires.id ∙ ap id_of_any c.in-Gold.is
