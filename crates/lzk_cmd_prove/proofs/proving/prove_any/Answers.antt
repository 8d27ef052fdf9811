use Rattle.std.proofs.Common.{ℕ, List, ap, sym, subst, ◌∙◌}
use Rattle.lzk_circbytes.specs.declared.any.AnyCircuit.{AnyCircuit}
use Rattle.lzk_circbytes.specs.declared.any.AnyCircuit.TheVariants.{Gold, Gf}
use Rattle.lzk_circbytes.specs.Files.{id_of_any}
use Rattle.lzk_cmd_files.specs.Seen.{seen}
use Rattle.lzk_cmd_files.specs.Walks.{WalksToPut}
use Rattle.lzk_cmd_prove.specs.Proved.{ProveAny}
use Rattle.lzk_cmd_prove.proofs.proving.prove_any.Goals as goal

pub returns-in-Gold-clause-moves : goal.returns-in-Gold-clause-moves
returns-in-Gold-clause-moves g c = c.prove_over.ensures.moves

pub returns-in-Gf-clause-moves : goal.returns-in-Gf-clause-moves
returns-in-Gf-clause-moves g c = c.prove_over-in-Gf.ensures.moves

pub prove_over-requires-clause-digest : goal.prove_over-requires-clause-digest
prove_over-requires-clause-digest g c κs within = c.requires.digest

pub prove_over-requires-in-Gf-clause-digest : goal.prove_over-requires-in-Gf-clause-digest
prove_over-requires-in-Gf-clause-digest g c κs within = c.requires.digest

pub prove_over-requires-clause-id : goal.prove_over-requires-clause-id
prove_over-requires-clause-id g c κs within = c.requires.id ∙ ap id_of_any c.in-Gold.is

pub prove_over-requires-in-Gf-clause-id : goal.prove_over-requires-in-Gf-clause-id
prove_over-requires-in-Gf-clause-id g c κs within = c.requires.id ∙ ap id_of_any c.in-Gf.is

pub returns-in-Gold-clause-walks : goal.returns-in-Gold-clause-walks
returns-in-Gold-clause-walks g c =
    let task = c.args.task.now in
    let old = seen g.S.Shelf c.args.shelf.now in
    let new = seen g.S.Shelf c.prove_over.new.shelf in
    let put = subst (λ (seed : List ℕ). WalksToPut (ProveAny (Gold c.in-Gold.c) c.args.public_file.now c.args.private_file.now task.proof.now task.session.now seed) 1 old new c.prove_over.result) c.gold_words.ensures c.prove_over.ensures.walks in
    subst (λ (any : AnyCircuit). WalksToPut (ProveAny any c.args.public_file.now c.args.private_file.now task.proof.now task.session.now task.seed) 1 old new c.prove_over.result) (sym c.in-Gold.is) put

pub returns-in-Gf-clause-walks : goal.returns-in-Gf-clause-walks
returns-in-Gf-clause-walks g c =
    let task = c.args.task.now in
    let old = seen g.S.Shelf c.args.shelf.now in
    let new = seen g.S.Shelf c.prove_over-in-Gf.new.shelf in
    let put = subst (λ (seed : List ℕ). WalksToPut (ProveAny (Gf c.in-Gf.c) c.args.public_file.now c.args.private_file.now task.proof.now task.session.now seed) 1 old new c.prove_over-in-Gf.result) c.new.ensures c.prove_over-in-Gf.ensures.walks in
    subst (λ (any : AnyCircuit). WalksToPut (ProveAny any c.args.public_file.now c.args.private_file.now task.proof.now task.session.now task.seed) 1 old new c.prove_over-in-Gf.result) (sym c.in-Gf.is) put
