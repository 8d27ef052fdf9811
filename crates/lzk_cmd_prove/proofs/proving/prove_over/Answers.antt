use Rattle.std.proofs.Common.{ℕ, List, Option, None, refl, subst, length, ap, ◌∙◌}
use Rattle.lzk_cmd_prove.specs.Proved.{ProveOver}
use Rattle.lzk_cmd_files.specs.Seen.{seen}
use Rattle.lzk_cmd_files.specs.Walks.{WalksToPut}
use Rattle.lzk_cmd_files.proofs.Inputs.{no_publics, no_privates, with_inputs}
use Rattle.lzk_cmd_prove.proofs.Proves.{WithInputs}
use Rattle.lzk_cmd_files.proofs.Sights.{only_moves, reads_then, moves_then}
use Rattle.lzk_cmd_prove.proofs.proving.prove_over.Goals as goal

pub returns-in_err-publics-clause-walks : goal.returns-in_err-publics-clause-walks
unfolding ProveOver
returns-in_err-publics-clause-walks g c =
    let e = g.F.Field.coding in
    let circuit = c.args.circuit.now in
    let task = c.args.task.now in
    let end = seen g.S.Shelf c.read_elements.new.shelf in
    no_publics e.size e.number circuit.publics circuit.privates c.args.public_file.now c.args.private_file.now (WithInputs g.F.Field.ops e circuit task.proof.now None task.session.now (g.W.Words.at c.args.words.now)) (Unit {0}) (seen g.S.Shelf c.args.shelf.now) end end end c.publics.result circuit.privates c.publics.ensures refl
    c.in_err-publics.field-0.0 _ c.in_err-publics.ensures.reads c.in_err-publics.ensures.gives c.from_residual.ensures.1

pub returns-in_err-privates-clause-walks : goal.returns-in_err-privates-clause-walks
unfolding ProveOver
returns-in_err-privates-clause-walks g c =
    let e = g.F.Field.coding in
    let circuit = c.args.circuit.now in
    let task = c.args.task.now in
    let end = seen g.S.Shelf c.read_elements-2.new.shelf in
    no_privates e.size e.number circuit.publics circuit.privates c.args.public_file.now c.args.private_file.now (WithInputs g.F.Field.ops e circuit task.proof.now None task.session.now (g.W.Words.at c.args.words.now)) (Unit {0}) (seen g.S.Shelf c.args.shelf.now) (seen g.S.Shelf c.read_elements.new.shelf) end end c.publics.result c.privates.result c.publics.ensures c.privates.ensures
    c.in_ok-publics.publics c.in_err-privates.field-0.0 _ c.in_ok-publics.ensures.reads c.in_ok-publics.ensures.gives c.in_err-privates.ensures.reads c.in_err-privates.ensures.gives c.from_residual-in_err-privates.ensures.1

pub returns-clause-walks : goal.returns-clause-walks
unfolding ProveOver
returns-clause-walks g c =
    let o = g.F.Field.ops in
    let e = g.F.Field.coding in
    let circuit = c.args.circuit.now in
    let task = c.args.task.now in
    let publics = c.in_ok-publics.publics in
    let privates = c.in_ok-privates.privates in
    let late = seen g.S.Shelf c.read_elements-2.new.shelf in
    let end = seen g.S.Shelf c.prove_inputs.new.shelf in
    let plain = subst (λ (d : Option (List ℕ)). WalksToPut (WithInputs o e circuit task.proof.now d task.session.now (g.W.Words.at c.args.words.now) c.as_slice.result.now c.as_slice-2.result.now) 3 late end c.prove_inputs.result) c.requires.digest c.prove_inputs.ensures.walks in
    let first = subst (λ (xs : List _). WalksToPut (WithInputs o e circuit task.proof.now None task.session.now (g.W.Words.at c.args.words.now) xs c.as_slice-2.result.now) 3 late end c.prove_inputs.result) c.as_slice.ensures.value plain in
    let both = subst (λ (ys : List _). WalksToPut (WithInputs o e circuit task.proof.now None task.session.now (g.W.Words.at c.args.words.now) publics.items ys) 3 late end c.prove_inputs.result) c.as_slice-2.ensures.value first in
    with_inputs e.size e.number circuit.publics circuit.privates c.args.public_file.now c.args.private_file.now (WithInputs o e circuit task.proof.now None task.session.now (g.W.Words.at c.args.words.now)) (Unit {0}) (seen g.S.Shelf c.args.shelf.now) (seen g.S.Shelf c.read_elements.new.shelf) late end c.publics.result c.privates.result c.publics.ensures c.privates.ensures
    publics privates c.prove_inputs.result c.in_ok-publics.ensures.reads c.in_ok-publics.ensures.gives c.in_ok-privates.ensures.reads c.in_ok-privates.ensures.gives both

pub returns-in_err-publics-clause-moves : goal.returns-in_err-publics-clause-moves
returns-in_err-publics-clause-moves g c = only_moves (seen g.S.Shelf c.args.shelf.now) (seen g.S.Shelf c.read_elements.new.shelf) c.read_elements.ensures.reads

pub returns-in_err-privates-clause-moves : goal.returns-in_err-privates-clause-moves
returns-in_err-privates-clause-moves g c =
    let mid = seen g.S.Shelf c.read_elements.new.shelf in
    let end = seen g.S.Shelf c.read_elements-2.new.shelf in
    only_moves (seen g.S.Shelf c.args.shelf.now) end (reads_then (seen g.S.Shelf c.args.shelf.now) mid end c.read_elements.ensures.reads c.read_elements-2.ensures.reads)

pub invariant_of-given : goal.invariant_of-given
invariant_of-given g c =
    record {
      publics_fit = ap length c.as_slice.ensures.value ∙ c.in_ok-publics.ensures.count ∙ c.publics.ensures;
      privates_fit = ap length c.as_slice-2.ensures.value ∙ c.in_ok-privates.ensures.count ∙ c.privates.ensures;
    }

pub prove_inputs-requires-clause-id : goal.prove_inputs-requires-clause-id
prove_inputs-requires-clause-id g c κs within = c.requires.id

pub returns-clause-moves : goal.returns-clause-moves
returns-clause-moves g c =
    let mid = seen g.S.Shelf c.read_elements.new.shelf in
    let late = seen g.S.Shelf c.read_elements-2.new.shelf in
    moves_then (seen g.S.Shelf c.args.shelf.now) late (seen g.S.Shelf c.prove_inputs.new.shelf) (reads_then (seen g.S.Shelf c.args.shelf.now) mid late c.read_elements.ensures.reads c.read_elements-2.ensures.reads) c.prove_inputs.ensures.moves
