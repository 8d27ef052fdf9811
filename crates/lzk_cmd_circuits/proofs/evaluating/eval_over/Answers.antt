use Rattle.std.proofs.Common.{List, refl, subst, length, ap, ◌∙◌}
use Rattle.lzk_circuit.specs.Checks.{checks_of}
use Rattle.lzk_circuit.specs.Wires.{inputs_of}
use Rattle.lzk_cmd_circuits.specs.Evaluated.{EvalOver}
use Rattle.lzk_cmd_files.specs.Seen.{seen}
use Rattle.lzk_cmd_circuits.specs.CircuitSteps.{Evaluates}
use Rattle.lzk_cmd_circuits.proofs.Evals.{WithInputs, evaluates}
use Rattle.lzk_cmd_files.proofs.Inputs.{no_publics, no_privates, with_inputs}
use Rattle.lzk_cmd_files.proofs.Sights.{reads_then}
use Rattle.lzk_cmd_circuits.proofs.evaluating.eval_over.Goals as goal

pub returns-in_err-publics-clause-walks : goal.returns-in_err-publics-clause-walks
unfolding EvalOver
returns-in_err-publics-clause-walks g c =
    let circuit = c.args.circuit.now in
    let end = seen g.S.Shelf c.read_elements.new.shelf in
    no_publics g.F.Field.coding.size g.F.Field.coding.number circuit.publics circuit.privates c.args.public_file.now c.args.private_file.now (WithInputs g.F.Field.ops g.F.Field.coding.number circuit) ⊥ (seen g.S.Shelf c.args.shelf.now) end end end c.publics.result circuit.privates c.publics.ensures refl
    c.in_err-publics.field-0.0 _ c.in_err-publics.ensures.reads c.in_err-publics.ensures.gives c.from_residual.ensures.1

pub returns-in_err-privates-clause-walks : goal.returns-in_err-privates-clause-walks
unfolding EvalOver
returns-in_err-privates-clause-walks g c =
    let circuit = c.args.circuit.now in
    let end = seen g.S.Shelf c.read_elements-2.new.shelf in
    no_privates g.F.Field.coding.size g.F.Field.coding.number circuit.publics circuit.privates c.args.public_file.now c.args.private_file.now (WithInputs g.F.Field.ops g.F.Field.coding.number circuit) ⊥ (seen g.S.Shelf c.args.shelf.now) (seen g.S.Shelf c.read_elements.new.shelf) end end c.publics.result c.privates.result c.publics.ensures c.privates.ensures
    c.in_ok-publics.publics c.in_err-privates.field-0.0 _ c.in_ok-publics.ensures.reads c.in_ok-publics.ensures.gives c.in_err-privates.ensures.reads c.in_err-privates.ensures.gives c.from_residual-in_err-privates.ensures.1

pub returns-clause-walks : goal.returns-clause-walks
unfolding EvalOver
returns-clause-walks g c =
    let o = g.F.Field.ops in
    let circuit = c.args.circuit.now in
    let publics = c.in_ok-publics.publics in
    let privates = c.in_ok-privates.privates in
    let end = seen g.S.Shelf c.read_elements-2.new.shelf in
    let first = subst (λ (xs : List _). Evaluates o g.F.Field.coding.number (checks_of o g.F.Field.coding.number circuit.layers (inputs_of o xs c.deref-2.result.now)) c.evaluate.result) c.deref.ensures.value c.evaluate.ensures in
    let both = subst (λ (ys : List _). Evaluates o g.F.Field.coding.number (checks_of o g.F.Field.coding.number circuit.layers (inputs_of o publics.items ys)) c.evaluate.result) c.deref-2.ensures.value first in
    with_inputs g.F.Field.coding.size g.F.Field.coding.number circuit.publics circuit.privates c.args.public_file.now c.args.private_file.now (WithInputs o g.F.Field.coding.number circuit) ⊥ (seen g.S.Shelf c.args.shelf.now) (seen g.S.Shelf c.read_elements.new.shelf) end end c.publics.result c.privates.result c.publics.ensures c.privates.ensures
    publics privates c.evaluate.result c.in_ok-publics.ensures.reads c.in_ok-publics.ensures.gives c.in_ok-privates.ensures.reads c.in_ok-privates.ensures.gives
    (evaluates o g.F.Field.coding.number circuit publics.items privates.items end c.evaluate.result both)

pub returns-in_err-publics-clause-reads : goal.returns-in_err-publics-clause-reads
returns-in_err-publics-clause-reads g c = c.read_elements.ensures.reads

pub returns-in_err-privates-clause-reads : goal.returns-in_err-privates-clause-reads
returns-in_err-privates-clause-reads g c = reads_then (seen g.S.Shelf c.args.shelf.now) (seen g.S.Shelf c.read_elements.new.shelf) (seen g.S.Shelf c.read_elements-2.new.shelf) c.read_elements.ensures.reads c.read_elements-2.ensures.reads

pub returns-clause-reads : goal.returns-clause-reads
returns-clause-reads g c = reads_then (seen g.S.Shelf c.args.shelf.now) (seen g.S.Shelf c.read_elements.new.shelf) (seen g.S.Shelf c.read_elements-2.new.shelf) c.read_elements.ensures.reads c.read_elements-2.ensures.reads

pub evaluate-requires-clause-publics : goal.evaluate-requires-clause-publics
evaluate-requires-clause-publics g c κs within = ap length c.deref.ensures.value ∙ c.in_ok-publics.ensures.count ∙ c.publics.ensures

pub evaluate-requires-clause-privates : goal.evaluate-requires-clause-privates
evaluate-requires-clause-privates g c κs within = ap length c.deref-2.ensures.value ∙ c.in_ok-privates.ensures.count ∙ c.privates.ensures
