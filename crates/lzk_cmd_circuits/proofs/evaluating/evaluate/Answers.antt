use Rattle.std.proofs.Common.{List, subst}
use Rattle.lzk_cmd_circuits.specs.CircuitSteps.{IsEvaluation, Evaluates}
use Rattle.lzk_cmd_files.specs.declared.ending.Halt.TheVariants as halts
use Rattle.lzk_cmd_files.proofs.Steps.{handed_on}
use Rattle.lzk_circuit.specs.Checks.{checks_of}
use Rattle.lzk_circuit.specs.Wires.{inputs_of}
use Rattle.lzk_cmd_circuits.proofs.evaluating.evaluate.Goals as goal

pub returns : goal.returns
returns g c = subst (λ (xs : List _). IsEvaluation g.F.Field.ops g.F.Field.coding.number xs c.in_ok-ending.field-0) c.eval.ensures.checks c.in_ok-ending.ensures

pub eval-requires-clause-publics : goal.eval-requires-clause-publics
eval-requires-clause-publics g c κs within = c.requires.publics

pub eval-requires-clause-privates : goal.eval-requires-clause-privates
eval-requires-clause-privates g c κs within = c.requires.privates

pub returns-in_err-values : goal.returns-in_err-values
returns-in_err-values g c =
    let f = g.F.Field in
    handed_on (Evaluates f.ops f.coding.number (checks_of f.ops f.coding.number c.args.circuit.now.layers (inputs_of f.ops c.args.publics.now c.args.privates.now))) _ halts.Memory c.from_residual.ensures.1 tt

pub returns-in_err-ending : goal.returns-in_err-ending
returns-in_err-ending g c =
    let f = g.F.Field in
    handed_on (Evaluates f.ops f.coding.number (checks_of f.ops f.coding.number c.args.circuit.now.layers (inputs_of f.ops c.args.publics.now c.args.privates.now))) _ halts.Memory c.from_residual-in_err-ending.ensures.1 tt
