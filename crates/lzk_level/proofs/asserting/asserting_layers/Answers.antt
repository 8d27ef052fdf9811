use Rattle.std.proofs.Common.{◌∙◌, ap, subst, length, map, arith}
use Rattle.std.proofs.lemmas.Result.{IfOk-weaker, IfOk-from_err}
use Rattle.lzk_circuit_reduce.specs.Attached.{IsAssertingForm}
use Rattle.lzk_circuit_reduce.specs.Renumbering.{at}
use Rattle.lzk_level.specs.Checking.{of_depth, AreAsserting}
use Rattle.lzk_level.specs.Stacks.{IsStackOver}
use Rattle.lzk_level.proofs.CheckingLaws.{depth-few}
use Rattle.lzk_level.proofs.FinishLaws.{greatest-some}
use Rattle.lzk_level.proofs.StackedLaws.{IsReady, tops, stack-ready, stack-asserting}
use Rattle.lzk_level.proofs.asserting.asserting_layers.Given.{Over}
use Rattle.lzk_level.proofs.asserting.asserting_layers.Goals.{In_ok-layers}
use Rattle.lzk_level.proofs.asserting.asserting_layers.Goals as goal

pub stack_of-requires-clause-outputs : goal.stack_of-requires-clause-outputs
stack_of-requires-clause-outputs g c κs within =
    let depths = c.args.depths.now in
    let asserts = c.args.asserts.now in
    let count = c.args.count in
    let own = c.deref.ensures.value ∙ c.in_ok-outputs.ensures in
    let t = tops depths asserts c.deref.result.now count (λ i l. (c.requires.nodes i l).1) own in
    record {
      some = omega (arith, c.requires.is, greatest-some 1 (map (at depths) asserts));
      few = omega (arith, ap length own, depth-few depths count asserts, c.requires.few);
      nodes = λ i l. (t i l).within;
      deep = λ i l. omega (arith, (t i l).deep_as);
    }

pub stack_of-requires-clause-asserts : goal.stack_of-requires-clause-asserts
stack_of-requires-clause-asserts g c κs within i l = (c.requires.nodes i l).1

-- the stack of the asserted nodes' layers
stack : (g : Over) (c : In_ok-layers g) → IsStackOver g.F.Field.ops c.args.inputs c.args.made c.args.depths.now c.args.count (of_depth c.args.depths.now c.args.count c.args.asserts.now) c.args.asserts.now c.in_ok-layers.layers.items c.in_ok-layers.targets.items
stack g c = subst (λ ks. IsStackOver g.F.Field.ops c.args.inputs c.args.made c.args.depths.now c.args.count ks c.args.asserts.now c.in_ok-layers.layers.items c.in_ok-layers.targets.items) (c.deref.ensures.value ∙ c.in_ok-outputs.ensures) c.in_ok-layers.ensures

-- which is what the reduction asks
ready : (g : Over) (c : In_ok-layers g) → IsReady g.F.Field.ops c.args.inputs c.in_ok-layers.layers.items c.in_ok-layers.targets.items
ready g c =
    let s = stack g c in
    stack-ready g.F.Field.ops c.args.inputs c.args.made c.args.depths.now c.args.asserts.now s.form c.args.count c.requires s.values s.weights c.in_ok-layers.layers.items c.in_ok-layers.targets.items s.stack

pub asserting_used-requires-clause-some : goal.asserting_used-requires-clause-some
asserting_used-requires-clause-some g c κs within = (ready g c).some

pub asserting_used-requires-clause-terms : goal.asserting_used-requires-clause-terms
asserting_used-requires-clause-terms g c κs within = (ready g c).terms

pub asserting_used-requires-clause-layers : goal.asserting_used-requires-clause-layers
asserting_used-requires-clause-layers g c κs within = (ready g c).layers_are

pub asserting_used-requires-clause-ones : goal.asserting_used-requires-clause-ones
asserting_used-requires-clause-ones g c κs within = (ready g c).ones

pub asserting_used-requires-clause-different : goal.asserting_used-requires-clause-different
asserting_used-requires-clause-different g c κs within = (ready g c).different

pub asserting_used-requires-clause-targets : goal.asserting_used-requires-clause-targets
asserting_used-requires-clause-targets g c κs within = (ready g c).targets

pub asserting_used-requires-clause-lists : goal.asserting_used-requires-clause-lists
asserting_used-requires-clause-lists g c κs within = (ready g c).lists

pub asserting_used-requires-clause-checks : goal.asserting_used-requires-clause-checks
asserting_used-requires-clause-checks g c κs within = (ready g c).checks

pub asserting_used-requires-clause-narrow : goal.asserting_used-requires-clause-narrow
asserting_used-requires-clause-narrow g c κs within = (ready g c).narrow

pub asserting_used-requires-clause-few_wires : goal.asserting_used-requires-clause-few_wires
asserting_used-requires-clause-few_wires g c κs within = (ready g c).few_wires

pub asserting_used-requires-clause-few_terms : goal.asserting_used-requires-clause-few_terms
asserting_used-requires-clause-few_terms g c κs within = (ready g c).few_terms

pub returns : goal.returns
returns g c =
    let o = g.F.Field.ops in
    let number = g.F.Field.coding.number in
    let inputs = c.args.inputs in
    let made = c.args.made in
    let depths = c.args.depths.now in
    let asserts = c.args.asserts.now in
    let count = c.args.count in
    let layers = c.in_ok-layers.layers.items in
    let ws = c.in_ok-layers.targets.items in
    let s = stack g (goal.at.returns g c).In_ok-layers in
    IfOk-weaker c.asserting_used.result (λ ls. IsAssertingForm o number inputs ws layers ls.items) (λ ls. AreAsserting o number inputs made depths asserts count ls.items)
    (λ ls h. stack-asserting o inputs made depths asserts s.form count c.requires s.values s.weights layers ws s.stack number ls.items h) c.asserting_used.ensures

pub returns-in_err-outputs : goal.returns-in_err-outputs
returns-in_err-outputs g c = IfOk-from_err _ _ c.from_residual.ensures.0

pub returns-in_err-layers : goal.returns-in_err-layers
returns-in_err-layers g c = IfOk-from_err _ _ c.from_residual-in_err-layers.ensures.0

pub stack_of-requires-clause-graph : goal.stack_of-requires-clause-graph
stack_of-requires-clause-graph g c κs within = c.requires.graph
