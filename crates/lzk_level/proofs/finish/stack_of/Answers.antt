use Rattle.std.proofs.Common.{sym, subst}
use Rattle.std.proofs.lemmas.Result.{IfOk-weaker, IfOk-from_err}
use Rattle.lzk_level.specs.Stacking.{AreNeededTo}
use Rattle.lzk_level.specs.Stacks.{AreAssertable, IsStack, IsStackOver}
use Rattle.lzk_level.specs.Uses.{node_form, AreUses}
use Rattle.lzk_level.proofs.GraphForms.{formed-graph, values-formed, weights-formed}
use Rattle.lzk_level.proofs.finish.stack_of.Goals as goal

pub last_uses-requires-clause-formed : goal.last_uses-requires-clause-formed
last_uses-requires-clause-formed g c κs within = formed-graph g.F.Field.ops c.args.inputs c.args.made c.args.depths.now c.in_ok-forms.forms c.requires.graph c.in_ok-forms.ensures

pub invariant_of-graph : goal.invariant_of-graph
invariant_of-graph g c = record {
  formed = formed-graph g.F.Field.ops c.args.inputs c.args.made c.args.depths.now c.in_ok-forms.forms c.requires.graph c.in_ok-forms.ensures;
  uses = subst (AreUses c.args.inputs c.in_ok-forms.forms c.args.depths.now) (sym c.deref.ensures.value) c.in_ok-last.ensures.uses;
}

pub stacked-requires-clause-used : goal.stacked-requires-clause-used
stacked-requires-clause-used g c κs within = subst (λ ls. AreNeededTo ls c.args.outputs.now c.args.count) (sym c.deref.ensures.value) c.in_ok-last.ensures.outputs

pub stacked-requires-clause-asserts : goal.stacked-requires-clause-asserts
stacked-requires-clause-asserts g c κs within = subst (λ ls. AreAssertable c.args.depths.now ls c.args.asserts.now c.args.count) (sym c.deref.ensures.value) c.in_ok-last.ensures.asserts

pub returns : goal.returns
returns g c =
    let o = g.F.Field.ops in
    let inputs = c.args.inputs in
    let made = c.args.made in
    let depths = c.args.depths.now in
    let forms = c.in_ok-forms.forms in
    let form = node_form inputs forms in
    let outputs = c.args.outputs.now in
    let asserts = c.args.asserts.now in
    let count = c.args.count in
    let graph = c.requires.graph in
    let are = c.in_ok-forms.ensures in
    IfOk-weaker c.stacked.result (λ s. IsStack o inputs form depths count outputs asserts s.0.items s.1.items) (λ s. IsStackOver o inputs made depths count outputs asserts s.0.items s.1.items)
    (λ s h. record { form = form; stack = h; values = values-formed o inputs made depths forms graph are; weights = weights-formed o inputs made depths forms graph are }) c.stacked.ensures

pub forms_of-result-requires-after_bounds : goal.forms_of-result-requires-after_bounds
forms_of-result-requires-after_bounds g c κs within = c.requires.graph

pub returns-in_err-forms : goal.returns-in_err-forms
returns-in_err-forms g c = IfOk-from_err _ _ c.from_residual.ensures.0

pub last_uses-requires-clause-outputs : goal.last_uses-requires-clause-outputs
last_uses-requires-clause-outputs g c κs within = c.requires.outputs

pub last_uses-requires-clause-asserts : goal.last_uses-requires-clause-asserts
last_uses-requires-clause-asserts g c κs within = c.requires.asserts

pub returns-in_err-last : goal.returns-in_err-last
returns-in_err-last g c = IfOk-from_err _ _ c.from_residual-in_err-last.ensures.0

pub stacked-requires-clause-outputs : goal.stacked-requires-clause-outputs
stacked-requires-clause-outputs g c κs within = c.requires.outputs
