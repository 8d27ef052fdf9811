use Rattle.std.proofs.Common.{◌≡◌, ◌∙◌, refl, sym, subst, arith, length}
use Rattle.std.proofs.lemmas.List.{get_or_default}
use Rattle.lzk_circuit_reduce.specs.Renumbering.{at}
use Rattle.lzk_level.specs.Uses.{node_form}
use Rattle.lzk_level.specs.Wires.{IsDue, IsNodeRow}
use Rattle.lzk_level.proofs.TopLaws.{outer-starts, outer-adds, outer-ends}
use Rattle.std.proofs.lemmas.Result.{IfOk-from_err}
use Rattle.lzk_level.proofs.wires.top_layer.Goals as goal

pub loop-g-init : goal.loop-g-init
loop-g-init g c =
    let graph = c.args.graph.now in
    outer-starts g.F.Field.ops graph.inputs (node_form graph.inputs graph.forms.now) graph.depths.now graph.last.now c.args.level c.args.below.now c.args.outputs.now c.new-terms.result.items c.new-terms.ensures.items

pub node_row-requires-clause-due : goal.node_row-requires-clause-due
node_row-requires-clause-due g c κs within =
    let graph = c.args.graph.now in
    let outputs = c.args.outputs.now in
    let i = c.loop-g.g in
    let l = c.loop-g-test.true in
    let number : c.number.result ≡ at outputs i = c.number.ensures ∙ c.index-outputs-g.is ∙ get_or_default outputs i c.index-outputs-g.result 0 l in
    let q = c.requires.outputs in
    subst (IsDue graph.depths.now graph.last.now c.args.level) (sym number) (record { some = q.some; node = q.nodes i l; up = q.deep i l; used = c.requires.used.each i l })

pub loop-g-preserved : goal.loop-g-preserved
loop-g-preserved g c =
    let o = g.F.Field.ops in
    let graph = c.args.graph.now in
    let inputs = graph.inputs in
    let form = node_form inputs graph.forms.now in
    let depths = graph.depths.now in
    let last = graph.last.now in
    let level = c.args.level in
    let below = c.args.below.now in
    let outputs = c.args.outputs.now in
    let i = c.loop-g.g in
    let l = c.loop-g-test.true in
    let e = c.in_ok-append.ensures in
    let own = c.in_ok-node_row.ensures in
    let row = c.deref.result.now in
    let number : c.number.result ≡ at outputs i = c.number.ensures ∙ c.index-outputs-g.is ∙ get_or_default outputs i c.index-outputs-g.result 0 l in
    outer-adds o inputs form depths last level below outputs i c.loop-g.terms.items c.append.new.terms.items row l c.requires.outputs.nodes
    (subst (λ k. IsNodeRow o inputs form depths last level below k row) number (subst (IsNodeRow o inputs form depths last level below c.number.result) (sym c.deref.ensures.value) own))
    e.terms e.before e.added e.count c.loop-g.invariant

pub returns : goal.returns
returns g c width w =
    let graph = c.args.graph.now in
    let outputs = c.args.outputs.now in
    let top : c.loop-g.g ≡ length outputs = omega (arith, c.loop-g-test.false, c.loop-g.auto.g-end) in
    outer-ends g.F.Field.ops graph.inputs (node_form graph.inputs graph.forms.now) graph.depths.now graph.last.now c.args.level c.args.below.now outputs width c.loop-g.g c.loop-g.terms.items (record { wires = length outputs; terms = c.new.result })
    top refl c.new.ensures w c.loop-g.invariant

pub returns-in_err-node_row : goal.returns-in_err-node_row
returns-in_err-node_row g c width w = IfOk-from_err _ _ c.from_residual.ensures.0

pub returns-in_err-append : goal.returns-in_err-append
returns-in_err-append g c width w = IfOk-from_err _ _ c.from_residual-in_err-append.ensures.0

pub bounds-outputs-g : goal.bounds-outputs-g
bounds-outputs-g g c = c.loop-g-test.true

pub overflow_cast-number : goal.overflow_cast-number
overflow_cast-number g c = omega (arith, c.number.type_inv)

pub overflow_cast-g : goal.overflow_cast-g
overflow_cast-g g c = omega (arith, c.loop-g-test.true, c.requires.outputs.few)

pub overflow_cast-result : goal.overflow_cast-result
overflow_cast-result g c = omega (arith, c.requires.outputs.few)
