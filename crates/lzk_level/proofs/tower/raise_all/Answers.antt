use Rattle.std.proofs.Common.{◌≡◌, ◌∙◌, ap, sym, subst, arith, reverse, map, suc, ℕ, ◌-◌, ◌+◌, ◌∷◌}
use Rattle.lzk_circuit.specs.Valid.{under_of}
use Rattle.lzk_circuit_reduce.specs.Renumbering.{at}
use Rattle.lzk_level.specs.Checking.{of_depth}
use Rattle.lzk_level.specs.Stacks.{IsStack, IsTower}
use Rattle.lzk_level.specs.Uses.{node_form}
use Rattle.lzk_level.specs.Wires.{AreWires, IsTopLayer}
use Rattle.lzk_level.proofs.StackLaws.{levels-end, turned}
use Rattle.std.proofs.lemmas.Result.{IfOk-from_err}
use Rattle.lzk_level.proofs.tower.raise_all.Goals as goal

pub raise-requires-clause-high : goal.raise-requires-clause-high
raise-requires-clause-high g c κs within = omega (arith, c.loop-level-test.true, c.requires.used.one)

pub raise-requires-clause-asserts : goal.raise-requires-clause-asserts
raise-requires-clause-asserts g c κs within = record { nodes = c.requires.asserts.nodes; used = λ i l. omega (arith, c.requires.asserts.used i l, c.loop-level-test.true) }

pub loop-level-preserved : goal.loop-level-preserved
loop-level-preserved g c =
    let graph = c.args.graph.now in
    let level = c.loop-level.level in
    let back : level ≡ level + 1 - 1 = omega arith in
    record {
      some = omega (arith, c.loop-level.invariant.some);
      tower = subst (λ n. IsTower g.F.Field.ops graph.inputs (node_form graph.inputs graph.forms.now) graph.depths.now graph.last.now c.args.asserts.now n c.raise.new.tower) back c.in_ok-raise.ensures;
    }

pub returns : goal.returns
returns g c =
    let o = g.F.Field.ops in
    let graph = c.args.graph.now in
    let inputs = graph.inputs in
    let forms = graph.forms.now in
    let form = node_form inputs forms in
    let depths = graph.depths.now in
    let last = graph.last.now in
    let asserts = c.args.asserts.now in
    let outputs = c.args.outputs.now in
    let count = c.args.count in
    let under = count - 1 in
    let q = c.requires.outputs in
    let above : count ≡ suc under = omega (arith, q.some) in
    let tower = c.loop-level.tower in
    let top : c.loop-level.level ≡ count = omega (arith, c.loop-level-test.false, c.loop-level.auto.level-end q.some) in
    let s = subst (λ n. IsTower o inputs form depths last asserts (n - 1) tower) top c.loop-level.invariant.tower in
    let layer = c.in_ok-layer.layer in
    let own = map (at c.deref.result.now) (of_depth depths under asserts) in
    let own_is : own ≡ map (at tower.below.items) (of_depth depths under asserts) = ap (λ ns. map (at ns) (of_depth depths under asserts)) c.deref.ensures.value in
    let made = subst (λ ns. (n : ℕ) → AreWires depths last under n ns → IsTopLayer o inputs form depths last under n ns outputs layer) c.deref-2.ensures.value c.in_ok-layer.ensures in
    let t = made (under_of inputs (reverse tower.layers.items)).width s.levels.wires in
    let all = levels-end o inputs forms depths last asserts graph.formed under count layer (reverse tower.layers.items) own (reverse tower.targets.items) tower.below.items outputs above c.requires.asserts own_is q.few q.nodes t s.levels in
    subst (λ ls. IsStack o inputs form depths count outputs asserts ls c.reverse-2.new.self.items) (sym (c.reverse.ensures.items ∙ turned tower.layers.items c.push.new.self.items layer c.in_ok-push.ensures.items))
    (subst (λ ws. IsStack o inputs form depths count outputs asserts (layer ∷ reverse tower.layers.items) ws) (sym (c.reverse-2.ensures.items ∙ turned tower.targets.items c.add_targets.new.targets.items own c.in_ok-add_targets.ensures)) all)

pub loop-level-init : goal.loop-level-init
loop-level-init g c = record { some = omega arith; tower = c.requires.tower }

pub raise-requires-clause-some : goal.raise-requires-clause-some
raise-requires-clause-some g c κs within = c.loop-level.invariant.some

pub raise-requires-clause-tower : goal.raise-requires-clause-tower
raise-requires-clause-tower g c κs within = c.loop-level.invariant.tower

pub returns-in_err-raise : goal.returns-in_err-raise
returns-in_err-raise g c = IfOk-from_err _ _ c.from_residual.ensures.0

pub returns-in_err-add_targets : goal.returns-in_err-add_targets
returns-in_err-add_targets g c = IfOk-from_err _ _ c.from_residual-in_err-add_targets.ensures.0

pub returns-in_err-layer : goal.returns-in_err-layer
returns-in_err-layer g c = IfOk-from_err _ _ c.from_residual-in_err-layer.ensures.0

pub returns-in_err-push : goal.returns-in_err-push
returns-in_err-push g c = IfOk-from_err _ _ c.from_residual-in_err-push.ensures.0

pub overflow_sub-count : goal.overflow_sub-count
overflow_sub-count g c = c.requires.outputs.some

pub top_layer-requires-clause-outputs : goal.top_layer-requires-clause-outputs
top_layer-requires-clause-outputs g c κs within = c.requires.outputs

pub top_layer-requires-clause-used : goal.top_layer-requires-clause-used
top_layer-requires-clause-used g c κs within = c.requires.used
