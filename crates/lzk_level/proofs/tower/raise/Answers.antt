use Rattle.std.proofs.Common.{◌≡◌, ◌∙◌, ap, sym, subst, arith, reverse, length, map, suc, ℕ, ◌-◌, ◌∷◌}
use Rattle.std.proofs.lemmas.List.{with_items_is}
use Rattle.lzk_circuit.specs.Valid.{under_of}
use Rattle.lzk_circuit_reduce.specs.Renumbering.{at}
use Rattle.lzk_level.specs.Checking.{of_depth}
use Rattle.lzk_level.specs.Stacking.{ArePassed}
use Rattle.lzk_level.specs.Stacks.{AreLevels}
use Rattle.lzk_level.specs.Uses.{node_form}
use Rattle.lzk_level.specs.Wires.{AreWires, IsLevelLayer}
use Rattle.lzk_level.proofs.StackLaws.{levels-add, passed-above, turned}
use Rattle.std.proofs.lemmas.Result.{IfOk-from_err}
use Rattle.lzk_level.proofs.tower.raise.Goals as goal

pub pass_nodes-most-requires : goal.pass_nodes-most-requires
pass_nodes-most-requires g c = subst (λ ns. ArePassed c.args.graph.now.last.now ns c.args.level) (sym c.deref_mut.ensures.value) (passed-above c.args.graph.now.last.now c.args.tower.now.next.items (c.args.level - 1) c.args.level (omega arith) c.requires.tower.passed)

pub inner_layer-requires-clause-room : goal.inner_layer-requires-clause-room
inner_layer-requires-clause-room g c κs within = ap length c.deref_mut-2.ensures.value ∙ c.requires.tower.room

pub returns : goal.returns
returns g c =
    let o = g.F.Field.ops in
    let graph = c.args.graph.now in
    let inputs = graph.inputs in
    let forms = graph.forms.now in
    let form = node_form inputs forms in
    let depths = graph.depths.now in
    let last = graph.last.now in
    let asserts = c.args.asserts.now in
    let level = c.args.level in
    let under = level - 1 in
    let above : level ≡ suc under = omega (arith, c.requires.some) in
    let tower = c.args.tower.now in
    let s = c.requires.tower in
    let layer = c.in_ok-layer.layer in
    let here = c.inner_layer.new.here in
    let own = map (at c.deref.result.now) (of_depth depths under asserts) in
    let width = (under_of inputs (reverse tower.layers.items)).width in
    let own_is : own ≡ map (at tower.below.items) (of_depth depths under asserts) = ap (λ ns. map (at ns) (of_depth depths under asserts)) c.deref.ensures.value in
    let made = subst (λ ns. (n : ℕ) → AreWires depths last under n ns → IsLevelLayer o inputs form depths last under level n ns here layer) c.deref-3.ensures.value c.in_ok-layer.ensures in
    let t = made width s.levels.wires in
    let kept : length here ≡ tower.here.len = omega (arith, t.wires.count, s.room, tower.here.ok.0) in
    let next = c.pass_nodes-most.new.next in
    let passed = c.pass_nodes-most.ensures in
    let kept_next : length next ≡ tower.next.len = omega (arith, passed.passed.count, s.passed.count, tower.next.ok.0) in
    let numbers : c.swap.new.x.items ≡ here = ap (λ v. v.items) c.swap.ensures.x_after ∙ with_items_is tower.here here kept in
    let all = levels-add o inputs forms depths last asserts graph.formed under level layer (reverse tower.layers.items) own (reverse tower.targets.items) tower.below.items here above c.requires.asserts own_is t s.levels in
    record {
      passed = subst (λ ns. ArePassed last ns level) (sym (with_items_is tower.next next kept_next)) passed.passed;
      room = ap (λ v. length v.items) c.swap.ensures.y_after ∙ s.levels.wires.count;
      levels =
          subst (λ ns. AreLevels o inputs form depths last asserts level (reverse c.push.new.self.items) (reverse c.add_targets.new.targets.items) ns) (sym numbers)
          (subst (λ ws. AreLevels o inputs form depths last asserts level (reverse c.push.new.self.items) ws here) (sym (turned tower.targets.items c.add_targets.new.targets.items own c.in_ok-add_targets.ensures))
          (subst (λ ls. AreLevels o inputs form depths last asserts level ls (own ∷ reverse tower.targets.items) here) (sym (turned tower.layers.items c.push.new.self.items layer c.in_ok-push.ensures.items)) all));
    }

pub overflow_sub-level : goal.overflow_sub-level
overflow_sub-level g c = c.requires.some

pub returns-in_err-add_targets : goal.returns-in_err-add_targets
returns-in_err-add_targets g c = IfOk-from_err _ _ c.from_residual.ensures.0

pub returns-in_err-layer : goal.returns-in_err-layer
returns-in_err-layer g c = IfOk-from_err _ _ c.from_residual-in_err-layer.ensures.0

pub returns-in_err-push : goal.returns-in_err-push
returns-in_err-push g c = IfOk-from_err _ _ c.from_residual-in_err-push.ensures.0

pub inner_layer-requires-clause-some : goal.inner_layer-requires-clause-some
inner_layer-requires-clause-some g c κs within = c.requires.some

pub inner_layer-requires-clause-high : goal.inner_layer-requires-clause-high
inner_layer-requires-clause-high g c κs within = c.requires.high

pub inner_layer-requires-clause-wires : goal.inner_layer-requires-clause-wires
inner_layer-requires-clause-wires g c κs within = c.pass_nodes-most.ensures.some

pub inner_layer-requires-clause-passed : goal.inner_layer-requires-clause-passed
inner_layer-requires-clause-passed g c κs within =
    let tower = c.args.tower.now in
    let next = c.pass_nodes-most.new.next in
    let passed = c.pass_nodes-most.ensures.passed in
    let kept : length next ≡ tower.next.len = omega (arith, passed.count, c.requires.tower.passed.count, tower.next.ok.0) in
    subst (λ ns. ArePassed c.args.graph.now.last.now ns c.args.level) (sym (c.deref-2.ensures.value ∙ with_items_is tower.next next kept)) passed
