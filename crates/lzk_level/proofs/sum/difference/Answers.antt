use Rattle.std.proofs.Common.{◌≡◌, ◌∙◌, ◌≤◌, ◌-◌, ap, sym, subst, length, take, drop, arith}
use Rattle.std.proofs.lemmas.Result.{IfOk-weaker}
use Rattle.lzk_level.specs.Compiling.{there, difference}
use Rattle.lzk_level.specs.Gates.{Combine}
use Rattle.lzk_level.specs.Nodes.{node_count, with_gate, ArePartsOf}
use Rattle.lzk_level.proofs.FlatGateLaws.{not-ok}
use Rattle.lzk_level.proofs.ResultLaws.{on-ok}
use Rattle.lzk_level.proofs.StepLaws.{two-gone, two-long, two-slice}
use Rattle.lzk_level.proofs.sum.difference.Goals as goal

pub combine-node-requires-clause-nodes : goal.combine-node-requires-clause-nodes
combine-node-requires-clause-nodes g c κs within =
    let o = g.F.Field.ops in
    let slice =
    two-slice c.args.parts.now.items c.push.new.list.items c.push-2.new.list.items c.deref.result.now c.len-begin.result c.one.result c.neg.result o.one (o.neg o.one) c.args.left c.args.right (c.len-begin.ensures ∙ c.args.parts.now.ok.0)
    c.in_ok-push.ensures.added c.in_ok-push-2.ensures.added c.deref.ensures.value c.one.ensures (c.neg.ensures ∙ ap o.neg c.one-2.ensures) in
    subst (ArePartsOf (node_count c.args.builder.now)) (sym slice) c.requires.nodes

pub returns-clause-nodes : goal.returns-clause-nodes
returns-clause-nodes g c =
    let o = g.F.Field.ops in
    let n = c.args.builder.now in
    let all = c.deref.result.now in
    let slice = take (length all - c.len-begin.result) (drop c.len-begin.result all) in
    let new = c.combine-node.new.self in
    let is =
    two-slice c.args.parts.now.items c.push.new.list.items c.push-2.new.list.items all c.len-begin.result c.one.result c.neg.result o.one (o.neg o.one) c.args.left c.args.right (c.len-begin.ensures ∙ c.args.parts.now.ok.0)
    c.in_ok-push.ensures.added c.in_ok-push-2.ensures.added c.deref.ensures.value c.one.ensures (c.neg.ensures ∙ ap o.neg c.one-2.ensures) in
    IfOk-weaker c.combine-node.result (λ _. new ≡ with_gate n (Combine slice)) (λ _. new ≡ (difference o c.args.left (there n c.args.right)).nodes) (λ _ e. e ∙ ap (λ xs. with_gate n (Combine xs)) is) c.combine-node.ensures.added

pub offset_bounds-deref-begin : goal.offset_bounds-deref-begin
offset_bounds-deref-begin g c =
    two-long c.args.parts.now.items c.push.new.list.items c.push-2.new.list.items c.deref.result.now c.len-begin.result _ _ (c.len-begin.ensures ∙ c.args.parts.now.ok.0) c.in_ok-push.ensures.added c.in_ok-push-2.ensures.added c.deref.ensures.value

pub combine-node-requires-clause-some : goal.combine-node-requires-clause-some
combine-node-requires-clause-some g c κs within =
    let o = g.F.Field.ops in
    let slice =
    two-slice c.args.parts.now.items c.push.new.list.items c.push-2.new.list.items c.deref.result.now c.len-begin.result c.one.result c.neg.result o.one (o.neg o.one) c.args.left c.args.right (c.len-begin.ensures ∙ c.args.parts.now.ok.0)
    c.in_ok-push.ensures.added c.in_ok-push-2.ensures.added c.deref.ensures.value c.one.ensures (c.neg.ensures ∙ ap o.neg c.one-2.ensures) in
    subst (λ xs. 1 ≤ length xs) (sym slice) c.requires.some

pub returns-clause-node : goal.returns-clause-node
returns-clause-node g c = c.combine-node.ensures.node

pub returns-clause-parts : goal.returns-clause-parts
returns-clause-parts g c =
    on-ok c.combine-node.result
    (c.truncate.ensures.items
    ∙ two-gone c.args.parts.now.items c.push.new.list.items c.push-2.new.list.items c.len-begin.result _ _ (c.len-begin.ensures ∙ c.args.parts.now.ok.0) c.in_ok-push.ensures.added c.in_ok-push-2.ensures.added)

pub returns-in_err-push : goal.returns-in_err-push
returns-in_err-push g c =
    let r = c.from_residual.result in
    let e = c.from_residual.ensures.1 in
    record { nodes = not-ok r _ _ e; node = not-ok r _ _ e; parts = not-ok r _ _ e }

pub returns-in_err-push-2 : goal.returns-in_err-push-2
returns-in_err-push-2 g c =
    let r = c.from_residual-in_err-push-2.result in
    let e = c.from_residual-in_err-push-2.ensures.1 in
    record { nodes = not-ok r _ _ e; node = not-ok r _ _ e; parts = not-ok r _ _ e }

pub slice_bounds-combine-count : goal.slice_bounds-combine-count
slice_bounds-combine-count g c =
    two-long c.args.parts.now.items c.push.new.list.items c.push-2.new.list.items c.deref.result.now c.len-begin.result _ _ (c.len-begin.ensures ∙ c.args.parts.now.ok.0) c.in_ok-push.ensures.added c.in_ok-push-2.ensures.added c.deref.ensures.value

pub slice_bounds-combine-start : goal.slice_bounds-combine-start
slice_bounds-combine-start g c =
    two-long c.args.parts.now.items c.push.new.list.items c.push-2.new.list.items c.deref.result.now c.len-begin.result _ _ (c.len-begin.ensures ∙ c.args.parts.now.ok.0) c.in_ok-push.ensures.added c.in_ok-push-2.ensures.added c.deref.ensures.value

pub slice_bounds-combine-end : goal.slice_bounds-combine-end
slice_bounds-combine-end g c =
    omega (arith, c.deref.ensures.len)

pub combine-node-requires-clause-room : goal.combine-node-requires-clause-room
combine-node-requires-clause-room g c κs within = omega (arith, c.requires.room)
