use Rattle.std.proofs.Common.{◌≡◌, ◌∙◌, ap, sym, subst, arith, drop, take, length, ◌-◌}
use Rattle.std.proofs.lemmas.List.{length-drop, take_all, take-append-le}
use Rattle.std.proofs.lemmas.Result.{IfOk-weaker}
use Rattle.lzk_level.specs.Nodes.{Nodes}
use Rattle.lzk_level.specs.Steps.{Valued, HasParts, product_read, parts_read, sum_of_parts, sum_read}
use Rattle.lzk_level.proofs.FlatGateLaws.{not-ok}
use Rattle.lzk_level.proofs.ResultLaws.{on-ok}
use Rattle.lzk_level.proofs.StepLaws.{has-parts, parts-longer, sum-of-product, sum-of-parts}
use Rattle.lzk_level.proofs.sum.sum_of.Goals as goal

pub sum_of_parts-operand-requires-after_bounds : goal.sum_of_parts-operand-requires-after_bounds
sum_of_parts-operand-requires-after_bounds g c κs within =
    let e = c.in_ok-total.ensures in
    let begin = c.args.half.now.begin in
    let all = c.deref.result.now in
    let own = has-parts g.F.Field.ops c.args.builder.now c.args.half.now c.args.parts.now.items c.requires in
    let whole : take (length all - begin) (drop begin all) ≡ drop begin all = take_all (length all - begin) (drop begin all) (omega (arith, length-drop begin all)) in
    subst (HasParts c.add_part.new.builder) (sym (whole ∙ ap (drop begin) (c.deref.ensures.value ∙ e.parts)))
    (subst (λ (n : Nodes _). HasParts n (drop begin (parts_read g.F.Field.ops c.args.builder.now c.args.half.now c.args.parts.now.items))) (sym e.nodes) own)

pub returns-clause-nodes : goal.returns-clause-nodes
returns-clause-nodes g c =
    let o = g.F.Field.ops in
    let n = c.args.builder.now in
    let h = c.args.half.now in
    let ps = c.args.parts.now.items in
    let e = c.in_ok-total.ensures in
    let all = c.deref.result.now in
    let slice = take (length all - h.begin) (drop h.begin all) in
    let whole : slice ≡ drop h.begin all = take_all (length all - h.begin) (drop h.begin all) (omega (arith, length-drop h.begin all)) in
    let value = sum_of_parts c.add_part.new.builder h.base slice c.in_ok-total.total in
    let is = sum-of-parts o n h ps _ _ _ (λ s. c.if-len-half.false (c.len.ensures ∙ c.args.parts.now.ok.0 ∙ s)) e.nodes (whole ∙ ap (drop h.begin) (c.deref.ensures.value ∙ e.parts)) e.total in
    IfOk-weaker c.sum_of_parts-operand.result (λ _. c.sum_of_parts-operand.new.builder ≡ value.nodes) (λ _. c.sum_of_parts-operand.new.builder ≡ (sum_read o n h ps).nodes) (λ _ m. m ∙ ap (λ (v : Valued _). v.nodes) is) c.sum_of_parts-operand.ensures.nodes

pub returns-clause-value : goal.returns-clause-value
returns-clause-value g c =
    let o = g.F.Field.ops in
    let n = c.args.builder.now in
    let h = c.args.half.now in
    let ps = c.args.parts.now.items in
    let e = c.in_ok-total.ensures in
    let all = c.deref.result.now in
    let slice = take (length all - h.begin) (drop h.begin all) in
    let whole : slice ≡ drop h.begin all = take_all (length all - h.begin) (drop h.begin all) (omega (arith, length-drop h.begin all)) in
    let value = sum_of_parts c.add_part.new.builder h.base slice c.in_ok-total.total in
    let is = sum-of-parts o n h ps _ _ _ (λ s. c.if-len-half.false (c.len.ensures ∙ c.args.parts.now.ok.0 ∙ s)) e.nodes (whole ∙ ap (drop h.begin) (c.deref.ensures.value ∙ e.parts)) e.total in
    IfOk-weaker c.sum_of_parts-operand.result (λ x. x ≡ value.operand) (λ x. x ≡ (sum_read o n h ps).operand) (λ _ m. m ∙ ap (λ (v : Valued _). v.operand) is) c.sum_of_parts-operand.ensures.value

pub returns-in_err-total : goal.returns-in_err-total
returns-in_err-total g c =
    let r = c.from_residual.result in
    let e = c.from_residual.ensures.1 in
    record { nodes = not-ok r _ _ e; parts = not-ok r _ _ e; value = not-ok r _ _ e }

pub returns-then-len-half-clause-nodes : goal.returns-then-len-half-clause-nodes
returns-then-len-half-clause-nodes g c =
    let o = g.F.Field.ops in
    let n = c.args.builder.now in
    let h = c.args.half.now in
    let ps = c.args.parts.now.items in
    let new = c.product.new.builder in
    IfOk-weaker c.product.result (λ _. new ≡ (product_read o n h).nodes) (λ _. new ≡ (sum_read o n h ps).nodes) (λ _ e. e ∙ ap (λ (v : Valued _). v.nodes) (sym (sum-of-product o n h ps (sym c.args.parts.now.ok.0 ∙ sym c.len.ensures ∙ c.if-len-half.true)))) c.product.ensures.nodes

pub returns-then-len-half-clause-value : goal.returns-then-len-half-clause-value
returns-then-len-half-clause-value g c =
    let o = g.F.Field.ops in
    let n = c.args.builder.now in
    let h = c.args.half.now in
    let ps = c.args.parts.now.items in
    IfOk-weaker c.product.result (λ x. x ≡ (product_read o n h).operand) (λ x. x ≡ (sum_read o n h ps).operand) (λ _ e. e ∙ ap (λ (v : Valued _). v.operand) (sym (sum-of-product o n h ps (sym c.args.parts.now.ok.0 ∙ sym c.len.ensures ∙ c.if-len-half.true)))) c.product.ensures.operand

pub returns-clause-parts : goal.returns-clause-parts
returns-clause-parts g c =
    let begin = c.args.half.now.begin in
    on-ok c.sum_of_parts-operand.result (c.truncate.ensures.items ∙ ap (take begin) c.in_ok-total.ensures.parts ∙ take-append-le begin c.args.parts.now.items _ c.requires.begin)

pub returns-then-len-half-clause-parts : goal.returns-then-len-half-clause-parts
returns-then-len-half-clause-parts g c =
    let h = c.args.half.now in
    let ps = c.args.parts.now.items in
    let new = c.product.new.builder in
    let whole : take h.begin ps ≡ ps = take_all h.begin ps (omega (arith, sym c.args.parts.now.ok.0 ∙ sym c.len.ensures ∙ c.if-len-half.true)) in
    IfOk-weaker c.product.result (λ _. new ≡ (product_read g.F.Field.ops c.args.builder.now h).nodes) (λ _. ps ≡ take h.begin ps) (λ _ _. sym whole) c.product.ensures.nodes

pub product-requires-clause-room : goal.product-requires-clause-room
product-requires-clause-room g c κs within = omega (arith, c.requires.room)

pub product-requires-clause-node : goal.product-requires-clause-node
product-requires-clause-node g c κs within = c.requires.node

pub add_part-requires-after_bounds : goal.add_part-requires-after_bounds
add_part-requires-after_bounds g c κs within = record { room = omega (arith, c.requires.room); node = c.requires.node }

pub offset_bounds-deref-half : goal.offset_bounds-deref-half
offset_bounds-deref-half g c =
    omega (arith, c.requires.begin, ap length (c.deref.ensures.value ∙ c.in_ok-total.ensures.parts), parts-longer g.F.Field.ops c.args.builder.now c.args.half.now c.args.parts.now.items)

pub slice_bounds-sum_of_parts-count : goal.slice_bounds-sum_of_parts-count
slice_bounds-sum_of_parts-count g c =
    omega (arith, c.requires.begin, ap length (c.deref.ensures.value ∙ c.in_ok-total.ensures.parts), parts-longer g.F.Field.ops c.args.builder.now c.args.half.now c.args.parts.now.items)

pub slice_bounds-sum_of_parts-start : goal.slice_bounds-sum_of_parts-start
slice_bounds-sum_of_parts-start g c =
    omega (arith, c.requires.begin, ap length (c.deref.ensures.value ∙ c.in_ok-total.ensures.parts), parts-longer g.F.Field.ops c.args.builder.now c.args.half.now c.args.parts.now.items)

pub slice_bounds-sum_of_parts-end : goal.slice_bounds-sum_of_parts-end
slice_bounds-sum_of_parts-end g c =
    omega (arith, c.deref.ensures.len)
