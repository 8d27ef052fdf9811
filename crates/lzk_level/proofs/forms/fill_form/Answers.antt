use Rattle.std.proofs.Common.{◌≡◌, ◌≤◌, ◌+◌, ◌-◌, subst, arith}
use Rattle.std.proofs.lemmas.Result.{IfOk-weaker}
use Rattle.lzk_level.specs.Bounds.{at_parts, greatest}
use Rattle.lzk_level.specs.FlatGates.{gate_of}
use Rattle.lzk_level.specs.Forms.{IsNodeForm, IsProduct, IsSumForm}
use Rattle.lzk_level.proofs.NodeForms.{MadeFacts, made-facts, parts-are, constant-form, product-form, sum-form}
use Rattle.lzk_level.proofs.forms.fill_form.Goals as goal

pub fill_sum-requires-after_bounds : goal.fill_sum-requires-after_bounds
fill_sum-requires-after_bounds g c κs within =
    let o = g.F.Field.ops in
    let n = c.args.next.now in
    let made = n.made.now in
    let depths = n.depths.now in
    let parts = c.in-Combine.parts.now in
    let facts = subst (λ q. MadeFacts o n.inputs made depths n.i n.depth (gate_of q)) c.in-Combine.is (made-facts o n.inputs made depths n.starts.now n.terms.now n.i n.depth (gate_of c.gate.result) n.next c.gate.ensures) in
    let place : n.inputs + n.i ≡ n.inputs - 1 + n.i + 1 = omega (arith, facts.first) in
    let low : greatest 1 (at_parts depths parts) ≤ n.depth = omega (arith, facts.depth_of) in
    parts-are depths parts (n.inputs - 1 + n.i) (n.inputs + n.i) n.depth place low facts.is_gate.1

pub returns-in-Constant : goal.returns-in-Constant
returns-in-Constant g c =
    let o = g.F.Field.ops in
    let n = c.args.next.now in
    let made = n.made.now in
    let depths = n.depths.now in
    let new = c.fill_product.new.row.items in
    let k = c.in-Constant.c in
    let facts = subst (λ q. MadeFacts o n.inputs made depths n.i n.depth (gate_of q)) c.in-Constant.is (made-facts o n.inputs made depths n.starts.now n.terms.now n.i n.depth (gate_of c.gate.result) n.next c.gate.ensures) in
    IfOk-weaker c.fill_product.result (λ _. IsProduct o k 0 0 new) (λ _. IsNodeForm o n.inputs made depths (n.inputs + n.i) new)
    (λ _ p. constant-form o g.F.Field.laws.ring n.inputs made depths n.i n.depth k new n.next.depth_is facts p) c.fill_product.ensures

pub returns-in-Combine : goal.returns-in-Combine
returns-in-Combine g c =
    let o = g.F.Field.ops in
    let n = c.args.next.now in
    let made = n.made.now in
    let depths = n.depths.now in
    let new = c.fill_sum.new.row.items in
    let parts = c.in-Combine.parts.now in
    let facts = subst (λ q. MadeFacts o n.inputs made depths n.i n.depth (gate_of q)) c.in-Combine.is (made-facts o n.inputs made depths n.starts.now n.terms.now n.i n.depth (gate_of c.gate.result) n.next c.gate.ensures) in
    IfOk-weaker c.fill_sum.result (λ _. IsSumForm o n.inputs made depths (n.inputs + n.i) n.depth parts new) (λ _. IsNodeForm o n.inputs made depths (n.inputs + n.i) new)
    (λ _ s. sum-form o g.F.Field.laws.ring n.inputs made depths n.i n.depth parts new n.next.depth_is facts s) c.fill_sum.ensures

pub returns-in-Mul : goal.returns-in-Mul
returns-in-Mul g c =
    let o = g.F.Field.ops in
    let n = c.args.next.now in
    let made = n.made.now in
    let depths = n.depths.now in
    let new = c.fill_product-in-Mul.new.row.items in
    let x = c.in-Mul.x in
    let y = c.in-Mul.y in
    let a = c.number.result in
    let b = c.number-in-Mul.result in
    let facts = subst (λ q. MadeFacts o n.inputs made depths n.i n.depth (gate_of q)) c.in-Mul.is (made-facts o n.inputs made depths n.starts.now n.terms.now n.i n.depth (gate_of c.gate.result) n.next c.gate.ensures) in
    IfOk-weaker c.fill_product-in-Mul.result (λ _. IsProduct o c.one.result a b new) (λ _. IsNodeForm o n.inputs made depths (n.inputs + n.i) new)
    (λ _ p.
    let own = subst (λ m. IsProduct o c.one.result x m new) c.number-in-Mul.ensures (subst (λ m. IsProduct o c.one.result m b new) c.number.ensures p) in
    product-form o g.F.Field.laws.ring n.inputs made depths n.i n.depth c.one.result x y new n.next.depth_is facts c.one.ensures own) c.fill_product-in-Mul.ensures

pub gate-requires-after_bounds : goal.gate-requires-after_bounds
gate-requires-after_bounds g c κs within = c.args.next.now.next.there
