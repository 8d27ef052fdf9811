use Rattle.std.proofs.Common.{◌≡◌, ◌∙◌, ap, ap₂, sym, subst, arith}
use Rattle.std.proofs.lemmas.Result.{on_ok_weaker}
use Rattle.lzk_expr.specs.SourceValues.{signed}
use Rattle.lzk_level.specs.Compilable.{IsOperand}
use Rattle.lzk_level.specs.Compiling.{at_let}
use Rattle.lzk_level.specs.Nodes.{Nodes, node_count}
use Rattle.lzk_level.specs.Steps.{total_with, part_read, parts_read, total_read}
use Rattle.lzk_level.proofs.FlatGateLaws.{not-ok}
use Rattle.lzk_level.proofs.ResultLaws.{and-ok, on-ok}
use Rattle.lzk_level.proofs.StepLaws.{one-part, product-counts, product-there}
use Rattle.lzk_level.proofs.sum.add_part.Goals as goal

pub product-requires-clause-room : goal.product-requires-clause-room
product-requires-clause-room g c κs within = omega (arith, c.requires.room)

pub product-requires-clause-node : goal.product-requires-clause-node
product-requires-clause-node g c κs within = c.requires.node

pub node_of-requires-clause-room : goal.node_of-requires-clause-room
node_of-requires-clause-room g c κs within =
    let now = c.args.half.now in
    omega (arith, c.requires.room, (product-counts g.F.Field.ops c.args.builder.now now.number now.node).most_of, ap (λ (n : Nodes _). node_count n) c.in_ok-product.ensures.nodes)

pub node_of-requires-clause-operand : goal.node_of-requires-clause-operand
node_of-requires-clause-operand g c κs within =
    let now = c.args.half.now in
    let e = c.in_ok-product.ensures in
    let there = product-there g.F.Field.ops c.args.builder.now now.number now.node c.requires.node in
    subst (λ (n : Nodes _). IsOperand (node_count n) c.in_ok-product.product) (sym e.nodes) (subst (IsOperand _) (sym e.operand) there)

pub returns-in_err-product : goal.returns-in_err-product
returns-in_err-product g c =
    let r = c.from_residual.result in
    let e = c.from_residual.ensures.1 in
    record { nodes = not-ok r _ _ e; parts = not-ok r _ _ e; total = not-ok r _ _ e }

pub returns-in_err-node : goal.returns-in_err-node
returns-in_err-node g c =
    let r = c.from_residual-in_err-node.result in
    let e = c.from_residual-in_err-node.ensures.1 in
    record { nodes = not-ok r _ _ e; parts = not-ok r _ _ e; total = not-ok r _ _ e }

pub returns-clause-nodes : goal.returns-clause-nodes
returns-clause-nodes g c =
    let e = c.in_ok-product.ensures in
    and-ok c.push.result c.and.result c.total_with-total.result (λ _. c.node_of.new.builder ≡ (part_read g.F.Field.ops c.args.builder.now c.args.half.now).nodes) c.and.ensures
    (on-ok c.push.result (c.in_ok-node.ensures.nodes ∙ ap₂ (λ (n : Nodes _) x. (at_let n x).nodes) e.nodes e.operand))

pub returns-clause-parts : goal.returns-clause-parts
returns-clause-parts g c =
    let o = g.F.Field.ops in
    let n = c.args.builder.now in
    let h = c.args.half.now in
    let ps = c.args.parts.now.items in
    let new = c.push.new.list.items in
    let e = c.in_ok-product.ensures in
    and-ok c.push.result c.and.result c.total_with-total.result (λ _. new ≡ parts_read o n h ps) c.and.ensures
    (on_ok_weaker c.push.result
    (λ added. one-part ps new c.signed.result _ c.in_ok-node.node _ added (c.signed.ensures ∙ ap (signed o h.minus) c.one.ensures) (c.in_ok-node.ensures.node ∙ ap₂ (λ (m : Nodes _) x. (at_let m x).node) e.nodes e.operand))
    c.push.ensures.added)

pub returns-clause-total : goal.returns-clause-total
returns-clause-total g c =
    let o = g.F.Field.ops in
    let h = c.args.half.now in
    and-ok c.push.result c.and.result c.total_with-total.result (λ t. t ≡ total_read o c.args.builder.now h) c.and.ensures
    (on-ok c.push.result (c.total_with-total.ensures ∙ ap (total_with o h.minus h.total) c.in_ok-product.ensures.operand))
