use Rattle.std.proofs.Common.{◌∙◌, Some, ap, ap₂, arith}
use Rattle.lzk_level.specs.Nodes.{Nodes, node_count}
use Rattle.lzk_level.specs.Steps.{held_in}
use Rattle.lzk_level.proofs.FactorLaws.{can-operand, factor_held, signed-few, number-made, number-half, node-made, node-can, node-half}
use Rattle.lzk_level.proofs.FlatGateLaws.{not-on-ok}
use Rattle.lzk_level.proofs.maker.Maker.value.Goals as goal

pub signed_value-requires-clause-room : goal.signed_value-requires-clause-room
signed_value-requires-clause-room g c κs within = omega (arith, c.requires.room)

pub signed_value-requires-clause-operand : goal.signed_value-requires-clause-operand
signed_value-requires-clause-operand g c κs within =
    let m = held_in c.args.self.now in
    can-operand (node_count m.nodes) m.now.node c.args.operand c.requires.operand

pub returns-in_err-value : goal.returns-in_err-value
returns-in_err-value g c = not-on-ok _ c.from_residual.result _ c.from_residual.ensures.1

pub join-requires-clause-room : goal.join-requires-clause-room
join-requires-clause-room g c κs within =
    let m = held_in c.args.self.now in
    omega (arith, c.requires.room, signed-few g.F.Field.ops m.now.negated m.nodes c.args.operand, ap (λ (n : Nodes _). node_count n) c.in_ok-value.ensures.nodes)

pub join-requires-clause-node : goal.join-requires-clause-node
join-requires-clause-node g c κs within =
    let m = held_in c.args.self.now in
    let e = c.in_ok-value.ensures in
    (node-can g.F.Field.ops m.nodes m.now c.args.operand c.signed_value.new.builder c.in_ok-value.value c.in-AtNode.node c.requires.operand e.nodes e.operand c.in-AtNode.is).0

pub join-requires-clause-before : goal.join-requires-clause-before
join-requires-clause-before g c κs within =
    let m = held_in c.args.self.now in
    let e = c.in_ok-value.ensures in
    (node-can g.F.Field.ops m.nodes m.now c.args.operand c.signed_value.new.builder c.in_ok-value.value c.in-AtNode.node c.requires.operand e.nodes e.operand c.in-AtNode.is).1

pub returns-in_err-product-in-AtNode : goal.returns-in_err-product-in-AtNode
returns-in_err-product-in-AtNode g c = not-on-ok _ c.from_residual-in_err-product-in-AtNode.result _ c.from_residual-in_err-product-in-AtNode.ensures.1

pub returns-in_ok-product-in-AtNode : goal.returns-in_ok-product-in-AtNode
returns-in_ok-product-in-AtNode g c =
    let o = g.F.Field.ops in
    let m = held_in c.args.self.now in
    let x = c.args.operand in
    let n = c.signed_value.new.builder in
    let v = c.in_ok-value.value in
    let k = c.in-AtNode.node in
    let e = c.in_ok-value.ensures in
    let d = c.in_ok-product-in-AtNode.ensures in
    ap₂ (factor_held m) (d.nodes ∙ node-made o m.nodes m.now x n v k e.nodes e.operand c.in-AtNode.is)
    (node-half o m.nodes m.now x n v k (Some c.in_ok-product-in-AtNode.product) e.nodes e.operand c.in-AtNode.is (ap (λ j. Some j) d.node))

pub returns-in-Constant : goal.returns-in-Constant
returns-in-Constant g c =
    let o = g.F.Field.ops in
    let m = held_in c.args.self.now in
    let x = c.args.operand in
    let v = c.in_ok-value.value in
    let e = c.in_ok-value.ensures in
    ap₂ (factor_held m) (number-made o m.nodes m.now x c.signed_value.new.builder v c.in-Constant.c e.nodes e.operand c.in-Constant.is)
    (number-half o m.nodes m.now x v c.in-Constant.c c.times_before.result e.operand c.in-Constant.is c.times_before.ensures)
