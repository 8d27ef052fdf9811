use Rattle.std.proofs.Common.{ap, sym, subst, arith, None}
use Rattle.lzk_level.specs.Compilable.{IsOperand}
use Rattle.lzk_level.specs.Nodes.{node_count}
use Rattle.lzk_level.specs.Steps.{Held, held_in, held_sum}
use Rattle.lzk_level.proofs.FactorLaws.{lefted}
use Rattle.lzk_level.proofs.FlatGateLaws.{not-on-ok}
use Rattle.lzk_level.proofs.StepLaws.{sum-ended}
use Rattle.lzk_level.proofs.maker.Maker.left.Goals as goal

pub node_of-requires-clause-room : goal.node_of-requires-clause-room
node_of-requires-clause-room g c κs within =
    let m = held_in c.args.self.now in
    omega (arith, c.requires.room, (sum-ended g.F.Field.ops m.nodes m.now m.parts None c.requires.node tt).few, ap (λ (h : Held _). node_count h.nodes) c.in_ok-operand.ensures.held)

pub node_of-requires-clause-operand : goal.node_of-requires-clause-operand
node_of-requires-clause-operand g c κs within =
    let m = held_in c.args.self.now in
    let v = held_sum g.F.Field.ops m in
    let e = c.in_ok-operand.ensures in
    let there = (sum-ended g.F.Field.ops m.nodes m.now m.parts None c.requires.node tt).there_is in
    subst (λ (h : Held _). IsOperand (node_count h.nodes) c.in_ok-operand.operand) (sym e.held) (subst (IsOperand (node_count v.nodes)) (sym e.value) there)

pub sum-requires-after_bounds : goal.sum-requires-after_bounds
sum-requires-after_bounds g c κs within = c.requires

pub returns-in_err-operand : goal.returns-in_err-operand
returns-in_err-operand g c = not-on-ok _ c.from_residual.result _ c.from_residual.ensures.1

pub returns-in_err-node : goal.returns-in_err-node
returns-in_err-node g c = not-on-ok _ c.from_residual-in_err-node.result _ c.from_residual-in_err-node.ensures.1

pub returns : goal.returns
returns g c =
    let sum = c.in_ok-operand.ensures in
    let e = c.in_ok-node.ensures in
    lefted g.F.Field.ops (held_in c.args.self.now) (held_in c.sum.new.self) (held_in c.begin.new.self) c.in_ok-operand.operand c.in_ok-node.node c.node_of.new.builder sum.held sum.value e.nodes e.node c.begin.ensures
