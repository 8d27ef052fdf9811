use Rattle.std.proofs.Common.{◌∙◌, ap, sym, subst, arith, None}
use Rattle.std.proofs.lemmas.Result.{on_ok_weaker}
use Rattle.lzk_level.specs.Steps.{Held, HasSides, held_in, held_sum}
use Rattle.lzk_level.proofs.FactorLaws.{righted}
use Rattle.lzk_level.proofs.FlatGateLaws.{not-on-ok}
use Rattle.lzk_level.proofs.StepLaws.{sum-ended}
use Rattle.lzk_level.proofs.maker.Maker.right.Goals as goal

pub equate-requires-after_bounds : goal.equate-requires-after_bounds
equate-requires-after_bounds g c κs within =
    let m = held_in c.args.self.now in
    let v = held_sum g.F.Field.ops m in
    let e = c.in_ok-operand.ensures in
    let end = sum-ended g.F.Field.ops m.nodes m.now m.parts None c.requires.can.node tt in
    let there = subst (λ x. HasSides v.nodes m.left x) (sym e.value) (record { room = omega (arith, c.requires.can.room, end.few); left_is = c.requires.left; right_is = end.there_is }) in
    subst (λ (h : Held _). HasSides h.nodes h.left c.in_ok-operand.operand) (sym e.held) there

pub sum-requires-after_bounds : goal.sum-requires-after_bounds
sum-requires-after_bounds g c κs within = c.requires.can

pub returns-in_err-operand : goal.returns-in_err-operand
returns-in_err-operand g c = λ left is. not-on-ok _ c.from_residual.result _ c.from_residual.ensures.1

pub returns-in_err-node : goal.returns-in_err-node
returns-in_err-node g c = λ left is. not-on-ok _ c.from_residual-in_err-node.result _ c.from_residual-in_err-node.ensures.1

pub returns : goal.returns
returns g c = λ left is.
    let h = held_in c.sum.new.self in
    let sum = c.in_ok-operand.ensures in
    let e = c.in_ok-node.ensures in
    let is_left = ap (λ (i : Held _). i.left) sum.held ∙ is in
    on_ok_weaker c.push.result
    (righted g.F.Field.ops (held_in c.args.self.now) h (held_in c.begin.new.self) c.in_ok-operand.operand left c.in_ok-node.node c.equate.new.builder c.equate.new.parts.items c.push.new.list.items sum.held sum.value
    (e.nodes left is_left) (e.node left is_left) e.parts c.begin.ensures)
    c.push.ensures.added
