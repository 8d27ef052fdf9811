use Rattle.std.proofs.Common.{◌∙◌, Some, ap, ap₂, sym}
use Rattle.lzk_level.specs.Steps.{total_with}
use Rattle.lzk_level.proofs.FactorLaws.{total-node}
use Rattle.lzk_level.proofs.sum.total_with.Goals as goal

pub returns-in-None : goal.returns-in-None
returns-in-None g c = ap₂ (total_with g.F.Field.ops c.args.minus) (sym c.in-None.is) (sym c.in-Constant.is)

pub returns-in-Some : goal.returns-in-Some
returns-in-Some g c =
    let o = g.F.Field.ops in
    ap (λ x. Some x) (c.add.ensures ∙ ap (o.plus c.in-Some.total) c.signed.ensures) ∙ ap₂ (total_with o c.args.minus) (sym c.in-Some.is) (sym c.in-Constant.is)

pub returns-in-AtNode : goal.returns-in-AtNode
returns-in-AtNode g c =
    let o = g.F.Field.ops in
    let minus = c.args.minus in
    sym (ap (total_with o minus c.args.total) c.in-AtNode.is ∙ total-node o minus c.args.total c.in-AtNode.field-0)
