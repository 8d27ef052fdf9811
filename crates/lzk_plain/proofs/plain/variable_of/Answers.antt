use Rattle.std.proofs.Common.{ap, ◌∙◌, sym}
use Rattle.lzk_field.specs.Sums.{entry}
use Rattle.std.specs.Prelude.{true, false}
use Rattle.lzk_sumcheck.specs.Rounds.{every_other}
use Rattle.lzk_sumcheck.specs.Points.{point}
use Rattle.lzk_sumcheck.proofs.PointLaws.{part-at}
use Rattle.lzk_plain.proofs.plain.variable_of.Goals as goal

pub returns-then-a : goal.returns-then-a
returns-then-a g c =
    let o = g.F.Field.ops in
    let xs = point o c.args.on.now.bits c.args.on.now.bound.now c.args.on.now.t c.args.on.now.z in
    let j = c.args.j in
    c.variable.ensures ∙ sym (ap (λ b. entry o (every_other b xs) j) c.if-a.true ∙ part-at o true xs j)

pub returns-else-a : goal.returns-else-a
returns-else-a g c =
    let o = g.F.Field.ops in
    let xs = point o c.args.on.now.bits c.args.on.now.bound.now c.args.on.now.t c.args.on.now.z in
    let j = c.args.j in
    c.variable-else-a.ensures ∙ sym (ap (λ b. entry o (every_other b xs) j) c.if-a.false ∙ part-at o false xs j)
