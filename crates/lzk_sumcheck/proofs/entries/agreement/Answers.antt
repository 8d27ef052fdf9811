use Rattle.std.proofs.Common.{ap, ◌∙◌}
use Rattle.lzk_sumcheck.proofs.PointLaws.{agree-zero, agree-one}
use Rattle.lzk_sumcheck.proofs.entries.agreement.Goals as goal

pub returns-then-number-eq0 : goal.returns-then-number-eq0
returns-then-number-eq0 g c =
    let m = g.F.Field in
    agree-zero m.ops c.args.number c.args.x c.sub.result m.laws.ring c.if-number-eq0.true (c.sub.ensures ∙ ap (λ w. m.ops.plus w (m.ops.neg c.args.x)) c.one.ensures)

pub returns-else-number-eq0 : goal.returns-else-number-eq0
returns-else-number-eq0 g c = let m = g.F.Field in agree-one m.ops c.args.number c.args.x m.laws.ring c.if-number-eq0.false
