use Rattle.std.proofs.Common.{ap, ◌∙◌, arith}
use Rattle.std.proofs.lemmas.List.{get_or_default}
use Rattle.lzk_field.specs.Sums.{entry}
use Rattle.lzk_accept.proofs.LinearLaws.{public_starts, public_more}
use Rattle.lzk_accept.proofs.linear.public_part.Goals as goal

pub loop-i-init : goal.loop-i-init
loop-i-init g c =
    let o = g.F.Field.ops in
    public_starts o g.F.Field.laws.ring c.args.prepared.now.exchange.public.now (λ k. o.plus (entry o c.args.prepared.now.first.now k) (o.times c.args.prepared.now.exchange.scripted.script.now.gamma (entry o c.args.prepared.now.second.now k))) c.joined-total.result c.joined-total.ensures

pub loop-i-preserved : goal.loop-i-preserved
loop-i-preserved g c =
    let o = g.F.Field.ops in
    let i = c.loop-i.i in
    c.add-total.ensures ∙ ap (o.plus c.loop-i.total) c.mul.ensures
    ∙ public_more o g.F.Field.laws.ring c.args.prepared.now.exchange.public.now (λ k. o.plus (entry o c.args.prepared.now.first.now k) (o.times c.args.prepared.now.exchange.scripted.script.now.gamma (entry o c.args.prepared.now.second.now k))) i c.loop-i.total c.joined.result c.index-public-i.result
    c.loop-i.invariant c.joined.ensures (c.index-public-i.is ∙ get_or_default c.args.prepared.now.exchange.public.now i c.index-public-i.result o.zero (omega arith))
