use Rattle.std.proofs.Common.{arith}
use Rattle.lzk_field.specs.Sums.{minus}
use Rattle.lzk_sumcheck.proofs.Filled.{filled_more}
use Rattle.lzk_verify.proofs.extending.set_inverses.Goals as goal

pub loop-i-preserved : goal.loop-i-preserved
loop-i-preserved g c =
    let f = g.F.Field in
    let o = f.ops in
    let l = c.loop-i in
    filled_more o.zero (λ k. o.inverse (minus o (f.coding.element c.args.at.now.point) (f.coding.element k))) l.i l.list c.inverse_between.result (omega arith) c.inverse_between.ensures l.invariant

pub returns-clause-inverses : goal.returns-clause-inverses
returns-clause-inverses g c = λ i h. c.loop-i.invariant i (omega arith)
