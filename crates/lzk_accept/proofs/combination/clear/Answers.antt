use Rattle.std.proofs.Common.{length, arith}
use Rattle.std.proofs.lemmas.List.{get_or_past}
use native.Mathlib.Decide.{dec_lt}
use Rattle.lzk_accept.proofs.TableLaws.{bounds_more}
use Rattle.lzk_accept.proofs.combination.clear.Goals as goal

pub loop-j-init : goal.loop-j-init
loop-j-init g c k h = absurd (omega (arith, h))

pub loop-j-preserved : goal.loop-j-preserved
loop-j-preserved g c =
    let o = g.F.Field.ops in
    bounds_more o (λ k. o.zero) c.loop-j.list c.loop-j.j c.zero.result (omega (arith, c.loop-j-test.true, c.loop-j.auto.list)) c.loop-j.invariant c.zero.ensures

pub returns : goal.returns
returns g c k =
    let o = g.F.Field.ops in
    elim (dec_lt k (length c.loop-j.list)) [
      | yes l ↦ c.loop-j.invariant k (omega (arith, l, c.loop-j-test.false, c.loop-j.auto.list))
      | no l ↦ get_or_past c.loop-j.list k o.zero (omega arith)
    ]
