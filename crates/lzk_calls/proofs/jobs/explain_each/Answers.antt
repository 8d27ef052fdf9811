use Rattle.std.proofs.Common.{length, ◌<◌, subst, arith}
use Rattle.lzk_calls.specs.Explained.{IsExplainedOver}
use Rattle.lzk_calls.proofs.Zips.{done-step}
use Rattle.lzk_calls.proofs.jobs.explain_each.Goals as goal

pub loop-i-preserved : goal.loop-i-preserved
loop-i-preserved g c =
    let f = g.F.Field in
    let R = IsExplainedOver f.ops f.coding c.args.circuit.now in
    let h = c.loop-i.invariant.done in
    let i = c.loop-i.i in
    let within : i < length c.args.jobs.now = omega (arith, h.long) in
    record {
      circuit = c.explain_one.ensures.circuit;
      done = done-step R i c.args.jobs.now c.loop-i.jobs c.explain_one.new.job _ within (subst (λ x. R x c.explain_one.new.job) (h.back i _ (omega arith)) c.explain_one.ensures.told) h;
    }
