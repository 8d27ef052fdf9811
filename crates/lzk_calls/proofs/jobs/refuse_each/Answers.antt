use Rattle.std.proofs.Common.{length, ◌<◌, subst, arith}
use Rattle.lzk_calls.specs.Explained.{IsRefused}
use Rattle.lzk_calls.proofs.Zips.{done-step}
use Rattle.lzk_calls.proofs.jobs.refuse_each.Goals as goal

pub loop-i-preserved : goal.loop-i-preserved
loop-i-preserved c =
    let R = IsRefused c.args.refusal in
    let h = c.loop-i.invariant in
    let i = c.loop-i.i in
    let within : i < length c.args.jobs.now = omega (arith, h.long) in
    done-step R i c.args.jobs.now c.loop-i.jobs c.refuse_one.new.job _ within (subst (λ x. R x c.refuse_one.new.job) (h.back i _ (omega arith)) c.refuse_one.ensures) h
