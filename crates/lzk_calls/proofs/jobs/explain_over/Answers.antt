use Rattle.lzk_calls.specs.Verified.{SaysOver}
use Rattle.lzk_calls.specs.declared.refusal.Refusal.TheVariants.{OutOfMemory}
use Rattle.lzk_calls.proofs.Explaining.{refused-as}
use Rattle.lzk_calls.proofs.jobs.explain_over.Goals as goal

pub returns-in-Err : goal.returns-in-Err
returns-in-Err g c =
    let f = g.F.Field in
    refused-as OutOfMemory (SaysOver f.ops f.coding c.args.circuit.now) (λ public session proof. tt)
    c.args.jobs.now c.refuse_each.new.jobs c.refuse_each.ensures
