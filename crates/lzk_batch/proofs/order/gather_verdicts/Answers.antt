use Rattle.std.proofs.Common.{subst, sym}
use Rattle.lzk_batch.specs.Tickets.{HasEachBelowOnce}
use Rattle.lzk_batch.specs.Batch.{numbers_in}
use Rattle.lzk_batch.proofs.Ordering.{each_once, if_ok}
use Rattle.lzk_batch.proofs.order.gather_verdicts.Goals as goal

pub in_order-requires : goal.in_order-requires
in_order-requires c =
    let once = each_once c.args.tickets.jobs c.in_ok-gather.field-0 c.args.tickets c.args.passes.items c.args.lists.now c.requires.all c.requires.late c.requires.drawn c.in_ok-gather.ensures.once in
    record { once = subst (λ n. HasEachBelowOnce n (numbers_in c.args.lists.now)) (sym c.jobs-jobs.ensures) once }

pub returns-clause-once : goal.returns-clause-once
returns-clause-once c =
    let once = each_once c.args.tickets.jobs c.in_ok-gather.field-0 c.args.tickets c.args.passes.items c.args.lists.now c.requires.all c.requires.late c.requires.drawn c.in_ok-gather.ensures.once in
    if_ok c.in_order.result once
