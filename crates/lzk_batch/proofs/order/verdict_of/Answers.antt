use Rattle.std.proofs.Common.{◌<◌, length, subst, sym, arith}
use Rattle.std.specs.Prelude.{Contains}
use Rattle.lzk_batch.specs.Batch.{judged_as}
use Rattle.lzk_batch.proofs.order.verdict_of.Goals as goal

pub returns-in-Some-clause-some : goal.returns-in-Some-clause-some
returns-in-Some-clause-some c =
    let inside : c.loop-list.list-index < length c.args.lists.now = omega arith in
    let there = subst (λ xs. Contains xs (judged_as c.args.number c.in-Some.verdict)) c.deref.ensures.value c.in-Some.ensures.some in
    (c.loop-list.list-index, c.list-item.result, inside, sym c.list-item.is, there)
