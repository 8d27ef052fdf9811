use Rattle.std.proofs.Common.{◌≡◌, ◌-◌, length, ap, sym, ◌∙◌, arith}
use Rattle.lzk_batch.specs.Passes.{PassState, fresh}
use Rattle.lzk_batch.proofs.Dealing.{dealt_none, dealt_more, dealt_all, dealt_nothing, length_push}
use Rattle.lzk_batch.proofs.tickets.Tickets.deal.Goals as goal

pub loop-passes-init : goal.loop-passes-init
loop-passes-init c = dealt_none c.args.workers c.in-Ok.tickets.table c.in-Ok.first c.in-Ok-with_capacity.passes.items c.in-Ok-with_capacity.ensures.items c.requires.some c.in-Ok.ensures.whole

pub split_off-requires-clause-of : goal.split_off-requires-clause-of
split_off-requires-clause-of c = ap (λ (p : PassState). p.table) c.loop-passes.invariant.is ∙ ap (λ (p : PassState). p.table) c.in-Ok.ensures.whole

pub split_off-requires-clause-some : goal.split_off-requires-clause-some
split_off-requires-clause-some c = omega (arith, ap (λ (p : PassState). p.spare) c.loop-passes.invariant.is, c.loop-passes.invariant.few, c.requires.few, c.len.ensures, c.loop-passes-test.true)

pub split_off-requires-clause-fresh : goal.split_off-requires-clause-fresh
split_off-requires-clause-fresh c = ap (λ (p : PassState). p.drawn) c.loop-passes.invariant.is

pub loop-passes-smaller : goal.loop-passes-smaller
loop-passes-smaller c = omega (arith, ap length c.in-Ok-push.ensures.items ∙ length_push c.loop-passes.passes.items c.split_off.result, c.loop-passes.invariant.few, c.len.ensures, c.loop-passes-test.true)

pub loop-passes-preserved : goal.loop-passes-preserved
loop-passes-preserved c =
    let table = c.in-Ok.first.table in
    let same : c.in-Ok.tickets.table ≡ table = sym (ap (λ (p : PassState). p.table) c.in-Ok.ensures.whole) in
    let left = c.split_off.ensures.left ∙ ap (λ t. fresh t (c.loop-passes.first.spare - 1)) same in
    let new = c.split_off.ensures.new ∙ ap (λ t. fresh t 0) same in
    dealt_more c.args.workers table c.loop-passes.first c.split_off.new.self c.split_off.result c.loop-passes.passes.items c.push.new.self.items c.requires.few
    (omega (arith, c.len.ensures, c.loop-passes-test.true)) left new c.in-Ok-push.ensures.items c.loop-passes.invariant

pub returns-clause-passes : goal.returns-clause-passes
returns-clause-passes c = omega (arith, ap length c.in-Ok-push-2.ensures.items ∙ length_push c.loop-passes.passes.items c.loop-passes.first, c.loop-passes.invariant.few, c.len.ensures, c.loop-passes-test.false)

pub returns-clause-all : goal.returns-clause-all
returns-clause-all c =
    let same : c.in-Ok.first.table ≡ c.in-Ok.tickets.table = ap (λ (p : PassState). p.table) c.in-Ok.ensures.whole in
    dealt_all c.args.workers c.in-Ok.tickets c.in-Ok.first.table c.loop-passes.first c.loop-passes.passes.items c.push-2.new.self.items c.requires.few same c.in-Ok-push-2.ensures.items c.loop-passes.invariant

pub returns-clause-fresh : goal.returns-clause-fresh
returns-clause-fresh c = dealt_nothing c.args.workers c.in-Ok.first.table c.loop-passes.first c.loop-passes.passes.items c.push-2.new.self.items c.in-Ok-push-2.ensures.items c.loop-passes.invariant

pub returns-in_default-clause-jobs : goal.returns-in_default-clause-jobs
returns-in_default-clause-jobs c = tt

pub returns-in_default-clause-passes : goal.returns-in_default-clause-passes
returns-in_default-clause-passes c = tt

pub returns-in_default-clause-all : goal.returns-in_default-clause-all
returns-in_default-clause-all c = tt

pub returns-in_default-clause-fresh : goal.returns-in_default-clause-fresh
returns-in_default-clause-fresh c = tt

pub returns-in_default-with_capacity-clause-jobs : goal.returns-in_default-with_capacity-clause-jobs
returns-in_default-with_capacity-clause-jobs c = tt

pub returns-in_default-with_capacity-clause-passes : goal.returns-in_default-with_capacity-clause-passes
returns-in_default-with_capacity-clause-passes c = tt

pub returns-in_default-with_capacity-clause-all : goal.returns-in_default-with_capacity-clause-all
returns-in_default-with_capacity-clause-all c = tt

pub returns-in_default-with_capacity-clause-fresh : goal.returns-in_default-with_capacity-clause-fresh
returns-in_default-with_capacity-clause-fresh c = tt

pub returns-in_default-push-clause-jobs : goal.returns-in_default-push-clause-jobs
returns-in_default-push-clause-jobs c = tt

pub returns-in_default-push-clause-passes : goal.returns-in_default-push-clause-passes
returns-in_default-push-clause-passes c = tt

pub returns-in_default-push-clause-all : goal.returns-in_default-push-clause-all
returns-in_default-push-clause-all c = tt

pub returns-in_default-push-clause-fresh : goal.returns-in_default-push-clause-fresh
returns-in_default-push-clause-fresh c = tt

pub returns-in_default-push-2-clause-jobs : goal.returns-in_default-push-2-clause-jobs
returns-in_default-push-2-clause-jobs c = tt

pub returns-in_default-push-2-clause-passes : goal.returns-in_default-push-2-clause-passes
returns-in_default-push-2-clause-passes c = tt

pub returns-in_default-push-2-clause-all : goal.returns-in_default-push-2-clause-all
returns-in_default-push-2-clause-all c = tt

pub returns-in_default-push-2-clause-fresh : goal.returns-in_default-push-2-clause-fresh
returns-in_default-push-2-clause-fresh c = tt

pub returns-clause-jobs : goal.returns-clause-jobs
returns-clause-jobs c = c.in-Ok.ensures.jobs
