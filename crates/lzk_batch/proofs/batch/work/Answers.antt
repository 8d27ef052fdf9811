use Rattle.std.proofs.Common.{◌≡◌, ◌<◌, Some, length, sym, subst, ◌∙◌, arith}
use Rattle.std.specs.Prelude.{slice_get}
use Rattle.std.proofs.lemmas.Option.{slice_get_read}
use Rattle.std.proofs.lemmas.Result.{IfOk-from_err}
use Rattle.lzk_batch.specs.declared.job.Judged.{Judged}
use Rattle.lzk_batch.specs.Batch.{IsJobFit, HasVerdict, IsJudged}
use Rattle.lzk_batch.proofs.Working.{Working, nearer, begun, one_more, worked, drew}
use Rattle.lzk_batch.proofs.batch.work.Goals as goal

pub loop-number-smaller : goal.loop-number-smaller
loop-number-smaller c = nearer c.args.batch.now.tickets.now.jobs c.in-Some.number c.loop-number.pass c.draw.new.pass c.in-Some.ensures.some.0 c.in-Some.ensures.ascends c.in-Some.ensures.some.1

pub loop-number-preserved : goal.loop-number-preserved
loop-number-preserved c =
    let job = c.index-jobs-number.result in
    let there : slice_get c.args.batch.now.jobs.now c.in-Some.number ≡ Some job = slice_get_read c.args.batch.now.jobs.now c.args.batch.now.tickets.now.jobs c.in-Some.number job c.args.batch.now.dealt c.in-Some.ensures.some.0 c.index-jobs-number.is in
    let one : Judged = record { job = c.in-Some.number; verdict = c.in_ok-verdict.verdict } in
    let judged : IsJudged c.args.batch.now.circuits.now c.args.batch.now.jobs.now one = record { job = job; there = there; verdict = subst (λ b. HasVerdict b job c.in_ok-verdict.verdict) c.loop-number.invariant.desks c.in_ok-verdict.ensures.verdict } in
    record {
      working =
          one_more c.args.batch.now.circuits.now c.args.batch.now.jobs.now c.args.batch.now.tickets.now c.args.pass.now c.loop-number.pass c.draw.new.pass c.loop-number.judged.items
          c.push.new.self.items one c.loop-number.invariant.working
          c.in-Some.ensures.some.0 c.in-Some.ensures.some.1 judged c.in_ok-push.ensures.items;
      desks = c.judge.ensures.circuits ∙ c.loop-number.invariant.desks;
    }

pub loop-number-init : goal.loop-number-init
loop-number-init c =
    let b = c.args.batch.now in
    let pass = c.args.pass.now in
    record {
      working = subst (Working b.circuits.now b.jobs.now b.tickets.now pass pass) (sym c.new-judged.ensures.items) (begun b.circuits.now b.jobs.now b.tickets.now pass c.requires.ready.of c.requires.ready.still);
      desks = c.requires.desks;
    }

pub draw-requires-clause-of : goal.draw-requires-clause-of
draw-requires-clause-of c = c.loop-number.invariant.working.of

pub draw-requires-clause-open : goal.draw-requires-clause-open
draw-requires-clause-open c = c.loop-number.invariant.working.still

pub bounds-jobs-number : goal.bounds-jobs-number
bounds-jobs-number c = omega (arith, c.in-Some.ensures.some.0, c.args.batch.now.dealt)

pub judge-requires : goal.judge-requires
judge-requires c =
    let job = c.index-jobs-number.result in
    let inside : c.in-Some.number < length c.args.batch.now.jobs.now = omega (arith, c.in-Some.ensures.some.0, c.args.batch.now.dealt) in
    record {
      fit = subst (λ b. IsJobFit b job) (sym c.loop-number.invariant.desks) (subst (IsJobFit c.args.batch.now.circuits.now) (sym c.index-jobs-number.is) (c.requires.ready.fit c.in-Some.number job inside));
    }

pub returns-in_err-verdict-clause-worked : goal.returns-in_err-verdict-clause-worked
returns-in_err-verdict-clause-worked c = IfOk-from_err _ _ c.from_residual.ensures.0

pub returns-in_err-verdict-clause-draws : goal.returns-in_err-verdict-clause-draws
returns-in_err-verdict-clause-draws c =
    let b = c.args.batch.now in
    let l = c.loop-number in
    drew b.circuits.now b.jobs.now b.tickets.now c.args.pass.now l.pass c.draw.new.pass l.judged.items c.in-Some.number l.invariant.working c.in-Some.ensures.some.1

pub returns-in_err-push-clause-worked : goal.returns-in_err-push-clause-worked
returns-in_err-push-clause-worked c = IfOk-from_err _ _ c.from_residual-in_err-push.ensures.0

pub returns-in_err-push-clause-draws : goal.returns-in_err-push-clause-draws
returns-in_err-push-clause-draws c =
    let b = c.args.batch.now in
    let l = c.loop-number in
    drew b.circuits.now b.jobs.now b.tickets.now c.args.pass.now l.pass c.draw.new.pass l.judged.items c.in-Some.number l.invariant.working c.in-Some.ensures.some.1

pub returns-clause-worked : goal.returns-clause-worked
returns-clause-worked c =
    let b = c.args.batch.now in
    let l = c.loop-number in
    let none = c.in_default.ensures.none in
    worked b.circuits.now b.jobs.now b.tickets.now c.args.pass.now l.pass c.draw.new.pass l.judged.items none.0 b.dealt l.invariant.working none.1 none.2

pub returns-clause-draws : goal.returns-clause-draws
returns-clause-draws c =
    let b = c.args.batch.now in
    let l = c.loop-number in
    let none = c.in_default.ensures.none in
    drew b.circuits.now b.jobs.now b.tickets.now c.args.pass.now l.pass c.draw.new.pass l.judged.items none.0 l.invariant.working none.2
