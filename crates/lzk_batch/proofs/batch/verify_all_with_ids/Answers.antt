use Rattle.std.proofs.Common.{All, length, map, subst, sym, ap, arith}
use Rattle.std.specs.Prelude.{Ok}
use Rattle.std.specs.List.{AllZip}
use Rattle.lzk_batch.specs.Passes.{AreAll, IsOf, IsOpen}
use Rattle.lzk_batch.specs.Batch.{IsJudged, HasDrawnOneLate, AreAllJobsDrawn}
use Rattle.lzk_batch.proofs.Placing.{fresh_open, gathered_jobs, have_verdicts, passes_back, still_all}
use Rattle.lzk_batch.proofs.Sharing.{returned_jobs, returned_verdicts, returned_late}
use Rattle.std.proofs.lemmas.Result.{IfOk-from_err}
use Rattle.lzk_batch.proofs.batch.verify_all_with_ids.Goals as goal

pub gather_verdicts-requires-clause-drawn : goal.gather_verdicts-requires-clause-drawn
gather_verdicts-requires-clause-drawn g c =
    let new = c.share_out.new.passes in
    let back = passes_back c.in_ok-tickets.passes.len new c.in_ok-tickets.passes.items (omega arith) in
    let jobs = c.in_ok-tickets.tickets.jobs in
    let drawn = gathered_jobs jobs (length c.args.jobs.now) c.in_ok-tickets.passes.items c.deref_mut.result.now new c.in_ok-lists.lists.items c.deref.result.now c.in_ok-tickets.ensures.jobs c.deref_mut.ensures.value c.deref.ensures.value c.in_ok-tickets.ensures.fresh (returned_jobs c.args.circuits.now c.args.jobs.now c.deref_mut.result.now new (Ok c.in_ok-lists.lists) c.in_ok-lists.ensures.worked) in
    subst (λ ps. AllZip (AreAllJobsDrawn jobs) ps (map (λ l. l.items) c.deref.result.now)) (sym back) drawn

pub gather_verdicts-requires-clause-late : goal.gather_verdicts-requires-clause-late
gather_verdicts-requires-clause-late g c =
    let new = c.share_out.new.passes in
    let back = passes_back c.in_ok-tickets.passes.len new c.in_ok-tickets.passes.items (omega arith) in
    let tickets = c.in_ok-tickets.tickets in
    let old = c.deref_mut.result.now in
    let undone : All (IsOpen tickets) old = subst (All (IsOpen tickets)) (sym c.deref_mut.ensures.value) (fresh_open tickets c.in_ok-tickets.passes.items c.in_ok-tickets.ensures.fresh) in
    let one = returned_late c.args.circuits.now c.args.jobs.now tickets old new (Ok c.in_ok-lists.lists) c.in_ok-tickets.ensures.jobs undone c.in_ok-lists.ensures.worked in
    let late : All (HasDrawnOneLate c.in_ok-tickets.tickets.jobs) new = subst (λ n. All (HasDrawnOneLate n) new) (sym c.in_ok-tickets.ensures.jobs) one in
    subst (All (HasDrawnOneLate c.in_ok-tickets.tickets.jobs)) (sym back) late

pub gather_verdicts-requires-clause-all : goal.gather_verdicts-requires-clause-all
gather_verdicts-requires-clause-all g c =
    let new = c.share_out.new.passes in
    let tickets = c.in_ok-tickets.tickets in
    let back = passes_back c.in_ok-tickets.passes.len new c.in_ok-tickets.passes.items (omega arith) in
    subst (AreAll tickets) (sym back) (still_all tickets c.deref_mut.result.now new c.share_out.ensures.draws (subst (AreAll tickets) (sym c.deref_mut.ensures.value) c.in_ok-tickets.ensures.all))

pub returns : goal.returns
returns g c =
    let b = c.args.circuits.now in
    let jobs = c.args.jobs.now in
    let all : All (λ l. All (IsJudged b jobs) l.items) c.deref.result.now = subst (All (λ l. All (IsJudged b jobs) l.items)) (sym c.deref.ensures.value) (returned_verdicts b jobs c.deref_mut.result.now c.share_out.new.passes (Ok c.in_ok-lists.lists) c.in_ok-lists.ensures.worked) in
    have_verdicts b jobs c.deref.result.now c.gather_verdicts.result c.in_ok-tickets.tickets.jobs c.in_ok-tickets.ensures.jobs all c.gather_verdicts.ensures.count c.gather_verdicts.ensures.verdicts

pub invariant_of-team : goal.invariant_of-team
invariant_of-team g c = record { of_circuits = c.requires.ids; dealt = c.in_ok-tickets.ensures.jobs }

pub share_out-requires-clause-some : goal.share_out-requires-clause-some
share_out-requires-clause-some g c κs within = omega (arith, ap length c.deref_mut.ensures.value, c.in_ok-tickets.ensures.passes, c.in_ok-tickets.passes.ok.0, c.requires.some)

pub share_out-requires-clause-few : goal.share_out-requires-clause-few
share_out-requires-clause-few g c κs within = omega (arith, ap length c.deref_mut.ensures.value, c.in_ok-tickets.ensures.passes, c.in_ok-tickets.passes.ok.0, c.requires.few)

pub share_out-requires-clause-ready : goal.share_out-requires-clause-ready
share_out-requires-clause-ready g c κs within =
    let tickets = c.in_ok-tickets.tickets in
    record {
      fit = c.requires.fit;
      of = subst (All (IsOf tickets)) (sym c.deref_mut.ensures.value) c.in_ok-tickets.ensures.all.of;
      still = subst (All (IsOpen tickets)) (sym c.deref_mut.ensures.value) (fresh_open tickets c.in_ok-tickets.passes.items c.in_ok-tickets.ensures.fresh);
    }

pub returns-in_err-tickets : goal.returns-in_err-tickets
returns-in_err-tickets g c = IfOk-from_err _ _ c.from_residual.ensures.0

pub returns-in_err-lists : goal.returns-in_err-lists
returns-in_err-lists g c = IfOk-from_err _ _ c.from_residual-in_err-lists.ensures.0
