use Rattle.std.proofs.Common.{◌≡◌, arith, rules, ap, ◌∙◌}
use Rattle.lzk_batch.specs.Passes.{PassState, TicketsState}
use Rattle.lzk_batch.specs.Tickets.{late}
use Rattle.lzk_batch.proofs.Weights.{none_late}
use Rattle.lzk_batch.proofs.Steps.{draws_allowed}
use Rattle.lzk_batch.proofs.tickets.Tickets.draw.Goals as goal

pub fetch_add-number-requires : goal.fetch_add-number-requires
fetch_add-number-requires c =
    let v = c.pass.inside.seat.me.0 in
    let drawn : v.drawn ≡ c.args.pass.now.drawn = ap (λ (p : PassState). p.drawn) c.pass.view_is in
    let jobs : c.self.inside.jobs ≡ c.args.self.now.jobs = ap (λ (t : TicketsState). t.jobs) c.self.view_is in
    let early : late v.drawn ≡ 0 = ap late drawn ∙ none_late c.args.self.now.jobs c.args.pass.now.drawn (omega (arith, jobs, c.self.invariant.2)) c.requires.open in (
      search rules,
      omega (arith, c.self.invariant.0),
      rw c.pass.invariant.0 (draws_allowed c.self.inside.word.shared.table_id.slots c.pass.inside.seat.id v c.pass.invariant.1 (omega (arith, early))),
    )
