use Rattle.std.proofs.Common.{ap, ◌∙◌, arith}
use Rattle.std.specs.Prelude.{slice_set}
use Rattle.std.proofs.lemmas.List.{get_or-set_same, get_or-set_other, get_or_default, length-set}
use Rattle.lzk_field.specs.Sums.{minus}
use Rattle.lzk_sumcheck_rounds.specs.Rows.{round_at}
use Rattle.lzk_sumcheck_prover.proofs.sending.send_round.Goals as goal

pub returns-clause-first : goal.returns-clause-first
returns-clause-first g c =
    let m = g.F.Field in
    let o = m.ops in
    let a = c.args in
    let sent = a.sent.now in
    let low = c.sub.result in
    let pad = c.index-pads-0.is ∙ get_or_default a.pads.now 0 c.index-pads-0.result o.zero (omega (arith, c.requires.pads)) in
    let value = c.at-low.ensures ∙ ap (round_at o a.sums) c.point.ensures in
    get_or-set_other (slice_set sent 0 low) 1 0 c.sub-2.result o.zero (omega arith) ∙ get_or-set_same sent 0 low o.zero (omega (arith, c.requires.room))
    ∙ c.sub.ensures ∙ ap (λ w. minus o w c.index-pads-0.result) value ∙ ap (minus o (round_at o a.sums (m.coding.element 0))) pad

pub returns-clause-second : goal.returns-clause-second
returns-clause-second g c =
    let m = g.F.Field in
    let o = m.ops in
    let a = c.args in
    let sent = a.sent.now in
    let low = c.sub.result in
    let pad = c.index-pads-1.is ∙ get_or_default a.pads.now 1 c.index-pads-1.result o.zero (omega (arith, c.requires.pads)) in
    let value = c.at-high.ensures ∙ ap (round_at o a.sums) c.point-2.ensures in
    get_or-set_same (slice_set sent 0 low) 1 c.sub-2.result o.zero (omega (arith, c.requires.room, length-set sent 0 low))
    ∙ c.sub-2.ensures ∙ ap (λ w. minus o w c.index-pads-1.result) value ∙ ap (minus o (round_at o a.sums (m.coding.element 2))) pad

pub returns-clause-challenge : goal.returns-clause-challenge
returns-clause-challenge g c = c.replay_round.ensures.challenge

pub returns-clause-after : goal.returns-clause-after
returns-clause-after g c = c.replay_round.ensures.after
