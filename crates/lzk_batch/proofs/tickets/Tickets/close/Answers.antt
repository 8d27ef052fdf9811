use Rattle.std.proofs.Common.{◌≡◌, ap, ◌∙◌, subst}
use Rattle.lzk_batch.specs.Passes.{PassState}
use Rattle.lzk_batch.specs.Tickets.{HasEachBelowOnce}
use Rattle.lzk_batch.proofs.Steps.{closes}
use Rattle.lzk_batch.proofs.tickets.Tickets.close.Goals as goal

pub returns : goal.returns
returns c =
    let v = c.pass.inside.seat.me.0 in
    let drawn : v.drawn ≡ c.args.pass.drawn = ap (λ (p : PassState). p.drawn) c.pass.view_is in
    let spare : v.spare ≡ 63 = ap (λ (p : PassState). p.spare) c.pass.view_is ∙ c.requires.whole in
    let f = c.close_with-closed.ensures.values.2 in
    subst (HasEachBelowOnce c.word-word.result) drawn (closes f.0 c.pass.inside.seat.id v _ c.word-word.result f.1.0 f.1.1 f.2 c.word-word.ensures c.pass.invariant.1 spare)
