use Rattle.std.proofs.Common.{◌≡◌, arith, rules, ap, ◌∙◌, []}
use Rattle.lzk_batch.specs.Passes.{PassState}
use Rattle.lzk_batch.specs.Tickets.{late}
use Rattle.lzk_batch.proofs.Steps.{splits_allowed}
use Rattle.lzk_batch.proofs.tickets.Pass.split_off.Goals as goal

pub split_seat-requires : goal.split_seat-requires
split_seat-requires c =
    let v = c.self.inside.seat.me.0 in
    let spare : v.spare ≡ c.args.self.now.spare = ap (λ (p : PassState). p.spare) c.self.view_is in
    let none : v.drawn ≡ [] = ap (λ (p : PassState). p.drawn) c.self.view_is ∙ c.requires.fresh in
    let early : late v.drawn ≡ 0 = ap late none in (
      search rules,
      omega (arith, c.tickets.invariant.0),
      splits_allowed c.self.inside.seat.id v c.self.invariant.1 (omega (arith, spare, c.requires.some)) (omega (arith, early)),
    )
