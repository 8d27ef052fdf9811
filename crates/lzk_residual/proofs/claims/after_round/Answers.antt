use Rattle.std.proofs.Common.{◌+◌, ◌*◌, ap, ◌∙◌}
use Rattle.lzk_accept.specs.Residuals.{next_claim, padded}
use Rattle.lzk_residual.proofs.claims.after_round.Goals as goal

pub returns : goal.returns
returns g c =
    let f = g.F.Field in
    let a = c.args in
    let p = padded f.ops a.witnessed.now.exchange.messages.now a.witnessed.now.w.now in
    let i = a.places.messages + 2 * a.n in
    let j = a.places.pads + 2 * a.n in
    c.round_claim.ensures
    ∙ ap (λ x. next_claim f.ops f.coding.element a.claim x c.padded-p2.result c.round_challenge.result) c.padded-p0.ensures
    ∙ ap (λ x. next_claim f.ops f.coding.element a.claim (p i j) x c.round_challenge.result) c.padded-p2.ensures
    ∙ ap (next_claim f.ops f.coding.element a.claim (p i j) (p (i + 1) (j + 1))) c.round_challenge.ensures
