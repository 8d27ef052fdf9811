use Rattle.std.proofs.Common.{◌≡◌}
use Rattle.lzk_accept.specs.Residuals.{claim_after}
use Rattle.lzk_residual.proofs.claims.after_rounds.Given as goal

abbrev pub invariant-loop-n : goal.invariant-loop-n
invariant-loop-n g l =
    let f = g.F.Field in
    let x = l.witnessed.exchange in
    l.claim ≡ claim_after f.ops f.coding.element x.scripted.circuit.now x.scripted.script.now x.messages.now l.witnessed.w.now l.l l.n
