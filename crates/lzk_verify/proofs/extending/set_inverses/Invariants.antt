use Rattle.lzk_field.specs.Sums.{minus}
use Rattle.lzk_sumcheck.proofs.Filled.{IsFilled}
use Rattle.lzk_verify.proofs.extending.set_inverses.Given as goal

abbrev pub invariant-loop-i : goal.invariant-loop-i
invariant-loop-i g l =
    let f = g.F.Field in
    let o = f.ops in
    IsFilled o.zero (λ k. o.inverse (minus o (f.coding.element l.at.point) (f.coding.element k))) l.i l.list
