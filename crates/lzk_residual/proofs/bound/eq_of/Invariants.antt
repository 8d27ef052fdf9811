use Rattle.std.proofs.Common.{◌≡◌, drop}
use Rattle.lzk_mle.specs.Multilinear.{eq}
use Rattle.lzk_residual.proofs.bound.eq_of.Given as goal

abbrev pub invariant-loop-j : goal.invariant-loop-j
invariant-loop-j g l = let o = g.F.Field.ops in o.times l.product (eq o l.rest (drop l.j l.r)) ≡ eq o l.number l.r
