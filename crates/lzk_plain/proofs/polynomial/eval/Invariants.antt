use Rattle.std.proofs.Common.{◌≡◌, drop}
use Rattle.lzk_poly.specs.Polynomial.{eval}
use Rattle.lzk_plain.proofs.polynomial.eval.Given as goal

abbrev pub invariant-loop-i : goal.invariant-loop-i
invariant-loop-i g l = l.value ≡ eval g.F.Field.ops (drop l.i l.fn.coeffs) l.fn.t
