use Rattle.std.proofs.Common.{◌≡◌, take}
use Rattle.lzk_poly_ntt.proofs.prepared.prepare.Given as goal

abbrev pub invariant-loop-i : goal.invariant-loop-i
invariant-loop-i g l = l.list.items ≡ take l.i l.factors
