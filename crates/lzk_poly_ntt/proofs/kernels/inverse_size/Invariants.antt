use Rattle.std.proofs.Common.{◌≡◌}
use Rattle.lzk_poly_ntt.specs.Transform.{doubled}
use Rattle.lzk_poly_ntt.proofs.kernels.inverse_size.Given as goal

abbrev pub invariant-loop-k : goal.invariant-loop-k
invariant-loop-k g l = l.size ≡ doubled g.F.Field.ops l._k
