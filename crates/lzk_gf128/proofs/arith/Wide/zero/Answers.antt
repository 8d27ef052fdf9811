use Rattle.std.proofs.Common.{ap, bit_xor}
use Rattle.lzk_gf128.proofs.Basis.{moved_zero}
use Rattle.lzk_gf128.proofs.arith.Wide.zero.Goals as goal

pub returns : goal.returns
returns c = ap (bit_xor 0) (moved_zero 128)
