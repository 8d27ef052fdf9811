use Rattle.std.proofs.Common.{rules}
use Rattle.lzk_gf128.proofs.Basis.{both_32}
use Rattle.lzk_gf128.proofs.arith.Wide.half_on.Goals as goal

pub returns : goal.returns
returns c = both_32 c.args.self.low c.args.self.high (search rules) c.requires
