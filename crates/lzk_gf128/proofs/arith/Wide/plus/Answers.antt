use Rattle.lzk_gf128.proofs.Sums.{wide_plus}
use Rattle.lzk_gf128.proofs.arith.Wide.plus.Goals as goal

pub returns : goal.returns
returns c = wide_plus c.args.self.low c.args.other.low c.args.self.high c.args.other.high
