use Rattle.std.proofs.Common.{rules}
use Rattle.lzk_gf128.proofs.Multiples.{doubled_is}
use Rattle.lzk_gf128.proofs.arith.doubled.Goals as goal

pub returns : goal.returns
returns c = doubled_is c.args.a (search rules)
