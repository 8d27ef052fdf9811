use Rattle.std.proofs.Common.{rules}
use Rattle.lzk_gf128.proofs.Basis.{high_more}
use Rattle.lzk_gf128.proofs.Sums.{wide_digit}
use Rattle.lzk_gf128.proofs.arith.Wide.digit_on.Goals as goal

pub returns-clause-value : goal.returns-clause-value
returns-clause-value c = wide_digit c.args.self.low c.args.self.high c.args.x c.args.y (search rules) c.requires.small (search rules)

pub returns-clause-room : goal.returns-clause-room
returns-clause-room c k most h = high_more c.args.self.low c.args.self.high c.args.y k (search rules) (search rules) h
