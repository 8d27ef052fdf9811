use Rattle.std.proofs.Common.{arith, ◌-◌}
use Rattle.lzk_circbytes.proofs.Powers.{power_step, power_top, power_some}
use Rattle.lzk_circbytes.proofs.reading.+septets_of.Goals as goal

pub returns-then-b-lt128-clause-bound : goal.returns-then-b-lt128-clause-bound
returns-then-b-lt128-clause-bound t c = omega (arith, power_some c.args.k (omega arith))

pub overflow_mul-result : goal.overflow_mul-result
overflow_mul-result t c = omega (arith, c.in_ok-high-in-len1-up.ensures.bound, power_top (c.args.k - 1) (omega arith))

pub overflow_add-result : goal.overflow_add-result
overflow_add-result t c = omega (arith, c.in_ok-high-in-len1-up.ensures.bound, power_top (c.args.k - 1) (omega arith), c.type_inv.bytes 0)

pub returns-else-high-eq0-clause-bound : goal.returns-else-high-eq0-clause-bound
returns-else-high-eq0-clause-bound t c = omega (arith, c.in_ok-high-in-len1-up.ensures.bound, power_step c.args.k (omega arith), c.type_inv.bytes 0)
