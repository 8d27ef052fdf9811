use Rattle.std.proofs.Common.{arith}
use Rattle.lzk_circuit_reduce.proofs.add.place_of.Goals as goal

pub loop-place-init : goal.loop-place-init
loop-place-init g c = (omega arith, λ t l. absurd (omega (arith, l)))

pub overflow_sub-place : goal.overflow_sub-place
overflow_sub-place g c = omega (arith, c.loop-place-test.true)

pub offset_bounds-row-place : goal.offset_bounds-row-place
offset_bounds-row-place g c = omega (arith, c.loop-place.invariant.0)

pub bounds-row-place : goal.bounds-row-place
bounds-row-place g c = omega (arith, c.loop-place.invariant.0, c.loop-place-test.true)

pub overflow_sub-place-in-loop-place : goal.overflow_sub-place-in-loop-place
overflow_sub-place-in-loop-place g c = omega (arith, c.loop-place-test.true)

pub loop-place-smaller : goal.loop-place-smaller
loop-place-smaller g c = omega (arith, c.loop-place-test.true)

pub returns-else-not-is_before-clause-within : goal.returns-else-not-is_before-clause-within
returns-else-not-is_before-clause-within g c = c.loop-place.invariant.0

pub returns-else-not-is_before-clause-ahead : goal.returns-else-not-is_before-clause-ahead
returns-else-not-is_before-clause-ahead g c = c.loop-place.invariant.1

pub returns-after-loop-place-clause-within : goal.returns-after-loop-place-clause-within
returns-after-loop-place-clause-within g c = c.loop-place.invariant.0

pub returns-after-loop-place-clause-behind : goal.returns-after-loop-place-clause-behind
returns-after-loop-place-clause-behind g c i t e = absurd (omega (arith, e, c.loop-place-test.false))

pub returns-after-loop-place-clause-ahead : goal.returns-after-loop-place-clause-ahead
returns-after-loop-place-clause-ahead g c = c.loop-place.invariant.1
