use Rattle.std.proofs.Common.{refl}
use Rattle.lzk_circuit_reduce.proofs.rows.push_next.Goals as goal

pub push_reserved-requires : goal.push_reserved-requires
push_reserved-requires g c = c.requires

pub push_reserved-requires-then-y-x : goal.push_reserved-requires-then-y-x
push_reserved-requires-then-y-x g c = c.requires

pub push_reserved-requires-then-not-is_zero : goal.push_reserved-requires-then-not-is_zero
push_reserved-requires-then-not-is_zero g c = c.requires

pub returns-then-x-y-clause-capacity : goal.returns-then-x-y-clause-capacity
returns-then-x-y-clause-capacity g c = c.push_reserved.ensures.capacity

pub returns-then-y-x-clause-capacity : goal.returns-then-y-x-clause-capacity
returns-then-y-x-clause-capacity g c = c.push_reserved-then-y-x.ensures.capacity

pub returns-then-not-is_zero-clause-capacity : goal.returns-then-not-is_zero-clause-capacity
returns-then-not-is_zero-clause-capacity g c = c.push_reserved-then-not-is_zero.ensures.capacity

pub returns-else-not-is_zero-clause-capacity : goal.returns-else-not-is_zero-clause-capacity
returns-else-not-is_zero-clause-capacity g c = refl
