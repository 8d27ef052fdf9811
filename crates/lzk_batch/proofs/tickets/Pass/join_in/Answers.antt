use Rattle.std.proofs.Common.{arith, rules}
use Rattle.lzk_batch.proofs.Steps.{joins_allowed}
use Rattle.lzk_batch.proofs.tickets.Pass.join_in.Goals as goal

pub join_seat-requires : goal.join_seat-requires
join_seat-requires c = (
  search rules,
  search rules,
  c.other.invariant.0,
  omega (arith, c.tickets.invariant.0),
  joins_allowed c.self.inside.seat.id c.self.inside.seat.me.0 c.other.inside.seat.id c.other.inside.seat.me.0 c.self.invariant.1 c.other.invariant.1,
)
