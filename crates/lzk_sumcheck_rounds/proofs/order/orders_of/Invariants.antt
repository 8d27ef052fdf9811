use Rattle.std.proofs.Common.{◌≤◌}
use Rattle.lzk_layout.specs.Places.{depth}
use Rattle.lzk_sumcheck_rounds.proofs.OrderLaws.{AreOrdersBelow}
use Rattle.lzk_sumcheck_rounds.proofs.order.orders_of.Given as goal

abbrev pub invariant-loop-l : goal.invariant-loop-l
invariant-loop-l g l = record { so_far : AreOrdersBelow l.circuit l.l l.list.items; room : depth l.circuit ≤ l.list.cap }
