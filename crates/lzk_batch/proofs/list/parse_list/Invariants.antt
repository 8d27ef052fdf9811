use Rattle.std.proofs.Common.{map}
use Rattle.lzk_expr.proofs.Taking.{left_size}
use Rattle.lzk_batch.specs.Lists.{entry_view}
use Rattle.lzk_batch.proofs.Listing.{Left}
use Rattle.lzk_batch.proofs.list.parse_list.Given as goal

abbrev pub invariant-loop-left : goal.invariant-loop-left
invariant-loop-left l = Left l.line l.text l.left (map entry_view l.entries.items)

abbrev pub decreases-loop-left : goal.decreases-loop-left
decreases-loop-left l = left_size l.left
