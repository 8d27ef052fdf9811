use Rattle.std.proofs.Common.{[]}
use Rattle.lzk_expr.proofs.Taking.{left_size}
use Rattle.lzk_policy_texts.specs.Entries.{with_line}
use Rattle.lzk_policy_texts.proofs.EntryLines.{Left}
use Rattle.lzk_policy_texts.proofs.entries.read_entries.Given as goal

abbrev pub invariant-loop-left : goal.invariant-loop-left
invariant-loop-left l = Left with_line [] l.line l.text l.left l.found.items

abbrev pub decreases-loop-left : goal.decreases-loop-left
decreases-loop-left l = left_size l.left
