use Rattle.std.proofs.Common.{◌≡◌}
use Rattle.lzk_tests_protocol.proofs.ligero.changes.count_changed.Given as goal

abbrev pub invariant-loop-change : goal.invariant-loop-change
invariant-loop-change g l = l.works ≡ l.fn.works
