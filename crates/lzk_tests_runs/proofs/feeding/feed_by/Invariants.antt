use Rattle.std.proofs.Common.{◌≡◌, true}
use Rattle.lzk_verify.specs.Kept.{is_fed}
use Rattle.lzk_tests_runs.proofs.feeding.feed_by.Given as goal

abbrev pub invariant-loop-piece : goal.invariant-loop-piece
invariant-loop-piece g l = record { fed : is_fed l.desk ≡ true; circuit : l.desk.circuit ≡ l.fn.desk.circuit }
