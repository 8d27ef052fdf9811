use Rattle.std.proofs.Common.{◌≡◌, true}
use Rattle.lzk_verify.specs.Kept.{is_fed}
use Rattle.lzk_bench.proofs.provers.feed_often.Given as goal

abbrev pub invariant-loop : goal.invariant-loop
invariant-loop g l = l.desk.circuit ≡ l.fn.desk.circuit

abbrev pub invariant-loop-piece : goal.invariant-loop-piece
invariant-loop-piece g l = record { fed : is_fed l.desk ≡ true; circuit : l.desk.circuit ≡ l.fn.desk.circuit }
