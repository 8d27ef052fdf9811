use Rattle.std.proofs.Common.{◌≡◌}
use Rattle.lzk_bench.proofs.provers.verify_often.Given as goal

abbrev pub invariant-loop : goal.invariant-loop
invariant-loop g l = l.desk.circuit ≡ l.fn.desk.circuit
