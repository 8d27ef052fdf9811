use Rattle.lzk_sumcheck.specs.Script.{HasShape}
use Rattle.lzk_bench.proofs.tables.replay_often.Given as goal

abbrev pub invariant-loop : goal.invariant-loop
invariant-loop l = HasShape l.circuit l.script
