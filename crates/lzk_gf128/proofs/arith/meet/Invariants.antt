use Rattle.std.proofs.Common.{◌≡◌}
use Rattle.lzk_gf128.specs.Bodies.{squared}
use Rattle.lzk_gf128.proofs.arith.meet.Given as goal

abbrev pub invariant-loop : goal.invariant-loop
invariant-loop l = l.power ≡ squared l.counter l.fn.upper
