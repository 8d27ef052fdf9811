use Rattle.std.proofs.Common.{◌≡◌}
use Rattle.lzk_layout.specs.Places.{places_of}
use Rattle.lzk_tests_circuits.proofs.layout.places.wrong_places.Given as goal

abbrev pub invariant-loop-l : goal.invariant-loop-l
invariant-loop-l g l = l.places ≡ places_of l.circuit l.l
