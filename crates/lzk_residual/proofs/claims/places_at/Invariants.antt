use Rattle.std.proofs.Common.{◌≡◌, ◌<◌}
use Rattle.lzk_layout.specs.Places.{depth, places_of, AreWithin}
use Rattle.lzk_residual.proofs.claims.places_at.Given as goal

abbrev pub invariant-loop-k : goal.invariant-loop-k
invariant-loop-k g l = record {
  places : l.places ≡ places_of l.circuit l.k;
  within : l.k < depth l.circuit → AreWithin l.circuit l.places;
}
