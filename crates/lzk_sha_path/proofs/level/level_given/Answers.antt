use Rattle.std.proofs.Common.{sym, subst, arith}
use Rattle.lzk_sha_circuit.specs.Places.{IsPlaced}
use Rattle.lzk_sha_path.proofs.LevelLaws.{placed, places_are}
use Rattle.lzk_sha_path.proofs.level.level_given.Goals as goal

pub invariant_of-result : goal.invariant_of-result
invariant_of-result c = record {
  few = omega arith;
  placed = subst IsPlaced (sym (places_are c.in_ok-state.state.items c.in_ok-block.block.items c.in_ok-state.ensures c.in_ok-block.ensures)) placed;
}

pub returns : goal.returns
returns c = places_are c.in_ok-state.state.items c.in_ok-block.block.items c.in_ok-state.ensures c.in_ok-block.ensures
