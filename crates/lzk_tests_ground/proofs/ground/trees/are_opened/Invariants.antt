use Rattle.std.proofs.Common.{ℕ, ◌+◌, ◌<◌, slice_index}
use Rattle.lzk_tests_ground.proofs.ground.trees.are_opened.Given as goal

abbrev pub invariant-opened : goal.invariant-opened
invariant-opened l = record {
  below : (i : ℕ) → i < l.k → slice_index l.opened i < l.n;
  rising : (i : ℕ) → i + 1 < l.k → slice_index l.opened i < slice_index l.opened (i + 1);
}
