use Rattle.std.proofs.Common.{◌≡◌, length}
use Rattle.lzk_tests_ground.proofs.ground.trees.tree_of.Given as goal

abbrev pub invariant-loop-j : goal.invariant-loop-j
invariant-loop-j l = length l.tree.leaves ≡ l.n
