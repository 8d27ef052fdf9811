use Rattle.std.proofs.Common.{◌≤◌, length}
use Rattle.lzk_merkle.specs.Tree.{IsBuilt}
use Rattle.lzk_bench.proofs.trees.rebuild.Given as goal

abbrev pub invariant-loop : goal.invariant-loop
invariant-loop l = record { some : 1 ≤ length l.tree.leaves; built : IsBuilt l.tree }
