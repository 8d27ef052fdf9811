use Rattle.std.proofs.Common.{◌≡◌, ◌++◌, ◌+◌, ◌≤◌, List, length}
use Rattle.lzk_expr.specs.Trees.{Statement}
use Rattle.lzk_demo.specs.Demo.{rounds}
use Rattle.lzk_demo.specs.Words.{AreWordsOf}
use Rattle.lzk_demo.proofs.WordLaws.{AreRoundsLeft}
use Rattle.lzk_demo.proofs.coding.push_rounds.Given as goal

abbrev pub invariant-loop-alloc : goal.invariant-loop-alloc
invariant-loop-alloc l = record {
  some : 1 ≤ length l.entries.items;
  few : l.made + length l.entries.items ≤ 16384;
  made : (ss : List Statement) → AreWordsOf ss l.initial.words.items → AreRoundsLeft l.words.items l.made l.entries.items (ss ++ rounds (length l.initial.entries.items) 0 l.initial.entries.items);
}

abbrev pub decreases-loop-alloc : goal.decreases-loop-alloc
decreases-loop-alloc l = length l.entries.items
