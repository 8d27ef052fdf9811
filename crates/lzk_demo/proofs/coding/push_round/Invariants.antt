use Rattle.std.proofs.Common.{◌≡◌, ◌++◌, ◌+◌, ◌*◌, ◌/◌, ◌≤◌, List, drop, length}
use Rattle.lzk_expr.specs.Trees.{Statement}
use Rattle.lzk_demo.specs.Demo.{paired, round_lets}
use Rattle.lzk_demo.specs.Words.{AreWordsOf}
use Rattle.lzk_demo.proofs.WordLaws.{AreWordsBefore}
use Rattle.lzk_demo.proofs.coding.push_round.Given as goal

abbrev pub invariant-loop-i : goal.invariant-loop-i
invariant-loop-i l = record {
  listed : l.list.items ++ paired (l.first + l.i) (drop (2 * l.i) l.entries) ≡ paired l.first l.entries;
  made : (ss : List Statement) → AreWordsOf ss l.initial.words.items → AreWordsBefore l.words.items (round_lets (l.first + l.i) (drop (2 * l.i) l.entries)) (ss ++ round_lets l.first l.entries);
  count : length l.list.items ≡ l.i;
  room : length l.entries / 2 + 1 ≤ l.list.cap;
}
