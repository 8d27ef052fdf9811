use Rattle.std.proofs.Common.{◌≡◌, ◌≤◌, ◌++◌, length, drop}
use Rattle.lzk_circuit_reduce.specs.Used.{used_terms}
use Rattle.lzk_circuit_reduce.proofs.prune.add_marked.Given as goal

abbrev pub invariant-loop-i : goal.invariant-loop-i
invariant-loop-i g l = record {
  all : l.used.items ++ used_terms l.above.marks.items l.below.marks.items (drop l.i l.terms) ≡ used_terms l.above.marks.items l.below.marks.items l.terms;
  few : length l.used.items ≤ l.i;
  room : length l.terms ≤ l.used.cap;
}
