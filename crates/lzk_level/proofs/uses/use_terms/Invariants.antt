use Rattle.std.proofs.Common.{◌≡◌, ℕ, ◌≤◌, length, take}
use Rattle.lzk_circuit_reduce.specs.Renumbering.{at}
use Rattle.lzk_level.specs.Uses.{AreBefore, AreUsedTo}
use Rattle.lzk_level.proofs.UseLaws.{AreGrown}
use Rattle.lzk_level.proofs.uses.use_terms.Given as goal

abbrev pub invariant-loop-i : goal.invariant-loop-i
invariant-loop-i g l = record {
  count : length l.last.items ≡ length l.initial.last.items;
  grown : AreGrown l.initial.last.items l.last.items;
  others : (k : ℕ) → AreBefore k l.terms → (j : ℕ) → k ≤ j → at l.last.items j ≡ at l.initial.last.items j;
  used : AreUsedTo l.last.items l.level (take l.i l.terms);
}
