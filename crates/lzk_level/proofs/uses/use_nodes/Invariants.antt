use Rattle.std.proofs.Common.{◌≡◌, ℕ, ◌+◌, ◌<◌, ◌≤◌, min, length}
use Rattle.lzk_circuit_reduce.specs.Renumbering.{at}
use Rattle.lzk_level.proofs.UseLaws.{AreGrown}
use Rattle.lzk_level.proofs.uses.use_nodes.Given as goal

abbrev pub invariant-loop-i : goal.invariant-loop-i
invariant-loop-i l = record {
  count : length l.last.items ≡ length l.initial.last.items;
  grown : AreGrown l.initial.last.items l.last.items;
  lowest : (i : ℕ) → i < l.i → l.lowest ≤ at l.last.items (at l.nodes i);
  used : (i : ℕ) → i < l.i → min l.count (at l.depths (at l.nodes i) + 1) ≤ at l.last.items (at l.nodes i);
}
