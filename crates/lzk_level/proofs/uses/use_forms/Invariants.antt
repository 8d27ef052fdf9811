use Rattle.std.proofs.Common.{◌≡◌, ◌-◌, length}
use Rattle.lzk_level.specs.Uses.{node_form}
use Rattle.lzk_level.proofs.UseLaws.{AreGrown, AreServed}
use Rattle.lzk_level.proofs.uses.use_forms.Given as goal

abbrev pub invariant-loop-j : goal.invariant-loop-j
invariant-loop-j g l = record {
  count : length l.last.items ≡ length l.depths;
  grown : AreGrown l.initial.last.items l.last.items;
  served : AreServed (node_form l.inputs l.forms) l.depths l.last.items (length l.depths - l.j);
}
