use Rattle.std.proofs.Common.{◌+◌, ◌≤◌, length}
use Rattle.lzk_level.proofs.FormSteps.{SoFar}
use Rattle.lzk_level.proofs.forms.forms_of.Given as goal

abbrev pub invariant-loop-i : goal.invariant-loop-i
invariant-loop-i g l = record {
  so_far : SoFar g.F.Field.ops l.inputs l.made l.depths l.i l.starts.items l.terms.items;
  room : 1 + length l.made ≤ l.starts.cap;
}
