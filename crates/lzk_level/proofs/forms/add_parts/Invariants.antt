use Rattle.std.proofs.Common.{◌+◌, ◌≤◌, length, take}
use Rattle.lzk_level.specs.Forms.{IsSumForm}
use Rattle.lzk_level.proofs.forms.add_parts.Given as goal

abbrev pub invariant-loop-j : goal.invariant-loop-j
invariant-loop-j g l = record {
  sum : IsSumForm g.F.Field.ops l.next.inputs l.next.made.now l.next.depths.now (l.next.inputs + l.next.i) l.next.depth (take l.j l.parts) l.row.items;
  some : 1 ≤ length l.row.items → 1 ≤ l.j;
}
