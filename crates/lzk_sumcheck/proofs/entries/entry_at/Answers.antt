use Rattle.std.proofs.Common.{sym, ◌∙◌, arith}
use Rattle.std.proofs.lemmas.List.{get_or_default, get_or_past}
use Rattle.lzk_sumcheck.proofs.entries.entry_at.Goals as goal

pub offset_bounds-table-i : goal.offset_bounds-table-i
offset_bounds-table-i g c = omega (arith, c.if-i-table.true)

pub bounds-table-i : goal.bounds-table-i
bounds-table-i g c = c.if-i-table.true

pub returns-then-i-table : goal.returns-then-i-table
returns-then-i-table g c = c.index-table-i.is ∙ get_or_default c.args.table.now c.args.i c.index-table-i.result g.F.Field.ops.zero c.if-i-table.true

pub returns-else-i-table : goal.returns-else-i-table
returns-else-i-table g c = c.zero.ensures ∙ sym (get_or_past c.args.table.now c.args.i g.F.Field.ops.zero c.if-i-table.false)
