use Rattle.std.proofs.Common.{arith}
use Rattle.std.proofs.lemmas.Bool.{false≢true}
use Rattle.lzk_level.proofs.forms.is_late.Goals as goal

pub returns-then-row-le-FEW : goal.returns-then-row-le-FEW
returns-then-row-le-FEW g c e = absurd (false≢true e)

pub overflow_sub-last : goal.overflow_sub-last
overflow_sub-last g c = omega (arith, c.if-row-le-FEW.false)

pub offset_bounds-row-row : goal.offset_bounds-row-row
offset_bounds-row-row g c = omega arith

pub bounds-row-row : goal.bounds-row-row
bounds-row-row g c = omega (arith, c.if-row-le-FEW.false)

pub returns-then-low-last : goal.returns-then-low-last
returns-then-low-last g c e = omega (arith, c.if-row-le-FEW.false)

pub returns-then-low-last-2 : goal.returns-then-low-last-2
returns-then-low-last-2 g c e = omega (arith, c.if-row-le-FEW.false)

pub returns-else-low-last-2 : goal.returns-else-low-last-2
returns-else-low-last-2 g c e = omega (arith, c.if-row-le-FEW.false)
