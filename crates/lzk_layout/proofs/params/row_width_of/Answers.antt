use Rattle.std.proofs.Common.{refl, sym, arith}
use Rattle.lzk_layout.proofs.Least.{width_64, width_next}
use Rattle.lzk_layout.proofs.params.row_width_of.Goals as goal

pub returns-then-least-clause-width : goal.returns-then-least-clause-width
returns-then-least-clause-width c = sym (width_64 c.args.nw c.if-least.true)

pub returns-then-least-2-clause-width : goal.returns-then-least-2-clause-width
returns-then-least-2-clause-width c = sym (width_next c.args.nw 6 7 refl (omega arith) (omega arith) c.if-least.false c.if-least-2.true)

pub returns-then-least-3-clause-width : goal.returns-then-least-3-clause-width
returns-then-least-3-clause-width c = sym (width_next c.args.nw 7 8 refl (omega arith) (omega arith) c.if-least-2.false c.if-least-3.true)

pub returns-then-least-4-clause-width : goal.returns-then-least-4-clause-width
returns-then-least-4-clause-width c = sym (width_next c.args.nw 8 9 refl (omega arith) (omega arith) c.if-least-3.false c.if-least-4.true)

pub returns-then-least-5-clause-width : goal.returns-then-least-5-clause-width
returns-then-least-5-clause-width c = sym (width_next c.args.nw 9 10 refl (omega arith) (omega arith) c.if-least-4.false c.if-least-5.true)

pub returns-then-least-6-clause-width : goal.returns-then-least-6-clause-width
returns-then-least-6-clause-width c = sym (width_next c.args.nw 10 11 refl (omega arith) (omega arith) c.if-least-5.false c.if-least-6.true)

pub returns-else-least-6-clause-width : goal.returns-else-least-6-clause-width
returns-else-least-6-clause-width c = sym (width_next c.args.nw 11 12 refl (omega arith) (omega arith) c.if-least-6.false (omega arith))
