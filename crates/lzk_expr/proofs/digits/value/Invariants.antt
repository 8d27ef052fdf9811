use Rattle.lzk_expr.proofs.Values.{IsValueAt}
use Rattle.lzk_expr.proofs.digits.value.Given as goal

abbrev pub invariant-loop-c : goal.invariant-loop-c
invariant-loop-c l = IsValueAt l.base.number l.digits l.c-index l.have
