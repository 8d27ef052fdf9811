use Rattle.std.proofs.Common.{◌≡◌, ◌+◌, ◌^◌, ◌≤◌, drop}
use Rattle.lzk_expr.specs.Texts.{value_in}
use Rattle.lzk_expr.proofs.digits.short_value.Given as goal

abbrev pub invariant-loop-c : goal.invariant-loop-c
invariant-loop-c l = record {
  read : value_in l.base.number 0 l.digits ≡ value_in l.base.number l.have (drop l.c-index l.digits);
  bound : l.have + 1 ≤ 16 ^ l.c-index;
}
