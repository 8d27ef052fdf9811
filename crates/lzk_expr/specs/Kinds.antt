-- The numbers of the rules of number files, in the order in which they are declared.
use Rattle.std.specs.Prelude.{ℕ}
use Rattle.lzk_expr.specs.declared.fault.NumberKind.{NumberKind}
use Rattle.lzk_expr.specs.declared.fault.NumberKind.TheVariants.{Syntax, TooLarge, TooFew, TooMany}

abbrev pub rule_number : NumberKind → ℕ
rule_number Syntax = 1
rule_number TooLarge = 2
rule_number TooFew = 3
rule_number TooMany = 4
