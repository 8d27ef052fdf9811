-- The numbers of the rules of circuits' files, in the order in which they are declared.
use Rattle.std.specs.Prelude.{ℕ}
use Rattle.lzk_circbytes.specs.declared.fault.ByteKind.{ByteKind}
use Rattle.lzk_circbytes.specs.declared.fault.ByteKind.TheVariants.{Truncated, Magic, FieldId, Limit, Varint, Order, Range, Constant, Trailing, Assertion}

abbrev pub rule_number : ByteKind → ℕ
rule_number Truncated = 1
rule_number Magic = 2
rule_number FieldId = 3
rule_number Limit = 4
rule_number Varint = 5
rule_number Order = 6
rule_number Range = 7
rule_number Constant = 8
rule_number Trailing = 9
rule_number Assertion = 10
