use Rattle.std.proofs.Common.{◌≡◌, ◌++◌, drop}
use Rattle.lzk_circbytes.specs.Numbered.{shape}
use Rattle.lzk_circbytes.specs.Spelling.{constants_bytes}
use Rattle.lzk_circbytes.proofs.writing.push_constants.Given as goal

abbrev pub invariant-loop-c : goal.invariant-loop-c
invariant-loop-c g l =
    l.out.items ++ constants_bytes (shape g.F.Field.coding.id g.F.Field.coding.bytes g.F.Field.coding.size) (drop l.c-index l.constants) ≡ l.fn.out.items ++ constants_bytes (shape g.F.Field.coding.id g.F.Field.coding.bytes g.F.Field.coding.size) l.constants
