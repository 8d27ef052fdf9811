use Rattle.lzk_field.specs.Bytes.{elements_bytes}
use Rattle.std.proofs.Common.{◌≡◌, ◌*◌, take, map}
use Rattle.lzk_transcript.proofs.elements.write_elements.Given as goal

abbrev pub invariant-loop-i : goal.invariant-loop-i
invariant-loop-i g l = take (l.i * g.F.Field.coding.bytes) l.out ≡ elements_bytes g.F.Field.coding.bytes (map g.F.Field.coding.number (take l.i l.elements))
