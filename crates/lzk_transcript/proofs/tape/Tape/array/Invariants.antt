use Rattle.lzk_field.specs.Bytes.{elements_bytes}
use Rattle.std.proofs.Common.{◌≡◌, map, length}
use Rattle.lzk_transcript.specs.Tape.{appended, array_entry}
use Rattle.lzk_transcript.proofs.tape.Tape.array.Given as goal

abbrev pub invariant-loop-rest : goal.invariant-loop-rest
invariant-loop-rest g l =
    appended (elements_bytes g.F.Field.coding.bytes (map g.F.Field.coding.number l.rest)) l.self
    ≡ appended (array_entry g.F.Field.coding.bytes (map g.F.Field.coding.number l.es)) l.fn.self

abbrev pub decreases-loop-rest : goal.decreases-loop-rest
decreases-loop-rest g l = length l.rest
