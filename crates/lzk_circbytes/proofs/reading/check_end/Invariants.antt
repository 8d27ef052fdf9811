use Rattle.std.proofs.Common.{◌≡◌, ◌*◌, drop}
use Rattle.lzk_circbytes.specs.Answers.{unmarked_from}
use Rattle.lzk_circbytes.proofs.reading.check_end.Given as goal

abbrev pub invariant-loop-i : goal.invariant-loop-i
invariant-loop-i l = unmarked_from l.width (drop l.i l.used) (drop (l.i * l.width) l.bytes) ≡ unmarked_from l.width l.used l.bytes
