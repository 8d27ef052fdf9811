use Rattle.std.proofs.Common.{map}
use Rattle.std.specs.Prelude.{string_bytes}
use Rattle.lzk_cmd_batch.specs.Gathered.{any_end}
use Rattle.lzk_cmd_batch.proofs.Tells.{Telling}
use Rattle.lzk_cmd_batch.proofs.telling.tell_verdicts.Given as goal

abbrev pub invariant-loop-i : goal.invariant-loop-i
invariant-loop-i l = Telling (map any_end l.verdicts) l.i l.accepted (string_bytes l.text)
