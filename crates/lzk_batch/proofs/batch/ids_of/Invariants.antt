use Rattle.std.proofs.Common.{◌≡◌, map, take}
use Rattle.lzk_circbytes.specs.Files.{id_of_any}
use Rattle.lzk_batch.proofs.batch.ids_of.Given as goal

abbrev pub invariant-loop-i : goal.invariant-loop-i
invariant-loop-i l = l.ids.items ≡ map id_of_any (take l.i l.circuits)
