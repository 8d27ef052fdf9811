use Rattle.std.proofs.Common.{◌≡◌, map, take}
use Rattle.lzk_cmd_batch.specs.declared.kept.CircuitFile.{CircuitFile}
use Rattle.lzk_cmd_batch.proofs.kept.ids_of.Given as goal

abbrev pub invariant-loop-i : goal.invariant-loop-i
invariant-loop-i l = l.ids.items ≡ map (λ (file : CircuitFile). file.id) (take l.i l.files)
