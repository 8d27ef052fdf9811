use Rattle.std.proofs.Common.{◌≢◌, ◌<◌, ℕ}
use Rattle.std.specs.Prelude.{slice_index_or}
use Rattle.lzk_cmd_batch.specs.declared.kept.CircuitFile.{CircuitFile}
use Rattle.lzk_cmd_batch.proofs.kept.place_of.Given as goal

abbrev pub invariant-loop-i : goal.invariant-loop-i
invariant-loop-i l = (k : ℕ) (d : CircuitFile) → k < l.i → (slice_index_or l.files k d).name.now ≢ l.name
