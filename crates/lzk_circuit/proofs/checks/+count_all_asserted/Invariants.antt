use Rattle.std.proofs.Common.{length}
use Rattle.lzk_circuit.proofs.checks.+count_all_asserted.Given as goal

abbrev pub decreases-count_all_asserted : goal.decreases-count_all_asserted
decreases-count_all_asserted g l = length l.layers.now
