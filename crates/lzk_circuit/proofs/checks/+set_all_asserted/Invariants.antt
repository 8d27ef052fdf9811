use Rattle.std.proofs.Common.{length}
use Rattle.lzk_circuit.proofs.checks.+set_all_asserted.Given as goal

abbrev pub decreases-set_all_asserted : goal.decreases-set_all_asserted
decreases-set_all_asserted g l = length l.layers.now
