use Rattle.std.proofs.Common.{length}
use Rattle.lzk_policy_circuit.proofs.circuit.+with_pseudonyms.Given as goal

abbrev pub decreases-with_pseudonyms : goal.decreases-with_pseudonyms
decreases-with_pseudonyms l = length l.shows.now
