use Rattle.std.proofs.Common.{length}
use Rattle.lzk_policy_circuit.proofs.texts.+inner.Given as goal

abbrev pub decreases-inner : goal.decreases-inner
decreases-inner l = length l.xs.now
