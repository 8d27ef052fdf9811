use Rattle.std.proofs.Common.{length}
use Rattle.lzk_policy_inputs.proofs.root_inputs.+node_laws.Given as goal

abbrev pub decreases-node_laws : goal.decreases-node_laws
decreases-node_laws l = length l.nodes.now
