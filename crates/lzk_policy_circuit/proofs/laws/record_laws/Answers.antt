use Rattle.lzk_policy_circuit.proofs.Whole.{satisfied_held}
use Rattle.lzk_policy_circuit.proofs.laws.record_laws.Goals as goal

pub returns : goal.returns
returns c = satisfied_held
