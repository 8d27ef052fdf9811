use Rattle.lzk_policy_inputs.proofs.Issued.{only_issued}
use Rattle.lzk_policy_inputs.proofs.laws.issued_laws.Goals as goal

pub returns : goal.returns
returns c = only_issued
