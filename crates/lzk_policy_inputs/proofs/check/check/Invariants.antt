use Rattle.lzk_policy_inputs.specs.Refused.{IsRightBefore}
use Rattle.lzk_policy_inputs.proofs.check.check.Given as goal

abbrev pub invariant-loop-place : goal.invariant-loop-place
invariant-loop-place l = IsRightBefore l.policy l.bytes l.values l.place
