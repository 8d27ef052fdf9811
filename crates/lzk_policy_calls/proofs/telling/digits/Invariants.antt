use Rattle.std.proofs.Common.{◌≡◌, ◌++◌, drop}
use Rattle.lzk_policy_calls.specs.Telling as spec
use Rattle.lzk_policy_calls.proofs.telling.digits.Given as goal

abbrev pub invariant-loop-number : goal.invariant-loop-number
invariant-loop-number l = l.text.items ++ spec.digits (drop l.number-index l.numbers) ≡ spec.digits l.numbers
