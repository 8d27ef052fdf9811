use Rattle.std.proofs.Common.{◌≡◌}
use Rattle.lzk_goldilocks.specs.Elements.{of_number}
use Rattle.lzk_policy.specs.Lines.{number_at}
use Rattle.lzk_policy_circuit.proofs.texts.element_of.Given as goal

abbrev pub invariant-loop-i : goal.invariant-loop-i
invariant-loop-i l = l.number ≡ of_number (number_at l.text 0 l.i)
