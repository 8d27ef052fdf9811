use Rattle.std.proofs.Common.{◌≡◌, ◌≤◌, length, take}
use Rattle.lzk_circuit.specs.Checks.{assertion_wires}
use Rattle.lzk_circuit.proofs.checks.count_asserted.Given as goal

abbrev pub invariant-loop-i : goal.invariant-loop-i
invariant-loop-i g l = record { count : l.count ≡ length (assertion_wires g.F.Field.coding.number (take l.i l.terms)); few : l.count ≤ l.i }
