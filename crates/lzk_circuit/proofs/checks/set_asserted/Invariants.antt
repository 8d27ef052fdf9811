use Rattle.std.proofs.Common.{◌≡◌, ◌≤◌, length, map, take}
use Rattle.lzk_circuit.specs.Checks.{asserted, assertion_wires}
use Rattle.lzk_circuit.proofs.checks.set_asserted.Given as goal

abbrev pub invariant-loop-i : goal.invariant-loop-i
invariant-loop-i g l =
    let wires = assertion_wires g.F.Field.coding.number (take l.i l.terms) in
    record { next : l.next ≡ length wires; set : take l.next l.out ≡ map (asserted g.F.Field.ops l.terms l.below) wires; few : l.next ≤ l.i }
