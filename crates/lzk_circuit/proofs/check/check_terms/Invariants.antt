use Rattle.std.proofs.Common.{◌≡◌, drop}
use Rattle.std.specs.Prelude.{None}
use Rattle.lzk_circuit.specs.Faults.{terms_fault}
use Rattle.lzk_circuit.proofs.check.check_terms.Given as goal

abbrev pub invariant-loop-place : goal.invariant-loop-place
invariant-loop-place g l =
    let fault = terms_fault g.F.Field.coding.number l.version l.layer l.wires l.width in fault l.before l.place (drop l.place l.terms) ≡ fault None 0 l.terms
