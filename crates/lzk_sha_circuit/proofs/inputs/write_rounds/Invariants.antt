use Rattle.std.proofs.Common.{◌≡◌, ◌++◌}
use Rattle.sha2.specs.Sha256.{rounds}
use Rattle.lzk_goldilocks.specs.Elements.{of_number}
use Rattle.lzk_sha_circuit.specs.Inputs.{rounds_list}
use Rattle.lzk_sha_circuit.proofs.inputs.write_rounds.Given as goal

abbrev pub invariant-loop-t : goal.invariant-loop-t
invariant-loop-t l = record {
  variables : l.variables ≡ rounds l.fn.state l.words l.t;
  bits : l.bits.items ≡ l.initial.bits.items ++ rounds_list of_number l.fn.state l.words l.t;
}
