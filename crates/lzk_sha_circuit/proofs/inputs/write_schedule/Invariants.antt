use Rattle.std.proofs.Common.{◌≡◌, ◌-◌, ◌++◌, take}
use Rattle.sha2.specs.Sha256.{schedule}
use Rattle.lzk_goldilocks.specs.Elements.{of_number}
use Rattle.lzk_sha_circuit.specs.Inputs.{schedule_list}
use Rattle.lzk_sha_circuit.proofs.inputs.write_schedule.Given as goal

abbrev pub invariant-loop-i : goal.invariant-loop-i
invariant-loop-i l = l.words.items ≡ take l.i (schedule l.block 48)

abbrev pub invariant-loop-t : goal.invariant-loop-t
invariant-loop-t l = record {
  words : l.words.items ≡ take l.t (schedule l.block 48);
  bits : l.bits.items ≡ l.initial.bits.items ++ schedule_list of_number (schedule l.block 48) (l.t - 16);
}
