use Rattle.std.proofs.Common.{◌≡◌, ◌+◌, ◌%◌, ◌^◌, ◌++◌, map, slice_index}
use Rattle.std.specs.List.{range_with_len}
use Rattle.lzk_goldilocks.specs.Elements.{of_number}
use Rattle.lzk_sha_circuit.specs.Inputs.{final_list}
use Rattle.lzk_sha_circuit.proofs.inputs.write_result.Given as goal

abbrev pub invariant-loop-i : goal.invariant-loop-i
invariant-loop-i l = record {
  words : l.public.items ≡ map (λ i. of_number ((slice_index l.state i + slice_index l.variables i) % 2 ^ 32)) (range_with_len 0 l.i);
  bits : l.bits.items ≡ l.initial.bits.items ++ final_list of_number l.state l.variables l.i;
}
