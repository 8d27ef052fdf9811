use Rattle.std.proofs.Common.{map}
use Rattle.std.specs.List.{range_with_len}
use Rattle.lzk_goldilocks.specs.Elements.{ops}
use Rattle.lzk_sha_circuit.specs.Layers.{Grows, pass_row}
use Rattle.lzk_sha_circuit.proofs.inner.push_inputs.Given as goal

abbrev pub invariant-loop-k : goal.invariant-loop-k
invariant-loop-k l = Grows ops l.count 0 l.initial.terms.items (map (pass_row ops) (range_with_len 0 l.k)) l.terms.items
