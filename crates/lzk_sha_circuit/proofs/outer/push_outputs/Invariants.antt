use Rattle.std.proofs.Common.{take}
use Rattle.lzk_goldilocks.specs.Elements.{ops, of_number}
use Rattle.lzk_sha_circuit.specs.Found.{places_of}
use Rattle.lzk_sha_circuit.specs.Layers.{Grows, inner_count, output_rows}
use Rattle.lzk_sha_circuit.proofs.outer.push_outputs.Given as goal

abbrev pub invariant-loop-k : goal.invariant-loop-k
invariant-loop-k l = Grows ops (inner_count (places_of l.given)) 0 l.initial.terms.items (take l.k (output_rows ops of_number (places_of l.given))) l.terms.items
