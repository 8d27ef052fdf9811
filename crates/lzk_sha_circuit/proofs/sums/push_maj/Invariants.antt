use Rattle.std.proofs.Common.{◌≡◌, ◌+◌, ◌^◌, ◌++◌}
use Rattle.std.specs.List.{range_with_len, flat_map}
use Rattle.lzk_goldilocks.specs.Elements.{ops, of_number}
use Rattle.lzk_sha_circuit.specs.Found.{places_of}
use Rattle.lzk_sha_circuit.specs.Products.{most_list}
use Rattle.lzk_sha_circuit.specs.Layers.{word_entry, wire_entry}
use Rattle.lzk_sha_circuit.proofs.sums.push_maj.Given as goal

abbrev pub invariant-loop-i : goal.invariant-loop-i
invariant-loop-i l = l.products.items ≡ l.initial.products.items ++ flat_map (λ i. most_list ops (of_number (2 ^ i)) (word_entry ops of_number (places_of l.given) l.x.word i) (word_entry ops of_number (places_of l.given) l.y.word i) (word_entry ops of_number (places_of l.given) l.z.word i) (wire_entry ops (l.ors.first + i))) (range_with_len 0 l.i)
