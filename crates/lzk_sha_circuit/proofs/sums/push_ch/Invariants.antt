use Rattle.std.proofs.Common.{◌≡◌, ◌^◌, ◌++◌}
use Rattle.std.specs.List.{range_with_len, flat_map}
use Rattle.lzk_goldilocks.specs.Elements.{ops, of_number}
use Rattle.lzk_sha_circuit.specs.Found.{places_of}
use Rattle.lzk_sha_circuit.specs.Products.{chosen_list}
use Rattle.lzk_sha_circuit.specs.Layers.{word_entry}
use Rattle.lzk_sha_circuit.proofs.sums.push_ch.Given as goal

abbrev pub invariant-loop-i : goal.invariant-loop-i
invariant-loop-i l = l.products.items ≡ l.initial.products.items ++ flat_map (λ i. chosen_list ops (of_number (2 ^ i)) (word_entry ops of_number (places_of l.given) l.e.word i) (word_entry ops of_number (places_of l.given) l.f.word i) (word_entry ops of_number (places_of l.given) l.g.word i)) (range_with_len 0 l.i)
