use Rattle.std.proofs.Common.{map}
use Rattle.std.specs.List.{range_with_len}
use Rattle.lzk_goldilocks.specs.Elements.{ops, of_number}
use Rattle.lzk_sha_circuit.specs.Found.{places_of}
use Rattle.lzk_sha_circuit.specs.Products.{or_list}
use Rattle.lzk_sha_circuit.specs.Layers.{Grows, input_count, turned_entry}
use Rattle.lzk_sha_circuit.proofs.inner.push_pairs.Given as goal

abbrev pub invariant-loop-i : goal.invariant-loop-i
invariant-loop-i l =
    Grows ops (input_count (places_of l.given)) l.ors.first l.initial.terms.items (map (λ i. or_list ops of_number ops.one (turned_entry ops of_number (places_of l.given) l.x.0.word l.x.1 i) (turned_entry ops of_number (places_of l.given) l.y.0.word l.y.1 i)) (range_with_len 0 l.i)) l.terms.items
