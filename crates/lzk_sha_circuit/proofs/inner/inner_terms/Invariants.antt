use Rattle.std.proofs.Common.{◌+◌, ◌-◌}
use Rattle.std.specs.List.{range_with_len, flat_map}
use Rattle.lzk_goldilocks.specs.Elements.{ops, of_number}
use Rattle.lzk_sha_circuit.specs.Found.{places_of}
use Rattle.lzk_sha_circuit.specs.Layers.{Grows, input_count, schedule_pairs, round_pairs}
use Rattle.lzk_sha_circuit.proofs.inner.inner_terms.Given as goal

abbrev pub invariant-loop-t : goal.invariant-loop-t
invariant-loop-t l = Grows ops (input_count (places_of l.given)) (input_count (places_of l.given)) l.initial.terms.items (flat_map (schedule_pairs ops of_number (places_of l.given)) (range_with_len 16 (l.t - 16))) l.terms.items

abbrev pub invariant-loop-round : goal.invariant-loop-round
invariant-loop-round l = Grows ops (input_count (places_of l.given)) (input_count (places_of l.given) + 3072) l.initial.terms.items (flat_map (round_pairs ops of_number (places_of l.given)) (range_with_len 0 l.round)) l.terms.items
