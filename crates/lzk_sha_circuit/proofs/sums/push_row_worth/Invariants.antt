use Rattle.std.proofs.Common.{◌≡◌, ◌^◌, ◌++◌, ◌∷◌, []}
use Rattle.std.specs.List.{range_with_len, flat_map}
use Rattle.lzk_goldilocks.specs.Elements.{ops, of_number}
use Rattle.lzk_sha_circuit.specs.Products.{linear}
use Rattle.lzk_sha_circuit.specs.Layers.{bits_entry}
use Rattle.lzk_sha_circuit.proofs.sums.push_row_worth.Given as goal

abbrev pub invariant-loop-i : goal.invariant-loop-i
invariant-loop-i l = l.products.items ≡ l.initial.products.items ++ flat_map (λ i. linear ops (ops.times l.scale (of_number (2 ^ i))) (bits_entry ops l.row.place l.row.count i) ∷ []) (range_with_len 0 l.i)
