use Rattle.std.proofs.Common.{◌≡◌, ◌^◌, ◌++◌, ◌∷◌, [], ◌∙◌, ℕ, ap, arith}
use Rattle.std.specs.List.{range_with_len, flat_map}
use Rattle.lzk_goldilocks.specs.Elements.{ops, of_number}
use Rattle.lzk_sha_circuit.specs.Products.{linear, worth_list}
use Rattle.lzk_sha_circuit.specs.Layers.{bits_entry}
use Rattle.lzk_sha_circuit.proofs.Written.{chunk_more}
use Rattle.lzk_sha_circuit.proofs.sums.push_row_worth.Goals as goal

pub loop-i-preserved : goal.loop-i-preserved
loop-i-preserved c =
    let a = c.args in
    chunk_more (λ (i : ℕ). linear ops (ops.times a.scale (of_number (2 ^ i))) (bits_entry ops a.row.place a.row.count i) ∷ []) a.products.now.items c.loop-i.products.items c.push.new.self.items (c.linear.result ∷ []) 0 c.loop-i.i c.loop-i.i c.loop-i.invariant c.in_ok-push.ensures.items
    (ap (λ p. p ∷ []) (c.linear.ensures ∙ (λ j. linear ops ((c.mul.ensures ∙ ap (ops.times a.scale) c.power.ensures) j) (c.bits_entry.ensures j)))) (omega arith)

pub returns : goal.returns
unfolding worth_list
returns c =
    let a = c.args in
    let e : c.loop-i.i ≡ a.row.count = omega arith in
    c.loop-i.invariant ∙ ap (λ n. a.products.now.items ++ flat_map (λ (i : ℕ). linear ops (ops.times a.scale (of_number (2 ^ i))) (bits_entry ops a.row.place a.row.count i) ∷ []) (range_with_len 0 n)) e
