use Rattle.std.proofs.Common.{◌≡◌, ◌+◌, ◌^◌, ◌++◌, ◌∙◌, ℕ, ap, arith}
use Rattle.std.proofs.Math.Nat.{zero-add}
use Rattle.std.specs.List.{range_with_len, flat_map}
use Rattle.lzk_goldilocks.specs.Elements.{ops, of_number}
use Rattle.lzk_sha_circuit.specs.Found.{places_of}
use Rattle.lzk_sha_circuit.specs.Products.{or_list, or_word_list}
use Rattle.lzk_sha_circuit.specs.Layers.{wire_entry, moved_entry}
use Rattle.lzk_sha_circuit.proofs.Written.{chunk_more}
use Rattle.lzk_sha_circuit.proofs.sums.push_or_word.Goals as goal

pub loop-i-preserved : goal.loop-i-preserved
loop-i-preserved c =
    let a = c.args in
    chunk_more (λ (i : ℕ). or_list ops of_number (of_number (2 ^ i)) (wire_entry ops (a.ors.first + i)) (moved_entry ops of_number (places_of a.given.now) a.word.word a.by i)) a.products.now.items c.loop-i.products.items c.extend_from_slice.new.self.items c.or_of.result 0 c.loop-i.i c.loop-i.i c.loop-i.invariant c.in_ok-extend_from_slice.ensures.items
    (c.or_of.ensures ∙ (λ j. or_list ops of_number (c.power.ensures j) (c.wire_entry-x.ensures j) (c.moved_entry-y.ensures j))) (zero-add c.loop-i.i)

pub returns : goal.returns
unfolding or_word_list
returns c =
    let a = c.args in
    let e : c.loop-i.i ≡ 32 = omega arith in
    c.loop-i.invariant ∙ ap (λ n. a.products.now.items ++ flat_map (λ (i : ℕ). or_list ops of_number (of_number (2 ^ i)) (wire_entry ops (a.ors.first + i)) (moved_entry ops of_number (places_of a.given.now) a.word.word a.by i)) (range_with_len 0 n)) e
