use Rattle.std.proofs.Common.{◌≡◌, ◌+◌, ◌^◌, ◌++◌, ◌∙◌, ℕ, ap, arith}
use Rattle.std.proofs.Math.Nat.{zero-add}
use Rattle.std.specs.List.{range_with_len, flat_map}
use Rattle.lzk_goldilocks.specs.Elements.{ops, of_number}
use Rattle.lzk_sha_circuit.specs.Found.{places_of}
use Rattle.lzk_sha_circuit.specs.Products.{most_list, maj_word_list}
use Rattle.lzk_sha_circuit.specs.Layers.{word_entry, wire_entry}
use Rattle.lzk_sha_circuit.proofs.Written.{chunk_more}
use Rattle.lzk_sha_circuit.proofs.sums.push_maj.Goals as goal

pub loop-i-preserved : goal.loop-i-preserved
loop-i-preserved c =
    let a = c.args in
    chunk_more (λ (i : ℕ). most_list ops (of_number (2 ^ i)) (word_entry ops of_number (places_of a.given.now) a.x.word i) (word_entry ops of_number (places_of a.given.now) a.y.word i) (word_entry ops of_number (places_of a.given.now) a.z.word i) (wire_entry ops (a.ors.first + i))) a.products.now.items c.loop-i.products.items c.extend_from_slice.new.self.items c.most_of.result 0 c.loop-i.i c.loop-i.i c.loop-i.invariant c.in_ok-extend_from_slice.ensures.items
    (c.most_of.ensures ∙ (λ j. most_list ops (c.power.ensures j) (c.entry-x.ensures j) (c.entry-y.ensures j) (c.entry-z.ensures j) (c.wire_entry-u.ensures j))) (zero-add c.loop-i.i)

pub returns : goal.returns
unfolding maj_word_list
returns c =
    let a = c.args in
    let e : c.loop-i.i ≡ 32 = omega arith in
    c.loop-i.invariant ∙ ap (λ n. a.products.now.items ++ flat_map (λ (i : ℕ). most_list ops (of_number (2 ^ i)) (word_entry ops of_number (places_of a.given.now) a.x.word i) (word_entry ops of_number (places_of a.given.now) a.y.word i) (word_entry ops of_number (places_of a.given.now) a.z.word i) (wire_entry ops (a.ors.first + i))) (range_with_len 0 n)) e
