use Rattle.std.proofs.Common.{◌≡◌, ◌+◌, ◌++◌, ◌∷◌, [], ◌∙◌, ap}
use Rattle.lzk_goldilocks.specs.Elements.{ops, of_number}
use Rattle.lzk_sha_circuit.specs.Found.{places_of}
use Rattle.lzk_sha_circuit.specs.Places.{f_place}
use Rattle.lzk_sha_circuit.specs.Products.{linear, worth_list}
use Rattle.lzk_sha_circuit.specs.Layers.{wire_entry, bits_entry, digest_row}
use Rattle.lzk_sha_circuit.proofs.Written.{from_none, these_more}
use Rattle.lzk_sha_circuit.proofs.outer.digest_products.Goals as goal

pub returns : goal.returns
unfolding digest_row
returns c =
    let given = places_of c.args.given.now in
    let i = c.args.of.i in
    let minus : c.neg.result ≡ ops.neg ops.one = c.neg.ensures ∙ ap ops.neg c.one-2.ensures in
    let less : c.linear.result ≡ linear ops (ops.neg ops.one) (wire_entry ops (1 + i)) = c.linear.ensures ∙ (λ j. linear ops (minus j) (c.wire_entry.ensures j)) in
    let x = worth_list ops of_number ops.one 32 (bits_entry ops (f_place given i) 32) in
    let p0 = c.clear.new.self.items in
    let p1 = c.push_row_worth.new.products.items in
    these_more c.extend_from_slice.result p1 c.extend_from_slice.new.self.items x (c.linear.result ∷ []) (linear ops (ops.neg ops.one) (wire_entry ops (1 + i)) ∷ [])
    (from_none p0 p1 x c.clear.ensures.items (c.in_ok-push_row_worth.ensures ∙ ap (λ v. p0 ++ worth_list ops of_number v 32 (bits_entry ops (f_place given i) 32)) c.one.ensures))
    c.extend_from_slice.ensures.items (λ j. less j ∷ [])
