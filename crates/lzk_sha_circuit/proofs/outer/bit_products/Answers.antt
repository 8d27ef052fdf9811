use Rattle.std.proofs.Common.{◌≡◌, ◌+◌, ◌∷◌, [], ◌∙◌, ap}
use Rattle.lzk_goldilocks.specs.Elements.{ops}
use Rattle.lzk_sha_circuit.specs.Products.{linear, bilinear}
use Rattle.lzk_sha_circuit.specs.Layers.{wire_entry, bit_row}
use Rattle.lzk_sha_circuit.proofs.Written.{only_these}
use Rattle.lzk_sha_circuit.proofs.outer.bit_products.Goals as goal

pub returns : goal.returns
unfolding bit_row
returns c =
    let e = wire_entry ops (9 + c.args.j) in
    let x = c.wire_entry-x.ensures in
    let minus : c.neg.result ≡ ops.neg ops.one = c.neg.ensures ∙ ap ops.neg c.one-2.ensures in
    let square : c.bilinear.result ≡ bilinear ops ops.one e e = c.bilinear.ensures ∙ (λ j. bilinear ops (c.one.ensures j) (x j) (x j)) in
    let less : c.linear.result ≡ linear ops (ops.neg ops.one) e = c.linear.ensures ∙ (λ j. linear ops (minus j) (x j)) in
    only_these c.extend_from_slice.result c.clear.new.self.items c.extend_from_slice.new.self.items (c.bilinear.result ∷ c.linear.result ∷ []) (bit_row ops c.args.j) c.clear.ensures.items c.extend_from_slice.ensures.items (λ j. square j ∷ less j ∷ [])
