use Rattle.std.proofs.Common.{◌≡◌, ap, ◌∙◌, length, bit_xor, arith}
use Rattle.lzk_gf128.specs.Bodies.{in_wide}
use Rattle.lzk_gf128.specs.Elements.{Gf128-ext}
use Rattle.lzk_gf128.proofs.Sums.{first_products, one_more}
use Rattle.lzk_gf128.proofs.element.Gf128Field.dot.Goals as goal

pub loop-i-preserved : goal.loop-i-preserved
loop-i-preserved c =
    one_more c.args.left.now c.args.right.now c.loop-i.i _ _ c.index-left-i.result c.index-right-i.result c.loop-i-test.true c.requires c.loop-i.invariant (c.plus-total.ensures ∙ ap (bit_xor (in_wide c.loop-i.total)) c.long_product.ensures)

pub returns : goal.returns
returns c =
    let all : c.loop-i.i ≡ length c.args.left.now = omega arith in
    Gf128-ext _ _ (c.reduced.ensures ∙ c.loop-i.invariant ∙ ap (λ k. (first_products c.args.left.now c.args.right.now k).n) all)
