use Rattle.std.proofs.Common.{◌≡◌, sym, ap, ◌∙◌, arith}
use Rattle.lzk_gf128.specs.Bodies.{squared}
use Rattle.lzk_gf128.specs.Product.{product}
use Rattle.lzk_gf128.proofs.Squares.{squared-zero, squared-more}
use Rattle.lzk_gf128.proofs.arith.meet.Goals as goal

pub loop-init : goal.loop-init
loop-init c = sym (squared-zero c.args.upper)

pub loop-preserved : goal.loop-preserved
loop-preserved c = c.square-power.ensures ∙ ap (λ w. product 128 w w) c.loop.invariant ∙ squared-more c.loop.counter c.args.upper

pub returns : goal.returns
returns c =
    let ended : c.loop.counter ≡ c.args.n = omega arith in
    c.multiply.ensures ∙ ap (λ w. product 128 w c.args.lower) (c.loop.invariant ∙ ap (λ n. squared n c.args.upper) ended)
