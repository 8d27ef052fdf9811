use Rattle.std.proofs.Common.{◌≡◌, ◌∙◌, arith}
use Rattle.lzk_goldilocks.specs.Elements.{ops}
use Rattle.lzk_gadgets.specs.Claims.{value}
use Rattle.lzk_gadgets.specs.Inverses.{AreInverse}
use Rattle.lzk_gadgets.proofs.ClaimLaws.{inputs_kept, makes_then, adds_behind}
use Rattle.lzk_gadgets.proofs.InverseLaws.{nonzero_claim}
use Rattle.lzk_gadgets.proofs.statement.Statement.assert_nonzero.Goals as goal

pub returns : goal.returns
returns c =
    let s = c.args.self.now in
    let t = c.product.new.self in
    let u = c.constant.new.self in
    let d = c.in_ok-product.product in
    let e = c.in_ok-one.one in
    let x = c.args.x in
    let y = c.args.inverse in
    let m = c.in_ok-product.ensures.makes in
    let n = c.in_ok-one.ensures.makes in
    adds_behind ops 2 1 3 1 s u c.assert_equal.new.self e (λ p q. value ops u p q d ≡ value ops u p q e) (λ p q. AreInverse (value ops s p q x) (value ops s p q y)) (makes_then ops 1 1 2 s t u d e m n (omega arith)) c.in_ok-assert_equal.ensures (omega arith)
    (λ p q a.
    let b = inputs_kept ops 1 s t p q m.keeps a in
    nonzero_claim (value ops u p q d) (value ops u p q e) (value ops s p q x) (value ops s p q y) (n.keeps.same p q b d m.there.1 ∙ c.in_ok-product.ensures.value p q a) (c.in_ok-one.ensures.value p q b ∙ c.one.ensures))
