use Rattle.std.proofs.Common.{arith}
use Rattle.lzk_goldilocks.specs.Elements.{ops}
use Rattle.lzk_gadgets.specs.Claims.{value}
use Rattle.lzk_gadgets.specs.Inverses.{AreInverse, difference}
use Rattle.lzk_gadgets.proofs.ClaimLaws.{adds_behind}
use Rattle.lzk_gadgets.proofs.InverseLaws.{different_claim}
use Rattle.lzk_gadgets.proofs.statement.Statement.assert_different.Goals as goal

pub returns : goal.returns
returns c =
    let s = c.args.self.now in
    let t = c.difference.new.self in
    let d = c.in_ok-difference.difference in
    let x = c.args.x in
    let y = c.args.y in
    let z = c.args.inverse in
    let m = c.in_ok-difference.ensures.makes in
    adds_behind ops 1 3 4 1 s t c.assert_nonzero.new.self d (λ p q. AreInverse (value ops t p q d) (value ops t p q z)) (λ p q. AreInverse (difference (value ops s p q x) (value ops s p q y)) (value ops s p q z)) m c.in_ok-assert_nonzero.ensures (omega arith)
    (λ p q a. different_claim (value ops t p q d) (value ops t p q z) (value ops s p q x) (value ops s p q y) (value ops s p q z) (c.in_ok-difference.ensures.value p q a) (m.keeps.same p q a z c.requires.nodes.2.1))
