use Rattle.std.proofs.Common.{◌≡◌, ◌+◌, ◌*◌, arith, length}
use Rattle.lzk_goldilocks.specs.Elements.{ops}
use Rattle.lzk_gadgets.specs.Claims.{value}
use Rattle.lzk_gadgets.specs.Inverses.{IsAmong}
use Rattle.lzk_gadgets.proofs.ClaimLaws.{adds_behind}
use Rattle.lzk_gadgets.proofs.InverseLaws.{among_claim}
use Rattle.lzk_gadgets.proofs.statement.Statement.assert_among.Goals as goal

pub returns : goal.returns
returns c =
    let s = c.args.self.now in
    let t = c.distance.new.self in
    let d = c.in_ok-distance.distance in
    let cs = c.args.choices.now in
    adds_behind ops (1 + 3 * length cs) 0 (1 + 3 * length cs) 1 s t c.assert_zero.new.self d (λ p q. value ops t p q d ≡ ops.zero) (λ p q. IsAmong (value ops s p q c.args.x) cs) c.in_ok-distance.ensures.makes c.in_ok-assert_zero.ensures (omega arith)
    (λ p q a. among_claim (value ops t p q d) (value ops s p q c.args.x) cs (c.in_ok-distance.ensures.value p q a))
