use Rattle.std.proofs.Common.{◌≡◌, ◌∷◌, ap, arith, subst, ℕ, List, length}
use Rattle.lzk_goldilocks.specs.Elements.{ops}
use Rattle.lzk_level.specs.Nodes.{node_count}
use Rattle.lzk_gadgets.specs.Claims.{value, values, AreNodes, AreAllZero}
use Rattle.lzk_gadgets.proofs.ClaimLaws.{adds_then}
use Rattle.lzk_gadgets.proofs.NodeLaws.{zeros-claim}
use Rattle.lzk_gadgets.proofs.circuits.+assert_zeros.Goals as goal

pub returns : goal.returns
returns t c =
    let s = c.args.s.now in
    let u = c.assert_zeros.new.s in
    let x = c.in-Some.field-0-0.now in
    let rest = c.in-Some.rest.now in
    let all = c.args.xs.now in
    let e : all ≡ x ∷ rest = c.in-Some.ensures.cases.0 in
    let long : length all ≡ length (x ∷ rest) = ap length e in
    let nodes : AreNodes (node_count s.nodes) (x ∷ rest) = subst (AreNodes (node_count s.nodes)) e c.requires in
    adds_then ops 0 0 0 (length rest) 1 (length all) s u c.assert_zero.new.self (λ p q. AreAllZero ops (values ops s p q rest)) (λ p q. value ops u p q x ≡ ops.zero) (λ p q. AreAllZero ops (values ops s p q all))
    c.in_ok-assert_zeros.ensures c.in_ok-assert_zero.ensures (omega arith) (omega (arith, long))
    (λ p q a. zeros-claim ops (value ops s p q x) (value ops u p q x) (values ops s p q rest) (values ops s p q all) (ap (λ (ks : List ℕ). values ops s p q ks) e) (c.in_ok-assert_zeros.ensures.keeps.same p q a x nodes.0.1))
