use Rattle.std.proofs.Common.{◌≡◌, ◌∙◌, ◌-◌, ◌*◌, ◌<◌, ◌≤◌, ◌∷◌, arith, ap, sym, subst, take, drop, length}
use Rattle.std.proofs.Math.Seq.{drop-cons}
use Rattle.std.proofs.lemmas.List.{take_rest}
use Rattle.lzk_goldilocks.specs.Elements.{ops}
use Rattle.lzk_level.specs.Nodes.{node_count}
use Rattle.lzk_gadgets.specs.Claims.{value, values, AreNodes}
use Rattle.lzk_gadgets.proofs.ClaimLaws.{inputs_kept, adds_behind, adds_then}
use Rattle.lzk_gadgets.proofs.TextLaws.{values_claim}
use Rattle.lzk_gadgets.proofs.statement.Statement.+assert_values.Goals as goal

pub returns : goal.returns
returns t c =
    let s = c.args.self.now in
    let u = c.assert_values.new.self in
    let v = c.constant.new.self in
    let z = c.assert_equal.new.self in
    let x = c.in-Some.field-0-0.now in
    let rest = c.in-Some.rest.now in
    let all = c.args.xs.now in
    let ws = c.args.wanted.now in
    let w = c.index-wanted-0.result in
    let k = c.in_ok-constant.constant in
    let m = c.in_ok-constant.ensures.makes in
    let e : all ≡ x ∷ rest = c.in-Some.ensures.cases.0 in
    let long : length all ≡ length (x ∷ rest) = ap length e in
    let some : 0 < length ws = omega (arith, long, c.requires.count) in
    let others = take (length ws - 1) (drop 1 ws) in
    let split : ws ≡ w ∷ others = drop-cons ws 0 w some ∙ (λ i. sym c.index-wanted-0.is i ∷ sym (take_rest ws 1) i) in
    let nodes : AreNodes (node_count s.nodes) (x ∷ rest) = subst (AreNodes (node_count s.nodes)) e c.requires.nodes in
    let more = c.in_ok-assert_values.ensures.keeps.more in
    let there : x ≤ node_count u.nodes = omega (arith, nodes.0.1, more) in
    adds_then ops (2 * length rest) 2 (2 * length all) (length rest) 1 (length all) s u z
    (λ p q. values ops s p q rest ≡ others) (λ p q. value ops v p q x ≡ value ops v p q k) (λ p q. values ops s p q all ≡ ws) c.in_ok-assert_values.ensures
    (adds_behind ops 1 1 2 1 u v z k (λ p q. value ops v p q x ≡ value ops v p q k) (λ p q. value ops v p q x ≡ value ops v p q k) m c.in_ok-assert_equal.ensures (omega arith) (λ p q a. (λ h. h, λ h. h)))
    (omega (arith, long)) (omega (arith, long))
    (λ p q a.
    let b = inputs_kept ops (2 * length rest) s u p q c.in_ok-assert_values.ensures.keeps a in
    values_claim (value ops s p q x) (value ops v p q x) (value ops v p q k) w (values ops s p q rest) (values ops s p q all) ws others
    (ap (values ops s p q) e) split (m.keeps.same p q b x there ∙ c.in_ok-assert_values.ensures.keeps.same p q a x nodes.0.1) (c.in_ok-constant.ensures.value p q b))
