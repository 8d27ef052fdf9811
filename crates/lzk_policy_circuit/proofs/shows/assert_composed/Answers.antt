use Rattle.std.proofs.Common.{◌+◌, ◌*◌, drop, refl, arith}
use Rattle.lzk_policy_circuit.specs.Met.{AreSameBytes, IsLabelled, IsTagged, IsComposed}
use Rattle.lzk_policy_circuit.proofs.Adding.{adds_as, adds_both, composed}
use Rattle.lzk_policy_circuit.proofs.shows.assert_composed.Goals as goal

pub returns : goal.returns
returns c =
    let s = c.args.s.now in
    let f = c.args.field.now in
    let n = f.size in
    let own = c.args.own in
    let i = c.args.i in
    let t = c.assert_label.new.s in
    let u = c.assert_same.new.s in
    let w = c.assert_tag.new.s in
    let at = own + 32 + 8 * n in
    adds_as 4000 (8 + n) s w
    (λ p q. (IsLabelled (drop own q) × AreSameBytes q (8 * f.place) q (own + 32) n) × IsTagged q at (drop i p))
    (λ p q. IsComposed q f (drop i p) (drop own q))
    (adds_both (52 + 19 * n) 168 4000 (4 + n) 4 (8 + n) s u w (λ p q. IsLabelled (drop own q) × AreSameBytes q (8 * f.place) q (own + 32) n) (λ p q. IsTagged q at (drop i p))
    (adds_both 52 (19 * n) (52 + 19 * n) 4 n (4 + n) s t u (λ p q. IsLabelled (drop own q)) (λ p q. AreSameBytes q (8 * f.place) q (own + 32) n) c.in_ok-assert_label.ensures c.in_ok-assert_same.ensures (omega arith) (omega arith))
    c.in_ok-assert_tag.ensures (omega arith) (omega arith))
    (λ p q a. composed q (drop i p) f own at refl)
