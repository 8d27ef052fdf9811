use Rattle.std.proofs.Common.{◌≡◌, ◌∙◌, ◌+◌, ◌-◌, ◌*◌, ◌<◌, refl, arith}
use Rattle.lzk_goldilocks.specs.Elements.{ops}
use Rattle.lzk_gadgets.specs.Claims.{value}
use Rattle.lzk_gadgets.proofs.ClaimLaws.{inputs_kept, makes_then, adds_behind}
use Rattle.lzk_policy_circuit.specs.Met.{byte_worth}
use Rattle.lzk_policy_circuit.proofs.Adding.{same_by, same_more}
use Rattle.lzk_policy_circuit.proofs.claims.+assert_same.Goals as goal

pub returns : goal.returns
returns t c =
    let n = c.args.size in
    let some : 0 < n = omega arith in
    let at = c.args.at + 8 * (n - 1) in
    let from = c.args.from + 8 * (n - 1) in
    let s = c.assert_same.new.s in
    let u = c.byte.new.s in
    let v = c.byte-2.new.s in
    let x = c.in_ok-x.x in
    let y = c.in_ok-y.y in
    let m = c.in_ok-x.ensures.makes in
    let k = c.in_ok-y.ensures.makes in
    same_more n c.args.s.now s c.assert_equal.new.self c.args.at c.args.from at from some refl refl c.in_ok-assert_same.ensures
    (adds_behind ops 18 1 19 1 s v c.assert_equal.new.self y (λ p q. value ops v p q x ≡ value ops v p q y) (λ p q. byte_worth q at ≡ byte_worth q from)
    (makes_then ops 9 9 18 s u v x y m k (omega arith)) c.in_ok-assert_equal.ensures (omega arith)
    (λ p q a.
    let b = inputs_kept ops 9 s u p q m.keeps a in
    same_by (value ops v p q x) (value ops v p q y) (byte_worth q at) (byte_worth q from) (k.keeps.same p q b x m.there.1 ∙ c.in_ok-x.ensures.value p q a) (c.in_ok-y.ensures.value p q b)))
