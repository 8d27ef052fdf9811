use Rattle.std.proofs.Common.{◌∙◌, ◌+◌, ◌*◌, refl, arith, length, take, drop, ap}
use Rattle.lzk_goldilocks.specs.Elements.{ops}
use Rattle.lzk_gadgets.specs.Claims.{value, values}
use Rattle.lzk_gadgets.specs.Spelled.{Spells}
use Rattle.lzk_policy_circuit.proofs.Adding.{adds_as, adds_most, spells_by}
use Rattle.lzk_policy_circuit.proofs.numbers.assert_word.Goals as goal

pub returns : goal.returns
returns c =
    let s = c.args.s.now in
    let u = c.assert_spelled.new.self in
    let x = c.args.x in
    let bits = c.deref.result.now in
    let at = c.args.at in
    let long = ap length c.deref.ensures.value ∙ c.in_ok-bits.ensures.count in
    adds_as 98 33 s u (λ p q. Spells (value ops s p q x).n (values ops s p q bits)) (λ p q. Spells (value ops s p q x).n (take 32 (drop at q)))
    (adds_most (2 + 3 * length bits) 98 (1 + length bits) 33 s u (λ p q. Spells (value ops s p q x).n (values ops s p q bits)) c.in_ok-assert_spelled.ensures (omega (arith, long)) (omega (arith, long)))
    (λ p q a. spells_by (value ops s p q x) (value ops s p q x) (values ops s p q bits) (take 32 (drop at q)) refl (ap (values ops s p q) c.deref.ensures.value ∙ c.in_ok-bits.ensures.values p q a))
