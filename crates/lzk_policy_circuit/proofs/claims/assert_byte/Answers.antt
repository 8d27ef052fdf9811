use Rattle.std.proofs.Common.{◌≡◌, ◌∙◌, [], ◌∷◌, ap, arith}
use Rattle.lzk_goldilocks.specs.Elements.{ops, of_number}
use Rattle.lzk_gadgets.specs.Claims.{value}
use Rattle.lzk_gadgets.specs.Inverses.{IsAmong}
use Rattle.lzk_gadgets.proofs.ClaimLaws.{adds_behind}
use Rattle.lzk_policy_circuit.specs.Met.{byte_worth}
use Rattle.lzk_policy_circuit.proofs.Adding.{one_of_one}
use Rattle.lzk_policy_circuit.proofs.claims.assert_byte.Goals as goal

pub returns : goal.returns
returns c =
    let s = c.args.s.now in
    let t = c.byte.new.s in
    let x = c.in_ok-x.x in
    let k = c.of_word.result in
    adds_behind ops 9 4 13 1 s t c.assert_among.new.self x (λ p q. IsAmong (value ops t p q x) (k ∷ [])) (λ p q. byte_worth q c.args.at ≡ of_number c.args.constant)
    c.in_ok-x.ensures.makes c.in_ok-assert_among.ensures (omega arith)
    (λ p q a. one_of_one (value ops t p q x) (byte_worth q c.args.at) k (of_number c.args.constant) (c.in_ok-x.ensures.value p q a) (c.of_word.ensures ∙ ap of_number c.from.ensures))
