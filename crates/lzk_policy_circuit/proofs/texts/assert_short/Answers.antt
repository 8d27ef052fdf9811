use Rattle.std.proofs.Common.{◌≡◌, ◌∙◌, ◌+◌, ◌*◌, ap, arith, length, map}
use Rattle.std.proofs.lemmas.List.{length-map}
use Rattle.lzk_goldilocks.specs.Elements.{ops}
use Rattle.lzk_gadgets.specs.Claims.{value}
use Rattle.lzk_gadgets.specs.Inverses.{IsAmong}
use Rattle.lzk_gadgets.proofs.ClaimLaws.{adds_behind}
use Rattle.lzk_policy_circuit.specs.Met.{number_worth, text_element}
use Rattle.lzk_policy_circuit.proofs.Adding.{among_by}
use Rattle.lzk_policy_circuit.proofs.texts.assert_short.Goals as goal

pub returns : goal.returns
returns c =
    let s = c.args.s.now in
    let t = c.number.new.s in
    let x = c.in_ok-x.x in
    let n = c.args.size in
    let cs = c.deref.result.now in
    let texts = c.args.texts.now in
    let es = map text_element texts in
    let is : cs ≡ es = c.deref.ensures.value ∙ c.in_ok-choices.ensures in
    adds_behind ops (1 + 10 * n) (1 + 3 * length cs) (2 + 10 * n + 3 * length texts) 1 s t c.assert_among.new.self x (λ p q. IsAmong (value ops t p q x) cs) (λ p q. IsAmong (number_worth q c.args.at n) es)
    c.in_ok-x.ensures.makes c.in_ok-assert_among.ensures (omega (arith, ap length is, length-map texts text_element))
    (λ p q a. among_by (value ops t p q x) (number_worth q c.args.at n) cs es (c.in_ok-x.ensures.value p q a) is)
