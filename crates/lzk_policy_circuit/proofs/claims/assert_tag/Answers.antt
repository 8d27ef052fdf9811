use Rattle.std.proofs.Common.{◌≡◌, ◌+◌, drop}
use Rattle.lzk_field.specs.Sums.{entry}
use Rattle.lzk_goldilocks.specs.Elements.{ops}
use Rattle.lzk_policy_circuit.specs.Met.{number_worth, IsTagged}
use Rattle.lzk_policy_circuit.proofs.Adding.{adds_as, adds_four, tagged}
use Rattle.lzk_policy_circuit.proofs.claims.assert_tag.Goals as goal

pub returns : goal.returns
returns c =
    let s = c.args.s.now in
    let at = c.args.at in
    let i = c.args.i in
    let t = c.assert_number.new.s in
    let u = c.assert_number-2.new.s in
    let v = c.assert_number-3.new.s in
    let w = c.assert_number-4.new.s in
    adds_as 168 4 s w
    (λ p q. (((number_worth q at 4 ≡ entry ops p i) × (number_worth q (at + 32) 4 ≡ entry ops p (i + 1))) × (number_worth q (at + 64) 4 ≡ entry ops p (i + 2))) × (number_worth q (at + 96) 4 ≡ entry ops p (i + 3)))
    (λ p q. IsTagged q at (drop i p))
    (adds_four 42 1 s t u v w (λ p q. number_worth q at 4 ≡ entry ops p i) (λ p q. number_worth q (at + 32) 4 ≡ entry ops p (i + 1)) (λ p q. number_worth q (at + 64) 4 ≡ entry ops p (i + 2)) (λ p q. number_worth q (at + 96) 4 ≡ entry ops p (i + 3))
    c.in_ok-assert_number.ensures c.in_ok-assert_number-2.ensures c.in_ok-assert_number-3.ensures c.in_ok-assert_number-4.ensures)
    (λ p q a. tagged p q at i)
