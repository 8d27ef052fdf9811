use Rattle.std.proofs.Common.{◌≡◌, ◌+◌, drop}
use Rattle.lzk_goldilocks.specs.Elements.{of_number}
use Rattle.lzk_policy_circuit.specs.Met.{byte_worth, IsSealLabelled}
use Rattle.lzk_policy_circuit.proofs.Adding.{adds_as, adds_four}
use Rattle.lzk_policy_circuit.proofs.SealClaims.{seal_labelled}
use Rattle.lzk_policy_circuit.proofs.seals.assert_seal_label.Goals as goal

pub returns : goal.returns
returns c =
    let s = c.args.s.now in
    let own = c.args.own in
    let t = c.assert_byte.new.s in
    let u = c.assert_byte-2.new.s in
    let v = c.assert_byte-3.new.s in
    let w = c.assert_byte-4.new.s in
    adds_as 52 4 s w
    (λ p q. (((byte_worth q own ≡ of_number 76) × (byte_worth q (own + 8) ≡ of_number 90)) × (byte_worth q (own + 16) ≡ of_number 83)) × (byte_worth q (own + 24) ≡ of_number 49))
    (λ p q. IsSealLabelled (drop own q))
    (adds_four 13 1 s t u v w (λ p q. byte_worth q own ≡ of_number 76) (λ p q. byte_worth q (own + 8) ≡ of_number 90) (λ p q. byte_worth q (own + 16) ≡ of_number 83) (λ p q. byte_worth q (own + 24) ≡ of_number 49)
    c.in_ok-assert_byte.ensures c.in_ok-assert_byte-2.ensures c.in_ok-assert_byte-3.ensures c.in_ok-assert_byte-4.ensures)
    (λ p q a. seal_labelled q own)
