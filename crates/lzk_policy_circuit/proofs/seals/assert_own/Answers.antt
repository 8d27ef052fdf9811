use Rattle.std.proofs.Common.{◌≡◌, arith}
use Rattle.lzk_field.specs.Sums.{entry}
use Rattle.lzk_goldilocks.specs.Elements.{ops}
use Rattle.lzk_gadgets.specs.Claims.{value}
use Rattle.lzk_gadgets.proofs.ClaimLaws.{inputs_kept, adds_behind}
use Rattle.lzk_policy_circuit.specs.Met.{number_worth}
use Rattle.lzk_policy_circuit.proofs.Adding.{same_by}
use Rattle.lzk_policy_circuit.proofs.seals.assert_own.Goals as goal

pub returns : goal.returns
returns c =
    let s = c.args.s.now in
    let t = c.number.new.s in
    let x = c.in_ok-x.x in
    let v = c.private-value.result in
    let m = c.in_ok-x.ensures.makes in
    adds_behind ops 41 1 42 1 s t c.assert_equal.new.self x (λ p q. value ops t p q x ≡ value ops t p q v) (λ p q. number_worth q c.args.at 4 ≡ entry ops q c.args.i)
    m c.in_ok-assert_equal.ensures (omega arith)
    (λ p q a. same_by (value ops t p q x) (value ops t p q v) (number_worth q c.args.at 4) (entry ops q c.args.i) (c.in_ok-x.ensures.value p q a) (c.private-value.ensures.value p q (inputs_kept ops 41 s t p q m.keeps a)))
