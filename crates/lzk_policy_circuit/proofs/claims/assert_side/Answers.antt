use Rattle.std.proofs.Common.{◌∙◌, ◌+◌, ◌*◌, arith, take, drop}
use Rattle.lzk_field.specs.Sums.{entry}
use Rattle.lzk_goldilocks.specs.Elements.{ops}
use Rattle.lzk_gadgets.specs.Claims.{value}
use Rattle.lzk_gadgets.specs.Spelled.{Spells}
use Rattle.lzk_gadgets.proofs.ClaimLaws.{inputs_kept, makes_then, adds_behind, adds_then}
use Rattle.lzk_policy_circuit.specs.Met.{gap_of, number_worth, IsOrdered}
use Rattle.lzk_policy_circuit.proofs.Adding.{ordered_by}
use Rattle.lzk_policy_circuit.proofs.claims.assert_side.Goals as goal

pub returns : goal.returns
returns c =
    let s = c.args.s.now in
    let t = c.number.new.s in
    let u = c.gap.new.s in
    let w = c.assert_word.new.s in
    let z = c.assert_word-2.new.s in
    let x = c.in_ok-x.x in
    let d = c.in_ok-above.above in
    let v = c.public-value-2.result in
    let n = c.args.size in
    let own = c.args.own in
    let m1 = c.in_ok-x.ensures.makes in
    let m2 = c.in_ok-above.ensures.makes in
    let makes = makes_then ops (1 + 10 * n) 1 (2 + 10 * n) s t u x d m1 m2 (omega arith) in
    let k = c.in_ok-assert_word.ensures.keeps in
    adds_behind ops (2 + 10 * n) 196 (198 + 10 * n) 66 s u z d
    (λ p q. Spells (value ops u p q d).n (take 32 (drop own q)) × Spells (value ops w p q v).n (take 32 (drop (own + 32) q)))
    (λ p q. IsOrdered (gap_of c.args.side (number_worth q c.args.at n) (entry ops p c.args.i)) (entry ops p c.args.i) (drop own q))
    makes
    (adds_then ops 98 98 196 33 33 66 u w z (λ p q. Spells (value ops u p q d).n (take 32 (drop own q))) (λ p q. Spells (value ops w p q v).n (take 32 (drop (own + 32) q)))
    (λ p q. Spells (value ops u p q d).n (take 32 (drop own q)) × Spells (value ops w p q v).n (take 32 (drop (own + 32) q)))
    c.in_ok-assert_word.ensures c.in_ok-assert_word-2.ensures (omega arith) (omega arith) (λ p q a. (λ h. h, λ h. h)))
    (omega arith)
    (λ p q a.
    let b = inputs_kept ops (1 + 10 * n) s t p q m1.keeps a in
    let e = inputs_kept ops (2 + 10 * n) s u p q makes.keeps a in
    let f = inputs_kept ops 98 u w p q k e in
    ordered_by (value ops u p q d) (value ops w p q v) (gap_of c.args.side (number_worth q c.args.at n) (entry ops p c.args.i)) (entry ops p c.args.i) q own
    (c.in_ok-above.ensures.value p q b ∙ (λ j. gap_of c.args.side (c.in_ok-x.ensures.value p q a j) (c.public-value.ensures.value p q b j))) (c.public-value-2.ensures.value p q f))
