use Rattle.std.proofs.Common.{◌∙◌, ◌+◌, ◌-◌, ◌*◌, ◌<◌, refl, arith}
use Rattle.lzk_goldilocks.specs.Elements.{ops}
use Rattle.lzk_gadgets.specs.Claims.{value}
use Rattle.lzk_gadgets.proofs.ClaimLaws.{inputs_kept}
use Rattle.lzk_policy_circuit.proofs.Adding.{no_bytes, more_bytes}
use Rattle.lzk_policy_circuit.proofs.numbers.+number.Goals as goal

pub returns-then-size-eq0-clause-value : goal.returns-then-size-eq0-clause-value
returns-then-size-eq0-clause-value t c = λ p q a.
    no_bytes (value ops c.constant.new.self p q c.in_ok-zero.zero) q c.args.at c.args.size (c.in_ok-zero.ensures.value p q a ∙ c.zero.ensures) c.if-size-eq0.true

pub returns-clause-value : goal.returns-clause-value
returns-clause-value t c = λ p q a.
    let n = c.args.size in
    let s = c.args.s.now in
    let u = c.number.new.s in
    let v = c.byte.new.s in
    let above = c.in_ok-above.above in
    let last = c.in_ok-last.last in
    let m = c.in_ok-above.ensures.makes in
    let k = c.in_ok-last.ensures.makes in
    let b = inputs_kept ops (1 + 10 * (n - 1)) s u p q m.keeps a in
    let d = inputs_kept ops 9 u v p q k.keeps b in
    let some : 0 < n = omega arith in
    more_bytes c.one.result c.of_word.result (value ops v p q last) (value ops v p q above) (value ops c.weighted.new.self p q c.in_ok-node.node) q c.args.at n (c.args.at + 8 * (n - 1))
    c.one.ensures c.of_word.ensures (c.in_ok-last.ensures.value p q b) (k.keeps.same p q b above m.there.1 ∙ c.in_ok-above.ensures.value p q a) refl some (c.in_ok-node.ensures.value p q d)
