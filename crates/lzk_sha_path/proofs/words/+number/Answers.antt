use Rattle.std.proofs.Common.{◌∙◌, ◌+◌, ◌-◌, ◌<◌, arith}
use Rattle.lzk_goldilocks.specs.Elements.{ops}
use Rattle.lzk_gadgets.specs.Claims.{value}
use Rattle.lzk_gadgets.proofs.ClaimLaws.{inputs_kept}
use Rattle.lzk_sha_path.proofs.Worth.{no_bits, bit_more}
use Rattle.lzk_sha_path.proofs.words.+number.Goals as goal

pub returns-then-count-eq0-clause-value : goal.returns-then-count-eq0-clause-value
returns-then-count-eq0-clause-value t c = λ p q a.
    no_bits (value ops c.constant.new.self p q c.in_ok-zero.zero) q c.args.at c.args.count (c.in_ok-zero.ensures.value p q a ∙ c.zero.ensures) c.if-count-eq0.true

pub returns-clause-value : goal.returns-clause-value
returns-clause-value t c = λ p q a.
    let n = c.args.count in
    let s = c.args.s.now in
    let u = c.number.new.s in
    let above = c.in_ok-above.above in
    let m = c.in_ok-above.ensures.makes in
    let b = inputs_kept ops (1 + (n - 1)) s u p q m.keeps a in
    let some : 0 < n = omega arith in
    bit_more c.one.result c.of_word.result (value ops u p q c.private-bit.result) (value ops u p q above) (value ops c.weighted.new.self p q c.in_ok-node.node) q c.args.at n
    c.one.ensures c.of_word.ensures (c.private-bit.ensures.value p q b) (c.in_ok-above.ensures.value p q a) some (c.in_ok-node.ensures.value p q b)
