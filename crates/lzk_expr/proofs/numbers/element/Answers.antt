use Rattle.std.proofs.Common.{arith, ◌≡◌, ◌≤◌, ◌^◌, lit<, ap, ◌∙◌}
use Rattle.std.proofs.Math.Nat.{pow-le-pow_right, mod-eq_of_lt}
use Rattle.lzk_expr.specs.Texts.{number_of}
use Rattle.lzk_expr.proofs.Taking.{not_word, many_words, one_word, large_word}
use Rattle.lzk_expr.proofs.numbers.element.Goals as goal

pub returns-else-have-count : goal.returns-else-have-count
returns-else-have-count g c = λ before same.
    let laws = g.F.Field.laws.numbers in
    let top : 256 ^ g.F.Field.coding.bytes ≤ 256 ^ 16 = pow-le-pow_right (lit< tt) laws.few_bytes in
    let r = c.in-Large.ensures in
    large_word g.F.Field.coding.size c.args.count c.args.line r.0 before (number_of c.args.word.now) r.1 (omega (arith, r.2, top, laws.fits)) (omega (arith, same))

pub returns-in-NotNumber : goal.returns-in-NotNumber
returns-in-NotNumber g c = λ before same. not_word g.F.Field.coding.size c.args.count c.args.line before (number_of c.args.word.now) c.in-NotNumber.ensures

pub returns-then-have-count : goal.returns-then-have-count
returns-then-have-count g c = λ before same.
    let r = c.in-Large.ensures in
    many_words g.F.Field.coding.size c.args.count c.args.line r.0 before (number_of c.args.word.now) r.1 (omega (arith, same, c.if-have-count.true))

pub returns-then-have-count-2 : goal.returns-then-have-count-2
returns-then-have-count-2 g c = λ before same.
    many_words g.F.Field.coding.size c.args.count c.args.line c.in-Number.n before (number_of c.args.word.now) c.in-Number.ensures (omega (arith, same, c.if-have-count-2.true))

pub returns-in-None : goal.returns-in-None
returns-in-None g c = λ before same.
    large_word g.F.Field.coding.size c.args.count c.args.line c.in-Number.n before (number_of c.args.word.now) c.in-Number.ensures c.in-None.ensures (omega (arith, same, c.if-have-count-2.false))

pub returns-in-Some : goal.returns-in-Some
returns-in-Some g c = λ before same.
    let value = c.in-Some.ensures in
    let coding = g.F.Field.coding in
    let number : coding.number c.in-Some.x ≡ c.in-Number.n = ap coding.number value.1 ∙ g.F.Field.laws.numbers.number_element c.in-Number.n ∙ mod-eq_of_lt value.0 in
    one_word coding.size c.args.count c.args.line c.in-Number.n (coding.number c.in-Some.x) before (number_of c.args.word.now) c.in-Number.ensures (omega (arith, same, c.if-have-count-2.false)) value.0 number
