use Rattle.std.proofs.Common.{ap, sym, subst, arith, drop, length, ◌+◌}
use Rattle.std.proofs.lemmas.List.{at_drop_all}
use Rattle.lzk_expr.specs.Codes.{code_words, code_word, code_done, nameless}
use Rattle.lzk_expr.specs.declared.code.Word.TheVariants as word
use Rattle.lzk_level.specs.Steps.{Held, held_in}
use Rattle.lzk_level.specs.Makings.{IsOnTheWay}
use Rattle.lzk_level.proofs.FlatGateLaws.{not-on-ok}
use Rattle.lzk_level.proofs.WayLaws.{source-start}
use Rattle.lzk_level.proofs.TakeLaws.{words-from, can-take}
use Rattle.std.proofs.Common.{get_or}
use Rattle.lzk_level.proofs.maker.take_all.Goals as goal

pub loop-i-init : goal.loop-i-init
loop-i-init g c = λ source is.
    let o = g.F.Field.ops in
    let element = g.F.Field.coding.element in
    let code = c.args.code.now in
    let ws = code_words code.numbers code.words in
    subst (λ (m : Held _). IsOnTheWay o element code.publics code.privates ws (code_done (nameless source.statements)) m) (sym c.requires)
    (source-start o g.F.Field.laws.ring element code.publics code.privates source.statements ws is.words_are)

pub take-requires-after_bounds : goal.take-requires-after_bounds
take-requires-after_bounds g c κs within =
    let o = g.F.Field.ops in
    let r = g.F.Field.laws.ring in
    let element = g.F.Field.coding.element in
    let code = c.args.code.now in
    let some = c.words-words.ensures.some in
    let i = c.loop-i.i in
    let m = held_in c.loop-i.maker in
    let ns = c.numbers-numbers.result.now in
    let all = c.words-words.result.now in
    let rest = code_words code.numbers (drop (i + 1) code.words) in
    let at = words-from code.numbers ns code.words all i (word.Number 0) c.words-words.ensures.words c.numbers-numbers.ensures c.loop-i-test.true in
    can-take o r element code.publics code.privates some.source some.formed some.is.publics_are some.is.privates_are (code_word ns (get_or all i (word.Number 0))) rest m
    (subst (λ ws. IsOnTheWay o element code.publics code.privates ws (code_done (nameless some.source.statements)) m) at (c.loop-i.invariant some.source some.is))

pub loop-i-preserved : goal.loop-i-preserved
loop-i-preserved g c = λ source is.
    let code = c.args.code.now in
    let i = c.loop-i.i in
    let ns = c.numbers-numbers.result.now in
    let all = c.words-words.result.now in
    let end = code_done (nameless source.statements) in
    let at = words-from code.numbers ns code.words all i (word.Number 0) c.words-words.ensures.words c.numbers-numbers.ensures c.loop-i-test.true in
    c.in_ok-take.ensures code.publics code.privates (code_words code.numbers (drop (i + 1) code.words)) end
    (subst (λ ws. IsOnTheWay g.F.Field.ops g.F.Field.coding.element code.publics code.privates ws end (held_in c.loop-i.maker)) at (c.loop-i.invariant source is))

pub returns-clause-way : goal.returns-clause-way
returns-clause-way g c = λ source is.
    let code = c.args.code.now in
    let none = at_drop_all (code_words code.numbers) code.words c.loop-i.i (omega (arith, c.loop-i-test.false, ap length c.words-words.ensures.words)) in
    subst (λ ws. IsOnTheWay g.F.Field.ops g.F.Field.coding.element code.publics code.privates ws (code_done (nameless source.statements)) (held_in c.loop-i.maker)) none (c.loop-i.invariant source is)

pub returns-in_err-take : goal.returns-in_err-take
returns-in_err-take g c = record { some = c.words-words.ensures.some; way = λ source is. not-on-ok _ c.from_residual.result _ c.from_residual.ensures.1 }

pub returns-clause-some : goal.returns-clause-some
returns-clause-some g c = c.words-words.ensures.some
