use Rattle.std.proofs.Common.{◌+◌, ◌++◌, ◌∷◌, [], ◌&&◌, false, List, sym, ap, ◌∙◌, refl, subst, arith, map}
use Rattle.std.specs.Prelude.{Option}
use Rattle.lzk_expr.specs.Tokens.{Key}
use Rattle.lzk_expr.specs.declared.code.Word.{Word}
use Rattle.lzk_expr.specs.declared.code.Word.TheVariants as words
use Rattle.lzk_expr.specs.declared.coder.Coder.{Coder}
use Rattle.lzk_expr.specs.declared.source_fault.SourceKind.{SourceKind}
use Rattle.lzk_expr.specs.declared.tokens.Keyword.TheVariants as keys
use Rattle.lzk_expr.specs.Coders.{TakesCode, broken_by}
use Rattle.lzk_expr.specs.SumWords.{step_in}
use Rattle.lzk_expr.proofs.Lines.{sum_in}
use Rattle.lzk_expr.proofs.CodeLines.{steps_of_sum, formed_cases, assert_coder, coded_inner, coded_no_left, coded_no_right, coded_assert}
use Rattle.lzk_expr.proofs.CodeLengths.{fewer_halves}
use Rattle.lzk_expr.proofs.coder.Coder.take_assert.Goals as goal

pub returns-in_default-clause-takes : goal.returns-in_default-clause-takes
returns-in_default-clause-takes c = λ b ts h told. coded_inner b _ ts (c.in_default.ensures ts told)

pub push_sum-requires : goal.push_sum-requires
push_sum-requires c = record { room = omega (arith, c.requires.few, fewer_halves c.args.symbols.now c.in-Some.lhs.now c.in-Some.rhs.now c.in-Some.ensures) }

pub push_sum-requires-2 : goal.push_sum-requires-2
push_sum-requires-2 c = record { room = omega (arith, c.requires.few, c.in-Ok.ensures.few, fewer_halves c.args.symbols.now c.in-Some.lhs.now c.in-Some.rhs.now c.in-Some.ensures) }

pub returns-clause-takes : goal.returns-clause-takes
returns-clause-takes c = λ b ts h told.
    let old = c.args.self.now in
    let after : Coder = record old { words = c.push_sum-2.new.words; numbers = c.push_sum-2.new.numbers; asserts = old.asserts + 1 } in
    let table = old.names.table in
    let f = c.unwrap-field.result in
    let d = c.in-Some.ensures ts told in
    let m = c.in-Ok.left in
    let n = c.in-Ok-push_sum.right in
    subst (λ (o : Option SourceKind). TakesCode b after (Key keys.Assert ∷ ts) o) (sym c.broken.ensures)
    (formed_cases (λ k. TakesCode b after (Key keys.Assert ∷ ts) (broken_by (k && n.formed) false (m.known && n.known) (m.below && n.below))) m.formed (c.in-Ok.ensures.sum d.left d.left_told)
    (λ i. formed_cases (λ k. TakesCode b after (Key keys.Assert ∷ ts) (broken_by k false (m.known && n.known) (m.below && n.below))) n.formed (c.in-Ok-push_sum.ensures.sum d.right d.right_told)
    (λ j.
    let s = sum_in table b.statements f d.left i.expr m.known m.below h.names_are i.sum in
    let t = sum_in table b.statements f d.right j.expr n.known n.below h.names_are j.sum in
    let lefts = i.ended_is ∙ ap (λ (l : List Word). l ++ words.Left ∷ []) i.added.words_are in
    let rights = j.ended_is ∙ ap (λ (l : List Word). l ++ words.Right ∷ []) j.added.words_are in
    coded_assert b after f ts d.left d.right i.expr j.expr m.known m.below n.known n.below (sym h.field_is ∙ c.unwrap-field.ensures) d.split s t
    (λ k l. assert_coder old after b i.expr j.expr (map (step_in table) d.left) (map (step_in table) d.right) c.push_sum.new.words.items i.added.words j.added.words c.push_sum.new.numbers.items i.added.numbers j.added.numbers h
    (steps_of_sum table d.left i.expr i.sum.read) (steps_of_sum table d.right j.expr j.sum.read) lefts rights i.added.numbers_are j.added.numbers_are i.added.steps_are j.added.steps_are (λ w. refl) refl refl refl refl refl))
    (λ none. coded_no_right table b after ts d.left d.right d.split none))
    (λ none. coded_no_left table b after ts d.left d.right d.split none))

pub returns-clause-used : goal.returns-clause-used
returns-clause-used c = omega (arith, c.in-Ok.ensures.few, c.in-Ok-push_sum.ensures.few, fewer_halves c.args.symbols.now c.in-Some.lhs.now c.in-Some.rhs.now c.in-Some.ensures)
