use Rattle.std.proofs.Common.{◌≡◌, ◌∙◌, ◌+◌, ◌<◌, ℕ, sym, ap, rules, List, ◌∷◌, drop, drop-cons, get_or, length, length-append, add-one, arith}
use Rattle.std.proofs.lemmas.List.{drop_all}
use Rattle.lzk_expr.specs.SumWords.{numbers_of}
use Rattle.lzk_expr.specs.declared.tokens.Symbol.{Symbol}
use Rattle.lzk_expr.specs.declared.tokens.Symbol.TheVariants as symbol
use Rattle.lzk_expr.proofs.SumWordLaws.{begun, no_word, no_syntax, one_more, at_end, few_numbers}
use Rattle.lzk_expr.proofs.sum_words.push_sum.Goals as goal

abbrev at_index : List Symbol → ℕ → Symbol
at_index ss i = get_or ss i (symbol.Number 0)

from_index : (ss : List Symbol) (i : ℕ) → i < length ss → drop i ss ≡ at_index ss i ∷ drop (i + 1) ss
from_index ss i h = drop-cons ss i (symbol.Number 0) h ∙ ap (λ n. at_index ss i ∷ drop n ss) (sym (add-one i))

pub loop-symbol-init : goal.loop-symbol-init
loop-symbol-init c = record {
  depth = search rules;
  few = omega arith;
  begun = λ ts told. begun c.args.field c.args.names.now.table c.args.symbols.now c.args.words.now.items c.args.numbers.now.items ts told;
}

pub overflow_cast-len : goal.overflow_cast-len
overflow_cast-len c = omega (arith, c.requires.room, c.loop-symbol.invariant.few, c.len.ensures, c.loop-symbol-test.true)

pub returns-in_default-clause-sum : goal.returns-in_default-clause-sum
returns-in_default-clause-sum c =
    let l = c.loop-symbol in
    λ ts told. rw c.unformed.ensures (no_word c.args.field c.args.names.now.table _ _ _ _ _ _ _ ts _ _ _ (from_index c.args.symbols.now l.symbol-index c.loop-symbol-test.true) (l.invariant.begun ts told)
    c.in_default.ensures)

pub returns-in_default-after-clause-sum : goal.returns-in_default-after-clause-sum
returns-in_default-after-clause-sum c =
    let l = c.loop-symbol in
    λ ts told. rw c.unformed-in_default-after.ensures (no_syntax c.args.field c.args.names.now.table _ _ _ _ _ _ _ ts _ _ _ (from_index c.args.symbols.now l.symbol-index c.loop-symbol-test.true) (l.invariant.begun ts told)
    c.in-Some.next c.len.result (omega (arith, c.len.ensures)) c.in-Some.ensures c.in_default-after.ensures.next)

pub loop-symbol-preserved : goal.loop-symbol-preserved
loop-symbol-preserved c =
    let l = c.loop-symbol in
    let next = c.in-Some.next in
    record {
      depth = omega (arith, l.invariant.depth, c.in-Some-after.ensures.depth);
      few = omega (arith, l.invariant.few, ap length c.in-Ok.ensures.numbers, length-append l.numbers.items (numbers_of next.word next.number), few_numbers next.word next.number);
      begun = λ ts told.
          one_more c.args.field c.args.names.now.table _ _ _ _ _ _ _ ts _ _ _ (from_index c.args.symbols.now l.symbol-index c.loop-symbol-test.true) (l.invariant.begun ts told)
          next c.len.result (omega (arith, c.len.ensures)) c.in-Some.ensures c.in-Some-after.behind _ _ c.in-Ok.ensures.words c.in-Ok.ensures.numbers c.in-Some-after.ensures.next;
    }

pub returns-clause-sum : goal.returns-clause-sum
returns-clause-sum c =
    let l = c.loop-symbol in
    λ ts told. at_end c.args.field c.args.names.now.table _ _ _ _ _ _ _ ts _ (drop_all l.symbol-index c.args.symbols.now c.loop-symbol-test.false) (l.invariant.begun ts told)
    c.args.end _ c.in-Ok-push.ensures _ c.is_whole.ensures
