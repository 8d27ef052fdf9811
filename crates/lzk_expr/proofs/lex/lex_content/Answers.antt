use Rattle.std.proofs.Common.{◌∙◌, ◌+◌, ◌-◌, Some, get_or, take, drop, length, sym, ap, refl, arith}
use Rattle.lzk_expr.specs.Texts.{first_content}
use Rattle.lzk_expr.specs.Tokens.{Word, Sign, keeps_characters}
use Rattle.lzk_expr.proofs.FirstLine.{word_here, word_length, sign_here, sign_length, blank_here, blank_length, end_here, end_behind, stopped}
use Rattle.lzk_expr.specs.Readers.{keeps_bounds}
use Rattle.lzk_expr.proofs.Lexing.{found_none, found_more, found_blank, found_bounds, found_all}
use Rattle.lzk_expr.proofs.lex.lex_content.Goals as goal

pub loop-at-init : goal.loop-at-init
loop-at-init c = record {
  within = omega arith;
  passed = omega arith;
  found = found_none (first_content c.args.text.now) c.clear.new.self.items (Some c.unopened.result) c.clear.ensures.items (λ ts. ap (λ n. keeps_bounds n ts) c.unopened.ensures);
}

pub loop-at-preserved-then-in_word : goal.loop-at-preserved-then-in_word
loop-at-preserved-then-in_word c =
    let l = c.loop-at in
    let xs = c.args.text.now in
    let end = c.word_end-end.result in
    let word = sym c.in_word.ensures ∙ c.if-in_word.true in
    record {
      within = c.word_end-end.ensures.within;
      passed = word_length xs l.at end c.loop-at-test.true word c.word_end-end.ensures.end (length (first_content xs)) l.invariant.passed;
      found = found_more (first_content xs) (first_content (drop l.at xs)) (first_content (drop end xs)) l.symbols.items c.push.new.list.items c.word_symbol.result (Word (take (end - l.at) (drop l.at xs))) l.depth c.behind_word-depth.result l.invariant.found
          (word_here xs l.at end c.loop-at-test.true word c.word_end-end.ensures.end)
          refl c.word_symbol.ensures c.in-Ok.ensures c.behind_word-depth.ensures;
    }

pub loop-at-preserved-then-is_blank : goal.loop-at-preserved-then-is_blank
loop-at-preserved-then-is_blank c =
    let l = c.loop-at in
    let xs = c.args.text.now in
    let blank = sym c.is_blank.ensures ∙ c.if-is_blank.true in
    record {
      within = omega (arith, c.loop-at-test.true);
      passed = blank_length xs l.at c.loop-at-test.true blank (length (first_content xs)) l.invariant.passed;
      found = found_blank (first_content xs) (first_content (drop l.at xs)) (first_content (drop (l.at + 1) xs)) l.symbols.items l.depth l.invariant.found (blank_here xs l.at c.loop-at-test.true blank);
    }

pub loop-at-preserved : goal.loop-at-preserved
loop-at-preserved c =
    let l = c.loop-at in
    let xs = c.args.text.now in
    let sign = sym c.in-Some.ensures.signs in
    record {
      within = omega (arith, c.loop-at-test.true);
      passed = sign_length xs l.at c.loop-at-test.true sign (length (first_content xs)) l.invariant.passed;
      found = found_more (first_content xs) (first_content (drop l.at xs)) (first_content (drop (l.at + 1) xs)) l.symbols.items c.push-in-loop-at.new.list.items c.in-Some.symbol (Sign (get_or xs l.at 0)) l.depth c.behind_sign-depth.result l.invariant.found
          (sign_here xs l.at c.loop-at-test.true sign (sym c.in_word.ensures ∙ c.if-in_word.false) (sym c.is_blank.ensures ∙ c.if-is_blank.false))
          sign c.in-Some.ensures.tells c.in-Ok-push.ensures c.behind_sign-depth.ensures;
    }

pub returns-in_default-sign_symbol-clause-within : goal.returns-in_default-sign_symbol-clause-within
returns-in_default-sign_symbol-clause-within c = omega (arith, c.loop-at.invariant.passed)

pub returns-clause-within : goal.returns-clause-within
returns-clause-within c = omega (arith, c.loop-at.invariant.passed)

pub returns-in_default-sign_symbol-clause-scan : goal.returns-in_default-sign_symbol-clause-scan
returns-in_default-sign_symbol-clause-scan c =
    let l = c.loop-at in
    let xs = c.args.text.now in
    let i = l.at in
    let bs = first_content (drop i xs) in
    let lt = c.loop-at-test.true in
    record {
      clean_is = sym (l.invariant.found.clean ∙ stopped xs i c.ends_content.result lt (sym c.in_word.ensures ∙ c.if-in_word.false) (sym c.is_blank.ensures ∙ c.if-is_blank.false) (sym c.in_default-sign_symbol.ensures.signs) (sym c.ends_content.ensures));
      bounded_is = λ ends. c.is_some.ensures ∙ sym (found_bounds (first_content xs) bs l.symbols.items l.depth l.invariant.found (end_here xs i lt (sym c.ends_content.ensures ∙ ends)));
      told = λ ends. found_all (first_content xs) bs l.symbols.items l.depth l.invariant.found (end_here xs i lt (sym c.ends_content.ensures ∙ ends));
    }

pub returns-clause-scan : goal.returns-clause-scan
returns-clause-scan c =
    let l = c.loop-at in
    let xs = c.args.text.now in
    let bs = first_content (drop l.at xs) in
    let none = end_behind xs l.at c.loop-at-test.false in
    record {
      clean_is = sym (l.invariant.found.clean ∙ ap keeps_characters none);
      bounded_is = λ _. c.is_some-2.ensures ∙ sym (found_bounds (first_content xs) bs l.symbols.items l.depth l.invariant.found none);
      told = λ _. found_all (first_content xs) bs l.symbols.items l.depth l.invariant.found none;
    }
