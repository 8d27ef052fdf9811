use Rattle.std.proofs.Common.{refl, sym, ap, List, [], subst, ◌++◌}
use Rattle.lzk_expr.specs.declared.code.Word.{Word}
use Rattle.lzk_expr.specs.Readers.{named}
use Rattle.lzk_expr.specs.Codes.{AreCodeOf, code_words}
use Rattle.lzk_expr.proofs.CodeLaws.{no_code}
use Rattle.lzk_expr.proofs.coder.Coder.with_words.Goals as goal

pub returns-clause-holds : goal.returns-clause-holds
returns-clause-holds c = record {
  field_is = refl;
  names_are = λ w. ap named (c.new-2.ensures w);
  publics_are = refl;
  privates_are = refl;
  lets_are = refl;
  asserts_are = refl;
  words_are = λ more. subst (λ (ws : List Word). AreCodeOf [] (code_words (c.new.result.items ++ more) ws)) (sym c.requires.none) no_code;
}
