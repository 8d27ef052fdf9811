use Rattle.std.proofs.Common.{◌∙◌, Option, is_some, refl, sym, ap, subst}
use Rattle.lzk_expr.specs.declared.code.Word.TheVariants as words
use Rattle.lzk_expr.specs.declared.names.Binding.{Binding}
use Rattle.lzk_expr.specs.declared.tokens.Symbol.{Symbol}
use Rattle.lzk_expr.specs.Tokens as token
use Rattle.lzk_expr.specs.TokenReadings.{Tells}
use Rattle.lzk_expr.specs.Meanings.{Atom}
use Rattle.lzk_expr.specs.Codes.{Item}
use Rattle.lzk_expr.specs.Table.{binding_expr}
use Rattle.lzk_expr.proofs.SumWordLaws.{plain_is}
use Rattle.lzk_expr.proofs.sum_words.word_of.Goals as goal

pub returns-in-Some : goal.returns-in-Some
returns-in-Some c = λ t told.
    plain_is c.args.field c.args.names.now.table c.args.place c.args.known c.args.below t (token.Name c.in-Name.name.now) c.bound_word.result c.plain_word.result c.plain_word.ensures
    (subst (λ (s : Symbol). Tells s t) c.in-Name.is told) (λ numbers. c.bound_word.ensures numbers ∙ ap (λ (o : Option Binding). Item (Atom (binding_expr o))) c.in-Some.ensures) (ap is_some (sym c.in-Some.ensures)) refl

pub returns-in-Plus : goal.returns-in-Plus
returns-in-Plus c = λ t told.
    plain_is c.args.field c.args.names.now.table c.args.place c.args.known c.args.below t token.Plus words.Plus c.plain_word-in-Plus.result c.plain_word-in-Plus.ensures
    (subst (λ (s : Symbol). Tells s t) c.in-Plus.is told) (λ numbers. refl) refl refl

pub returns-in-Minus : goal.returns-in-Minus
returns-in-Minus c = λ t told.
    plain_is c.args.field c.args.names.now.table c.args.place c.args.known c.args.below t token.Minus words.Minus c.plain_word-in-Minus.result c.plain_word-in-Minus.ensures
    (subst (λ (s : Symbol). Tells s t) c.in-Minus.is told) (λ numbers. refl) refl refl

pub returns-in-Times : goal.returns-in-Times
returns-in-Times c = λ t told.
    plain_is c.args.field c.args.names.now.table c.args.place c.args.known c.args.below t token.Times words.Times c.plain_word-in-Times.result c.plain_word-in-Times.ensures
    (subst (λ (s : Symbol). Tells s t) c.in-Times.is told) (λ numbers. refl) refl refl

pub returns-in-Open : goal.returns-in-Open
returns-in-Open c = λ t told.
    plain_is c.args.field c.args.names.now.table c.args.place c.args.known c.args.below t token.Open words.Open c.plain_word-in-Open.result c.plain_word-in-Open.ensures
    (subst (λ (s : Symbol). Tells s t) c.in-Open.is told) (λ numbers. refl) refl refl

pub returns-in-Close : goal.returns-in-Close
returns-in-Close c = λ t told.
    plain_is c.args.field c.args.names.now.table c.args.place c.args.known c.args.below t token.Close words.Close c.plain_word-in-Close.result c.plain_word-in-Close.ensures
    (subst (λ (s : Symbol). Tells s t) c.in-Close.is told) (λ numbers. refl) refl refl
