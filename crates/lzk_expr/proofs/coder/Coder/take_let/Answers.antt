use Rattle.std.proofs.Common.{◌≡◌, ◌+◌, ◌++◌, ◌∷◌, [], List, is_some, sym, ap, ◌∙◌, refl, subst, arith, map, Option}
use Rattle.lzk_expr.specs.Tokens.{Key}
use Rattle.lzk_expr.specs.Trees.{name_of}
use Rattle.lzk_expr.specs.declared.code.Word.{Word}
use Rattle.lzk_expr.specs.declared.code.Word.TheVariants as words
use Rattle.lzk_expr.specs.declared.coder.Coder.{Coder}
use Rattle.lzk_expr.specs.declared.source_fault.SourceKind.{SourceKind}
use Rattle.lzk_expr.specs.declared.tokens.Keyword.TheVariants as keys
use Rattle.lzk_expr.specs.Coders.{TakesCode, broken_by}
use Rattle.lzk_expr.specs.SumWords.{step_in}
use Rattle.lzk_expr.proofs.Lines.{sum_in}
use Rattle.lzk_expr.proofs.Taken.{none_of}
use Rattle.lzk_expr.proofs.CodeTaken.{known_name}
use Rattle.lzk_expr.proofs.CodeLines.{steps_of_sum, formed_cases, let_coder, coded_no_definition, coded_no_sum, coded_let}
use Rattle.lzk_expr.proofs.CodeLengths.{fewer_defined}
use Rattle.lzk_expr.proofs.coder.Coder.take_let.Goals as goal

pub returns-in_default-clause-takes : goal.returns-in_default-clause-takes
returns-in_default-clause-takes c = λ b ts h told. coded_no_definition b _ ts (c.in_default.ensures ts told)

pub push_sum-requires : goal.push_sum-requires
push_sum-requires c = record { room = omega (arith, c.requires.few, fewer_defined c.args.symbols.now c.in-Some.sum.now c.in-Some.name.now c.in-Some.ensures) }

pub overflow_add-self : goal.overflow_add-self
overflow_add-self c = omega (arith, c.requires.few, fewer_defined c.args.symbols.now c.in-Some.sum.now c.in-Some.name.now c.in-Some.ensures)

pub returns-clause-takes : goal.returns-clause-takes
returns-clause-takes c = λ b ts h told.
    let old = c.args.self.now in
    let after : Coder = record old { words = c.push_sum.new.words; numbers = c.push_sum.new.numbers; names = c.declare.new.self; lets = old.lets + 1 } in
    let table = old.names.table in
    let d = c.in-Some.ensures ts told in
    let m = c.in-Ok.marks in
    let t = c.in-Ok-declare.twice in
    let w = c.in-Some.name.now in
    let f = c.unwrap-field.result in
    let twice : is_some (name_of b.statements w) ≡ t = sym (known_name old b h w) ∙ sym c.in-Ok-declare.ensures.known in
    subst (λ (o : Option SourceKind). TakesCode b after (Key keys.Let ∷ ts) o) (sym c.broken.ensures)
    (formed_cases (λ k. TakesCode b after (Key keys.Let ∷ ts) (broken_by k t m.known m.below)) m.formed (c.in-Ok.ensures.sum d.behind d.told)
    (λ i.
    let s = sum_in table b.statements f d.behind i.expr m.known m.below h.names_are i.sum in
    let same = i.ended_is ∙ ap (λ (l : List Word). l ++ words.Define ∷ []) i.added.words_are in
    coded_let b after f ts d.behind w i.expr m.known m.below (sym h.field_is ∙ c.unwrap-field.ensures) d.defines s t twice
    (λ none k l. let_coder old after b w i.expr (map (step_in table) d.behind) i.added.words i.added.numbers h (none_of (name_of b.statements w) (twice ∙ none)) (steps_of_sum table d.behind i.expr i.sum.read) same i.added.numbers_are i.added.steps_are
    c.in-Ok-declare.ensures.declares refl refl refl refl refl))
    (λ none. coded_no_sum table b after ts d.behind w d.defines none))

pub returns-clause-used : goal.returns-clause-used
returns-clause-used c = omega (arith, c.in-Ok.ensures.few, fewer_defined c.args.symbols.now c.in-Some.sum.now c.in-Some.name.now c.in-Some.ensures)
