use Rattle.std.proofs.Common.{List, subst, sym, ◌∙◌, ◌∷◌}
use Rattle.lzk_expr.specs.Tokens.{Equals}
use Rattle.lzk_expr.specs.declared.tokens.Symbol.{Symbol}
use Rattle.lzk_expr.specs.declared.tokens.Symbol.TheVariants as symbol
use Rattle.lzk_expr.specs.SymbolForms.{Defines}
use Rattle.lzk_expr.proofs.Told.{rest_of, short_told, unequal_at, unnamed_at, defined_at}
use Rattle.lzk_expr.proofs.line_forms.definition.Goals as goal

pub returns-then-symbols-lt2 : goal.returns-then-symbols-lt2
returns-then-symbols-lt2 c = λ ts told. short_told c.args.symbols.now ts c.if-symbols-lt2.true told

pub returns-then-not-is_equals : goal.returns-then-not-is_equals
returns-then-not-is_equals c = λ ts told. unequal_at (symbol.Number 0) c.args.symbols.now ts c.if-symbols-lt2.false (sym c.is_equals.ensures ∙ c.if-not-is_equals.true) told

pub returns-in-Name : goal.returns-in-Name
returns-in-Name c = λ ts told. subst (λ (ss : List Symbol). Defines ts c.in-Name.name.now ss) (sym (rest_of c.args.symbols.now 2)) (defined_at (symbol.Number 0) c.args.symbols.now c.in-Name.name ts c.if-symbols-lt2.false (sym c.is_equals.ensures ∙ c.if-not-is_equals.false) c.in-Name.is told)

pub returns-in_default : goal.returns-in_default
returns-in_default c = λ ts told w us e. unnamed_at (symbol.Number 0) c.args.symbols.now ts (Equals ∷ us) w c.in_default.not-Name told e
