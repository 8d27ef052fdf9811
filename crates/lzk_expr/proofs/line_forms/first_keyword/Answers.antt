use Rattle.std.proofs.Common.{List, sym, subst}
use Rattle.lzk_expr.specs.declared.tokens.Symbol.{Symbol}
use Rattle.lzk_expr.specs.declared.tokens.Symbol.TheVariants as symbol
use Rattle.lzk_expr.specs.SymbolForms.{IsKeyed}
use Rattle.lzk_expr.proofs.Told.{rest_of, keyed_at, unkeyed_at}
use Rattle.lzk_expr.proofs.line_forms.first_keyword.Goals as goal

pub returns-in-Key : goal.returns-in-Key
returns-in-Key c = λ ts told. subst (λ (ss : List Symbol). IsKeyed ts c.in-Key.keyword ss) (sym (rest_of c.args.symbols.now 1)) (keyed_at (symbol.Number 0) c.args.symbols.now c.in-Key.keyword ts c.requires c.in-Key.is told)

pub returns-in_default : goal.returns-in_default
returns-in_default c = λ ts told. unkeyed_at (symbol.Number 0) c.args.symbols.now ts c.requires c.in_default.not-Key told
