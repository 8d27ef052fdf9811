use Rattle.std.proofs.Common.{◌+◌, List, take, subst, sym, ◌∙◌}
use Rattle.lzk_expr.specs.declared.tokens.Symbol.{Symbol}
use Rattle.lzk_expr.specs.declared.tokens.Symbol.TheVariants as symbol
use Rattle.lzk_expr.specs.SymbolForms.{AreHalves}
use Rattle.lzk_expr.proofs.Told.{rest_of, halves_at, halves_behind, no_halves}
use Rattle.lzk_expr.proofs.line_forms.halves.Goals as goal

pub returns-then-is_equals : goal.returns-then-is_equals
returns-then-is_equals c = λ ts told.
    let ss = c.args.symbols.now in
    let at = c.loop-at.at in
    subst (λ (l : List Symbol). AreHalves ts (take at ss) l) (sym (rest_of ss (at + 1))) (halves_at (symbol.Number 0) ss at c.loop-at.invariant c.loop-at-test.true (sym c.is_equals.ensures ∙ c.if-is_equals.true) ts told)

pub loop-at-preserved : goal.loop-at-preserved
loop-at-preserved c = halves_behind (symbol.Number 0) c.args.symbols.now c.loop-at.at c.loop-at.invariant c.loop-at-test.true (sym c.is_equals.ensures ∙ c.if-is_equals.false)

pub returns : goal.returns
returns c = no_halves c.args.symbols.now c.loop-at.at c.loop-at.invariant c.loop-at-test.false
