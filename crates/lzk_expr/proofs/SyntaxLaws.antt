-- What the reading of an expression keeps of parentheses and signs goes on as the reading does.
use Rattle.std.proofs.Common.{◌≡◌, ◌-◌, ◌==◌, ◌&&◌, Bool, true, false, List, [], ◌∷◌, length, Option, Some, None, is_some, refl, sym, ◌∙◌, ap, arith, if◌then◌else◌}
use Rattle.std.specs.Option.{option_map}
use Rattle.std.proofs.Math.Numerals.{add-one}
use Rattle.lzk_expr.specs.declared.syntax.Syntax.{Syntax}
use Rattle.lzk_expr.specs.Trees.{Expr}
use Rattle.lzk_expr.specs.Meanings.{Half, Reads, Step, next, needs, goes_on, minus_next, half_closed, whole, ends}
use Rattle.lzk_expr.specs.Meanings as meaning
use Rattle.lzk_expr.specs.Syntaxes.{syntax_of, expects, has_product, minus_allowed, needs_step, goes_on_step, next_syntax, is_whole}

minus_same : (r : Reads) (negated : Bool) → option_map syntax_of (minus_next r negated) ≡ minus_allowed (length r.outer) negated
minus_same r false = refl
minus_same r true = refl

needs_same : (r : Reads) (s : Step) → option_map syntax_of (needs r s) ≡ needs_step (syntax_of r) s
needs_same r (meaning.Atom e) = refl
needs_same r meaning.Open = ap (λ n. expects n false) (sym (add-one (length r.outer)))
needs_same r meaning.Minus = minus_same r r.now.negated
needs_same r meaning.Plus = refl
needs_same r meaning.Times = refl
needs_same r meaning.Close = refl
needs_same r meaning.Other = refl

close_same : (outer : List Half) (e : Expr) → option_map syntax_of (half_closed outer e) ≡ (if length outer == 0 then None else has_product (length outer - 1))
close_same [] e = refl
close_same (h ∷ hs) e = grind (arith, has_product)

goes_on_same : (r : Reads) (s : Step) → option_map syntax_of (goes_on r s) ≡ goes_on_step (syntax_of r) s
goes_on_same r meaning.Times = refl
goes_on_same r meaning.Plus = refl
goes_on_same r meaning.Minus = refl
goes_on_same r meaning.Close = close_same r.outer _
goes_on_same r (meaning.Atom e) = refl
goes_on_same r meaning.Open = refl
goes_on_same r meaning.Other = refl

either_same : (r : Reads) (s : Step) (ready : Bool) → option_map syntax_of (if ready then goes_on r s else needs r s) ≡ (if ready then goes_on_step (syntax_of r) s else needs_step (syntax_of r) s)
either_same r s true = goes_on_same r s
either_same r s false = needs_same r s

-- a step of the reading is one of the syntax
pub next_same : (r : Reads) (s : Step) → option_map syntax_of (next r s) ≡ next_syntax (syntax_of r) s
unfolding next
next_same r s = either_same r s r.ready

none_from : (o : Option Reads) → option_map syntax_of o ≡ None → o ≡ None
none_from None h = refl
none_from (Some r) h = absurd cc

some_from : (o : Option Reads) (s : Syntax) → option_map syntax_of o ≡ Some s → (r : Reads) × (o ≡ Some r) × (syntax_of r ≡ s)
some_from None s h = absurd cc
some_from (Some r) s h = (r, refl, cc)

-- there is no step where the syntax has none
pub no_step : (r : Reads) (s : Step) → next_syntax (syntax_of r) s ≡ None → next r s ≡ None
no_step r s h = none_from (next r s) (next_same r s ∙ h)

-- there is one where the syntax has one, with that syntax behind it
pub some_step : (r : Reads) (s : Step) (behind : Syntax) → next_syntax (syntax_of r) s ≡ Some behind → (more : Reads) × (next r s ≡ Some more) × (syntax_of more ≡ behind)
some_step r s behind h = some_from (next r s) behind (next_same r s ∙ h)

whole_same : (r : Reads) (ready : Bool) (outer : List Half) → is_some (whole r ready outer) ≡ (ready && (length outer == 0))
whole_same r true [] = refl
whole_same r true (h ∷ hs) = grind arith
whole_same r false outer = refl

-- an expression is whole where its syntax is
pub whole_is : (r : Reads) → is_some (ends r) ≡ is_whole (syntax_of r)
whole_is r = whole_same r r.ready r.outer

is_none : (o : Option Expr) → is_some o ≡ false → o ≡ None
is_none None h = refl
is_none (Some e) h = absurd cc

is_there : (o : Option Expr) → is_some o ≡ true → (e : Expr) × (o ≡ Some e)
is_there None h = absurd cc
is_there (Some e) h = (e, refl)

pub not_whole : (r : Reads) → is_whole (syntax_of r) ≡ false → ends r ≡ None
not_whole r h = is_none (ends r) (whole_is r ∙ h)

pub is_ended : (r : Reads) → is_whole (syntax_of r) ≡ true → (e : Expr) × (ends r ≡ Some e)
is_ended r h = is_there (ends r) (whole_is r ∙ h)
