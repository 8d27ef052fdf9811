-- The syntax of an expression step by step: what the reading of it keeps of parentheses and signs.
use Rattle.std.specs.Prelude.{ℕ, ◌+◌, ◌-◌, ◌==◌, ◌&&◌, Bool, true, false, length, Option, Some, None, if◌then◌else◌}
use Rattle.lzk_expr.specs.declared.syntax.Syntax.{Syntax}
use Rattle.lzk_expr.specs.Meanings.{Reads, Step}
use Rattle.lzk_expr.specs.Meanings as meaning

-- how many parentheses are open, whether a product is there, and whether a minus stands before the next atom
abbrev pub syntax_of : Reads → Syntax
syntax_of r = record { depth = length r.outer; ready = r.ready; negated = r.now.negated }

abbrev pub expects : ℕ → Bool → Option Syntax
expects depth negated = Some (record { depth = depth; ready = false; negated = negated })

abbrev pub has_product : ℕ → Option Syntax
has_product depth = Some (record { depth = depth; ready = true; negated = false })

abbrev pub minus_allowed : ℕ → Bool → Option Syntax
minus_allowed depth false = expects depth true
minus_allowed depth true = None

-- where an atom is needed
abbrev pub needs_step : Syntax → Step → Option Syntax
needs_step s (meaning.Atom e) = has_product s.depth
needs_step s meaning.Open = expects (s.depth + 1) false
needs_step s meaning.Minus = minus_allowed s.depth s.negated
needs_step s meaning.Plus = None
needs_step s meaning.Times = None
needs_step s meaning.Close = None
needs_step s meaning.Other = None

-- where a product is there
abbrev pub goes_on_step : Syntax → Step → Option Syntax
goes_on_step s meaning.Times = expects s.depth s.negated
goes_on_step s meaning.Plus = expects s.depth false
goes_on_step s meaning.Minus = expects s.depth false
goes_on_step s meaning.Close = if s.depth == 0 then None else has_product (s.depth - 1)
goes_on_step s (meaning.Atom e) = None
goes_on_step s meaning.Open = None
goes_on_step s meaning.Other = None

abbrev pub next_syntax : Syntax → Step → Option Syntax
next_syntax s t = if s.ready then goes_on_step s t else needs_step s t

-- the expression may end here
abbrev pub is_whole : Syntax → Bool
is_whole s = s.ready && (s.depth == 0)
