-- Reading an expression token by token, without its parentheses.
use Rattle.std.specs.Prelude.{◌≡◌, ℕ, Bool, true, false, List, [], ◌∷◌, Option, Some, None, if◌then◌else◌}
use Rattle.lzk_expr.specs.Tokens.{Token}
use Rattle.lzk_expr.specs.Tokens as token
use Rattle.lzk_expr.specs.Trees.{Expr, Neg, Added, Multiplied, Parts, NoPart, part, Exprs, NoExpr, factor, add_part, add_factor}

-- the parts before, the sign of the product that is read, and its factors so far; a minus before the next atom
pub record Half : Type 0 where
  pub parts : Parts
  pub minus : Bool
  pub factors : Exprs
  pub negated : Bool

abbrev pub empty : Half
empty = record { parts = NoPart; minus = false; factors = NoExpr; negated = false }

-- a product of one factor is that factor
abbrev pub multiplied : Exprs → Expr
multiplied NoExpr = Multiplied NoExpr
multiplied (factor e NoExpr) = e
multiplied (factor e (factor f es)) = Multiplied (factor e (factor f es))

-- a sum of one product is that product
abbrev pub added : Parts → Expr
added NoPart = Added NoPart
added (part m e NoPart) = e
added (part m e (part n f ps)) = Added (part m e (part n f ps))

abbrev pub negated : Bool → Expr → Expr
negated false e = e
negated true e = Neg e

-- with one more factor
abbrev pub with_atom : Half → Expr → Half
with_atom h e = record {
  parts = h.parts;
  minus = h.minus;
  factors = add_factor h.factors (negated h.negated e);
  negated = false;
}

-- with the product as one more part
abbrev pub parts_of_half : Half → Parts
parts_of_half h = add_part h.parts h.minus (multiplied h.factors)

abbrev pub next_part : Half → Bool → Half
next_part h minus = record { parts = parts_of_half h; minus = minus; factors = NoExpr; negated = false }

-- what a token adds: an atom, which stands for an expression, a sign, or what no expression has
pub data Step : Type 0 where
  Atom : Expr → Step
  Plus : Step
  Minus : Step
  Times : Step
  Open : Step
  Close : Step
  Other : Step

-- The reading of an expression: what stands before each open parenthesis, the innermost first; what is read now; and
-- whether a product is there.
pub record Reads : Type 0 where
  pub outer : List Half
  pub now : Half
  pub ready : Bool

abbrev pub nothing_read : Reads
nothing_read = record { outer = []; now = empty; ready = false }

abbrev pub opened : Reads → Reads
opened r = record { outer = r.now ∷ r.outer; now = empty; ready = false }

abbrev pub with_atom_read : Reads → Expr → Reads
with_atom_read r e = record { outer = r.outer; now = with_atom r.now e; ready = true }

abbrev pub with_part : Reads → Bool → Reads
with_part r minus = record { outer = r.outer; now = next_part r.now minus; ready = false }

abbrev pub half_closed : List Half → Expr → Option Reads
half_closed [] e = None
half_closed (h ∷ hs) e = Some (record { outer = hs; now = with_atom h e; ready = true })

abbrev pub minus_next : Reads → Bool → Option Reads
minus_next r false =
    Some (record {
      outer = r.outer;
      now = record { parts = r.now.parts; minus = r.now.minus; factors = r.now.factors; negated = true };
      ready = false;
    })
minus_next r true = None

-- where an atom is needed
abbrev pub needs : Reads → Step → Option Reads
needs r (Atom e) = Some (with_atom_read r e)
needs r Open = Some (opened r)
needs r Minus = minus_next r r.now.negated
needs r Plus = None
needs r Times = None
needs r Close = None
needs r Other = None

-- where a product is there
abbrev pub goes_on : Reads → Step → Option Reads
goes_on r Times = Some (record { outer = r.outer; now = r.now; ready = false })
goes_on r Plus = Some (with_part r false)
goes_on r Minus = Some (with_part r true)
goes_on r Close = half_closed r.outer (added (parts_of_half r.now))
goes_on r (Atom e) = None
goes_on r Open = None
goes_on r Other = None

unfoldable pub next : Reads → Step → Option Reads
next r s = if r.ready then goes_on r s else needs r s

-- the expression that was read whole
abbrev pub whole : Reads → Bool → List Half → Option Expr
whole r true [] = Some (added (parts_of_half r.now))
whole r true (h ∷ hs) = None
whole r false hs = None

abbrev pub ends : Reads → Option Expr
ends r = whole r r.ready r.outer

-- a step was taken, or there is none
abbrev pub Goes : Bool → Option Reads → Reads → Type 0
Goes true next after = next ≡ Some after
Goes false next after = next ≡ None

-- what a token adds to an expression, where number and name say what numbers and names stand for
abbrev pub token_step : (ℕ → Expr) → (List ℕ → Expr) → Token → Step
token_step number name (token.Number n) = Atom (number n)
token_step number name (token.Name w) = Atom (name w)
token_step number name (token.Key k) = Other
token_step number name token.Misspelt = Other
token_step number name token.Plus = Plus
token_step number name token.Minus = Minus
token_step number name token.Times = Times
token_step number name token.Open = Open
token_step number name token.Close = Close
token_step number name token.Equals = Other
token_step number name token.Other = Other

abbrev pub then_reads : Option Reads → (Reads → Option Reads) → Option Reads
then_reads None f = None
then_reads (Some r) f = f r

-- the reading of tokens
unfoldable pub reads_all : (ℕ → Expr) → (List ℕ → Expr) → Reads → List Token → Option Reads
reads_all number name r [] = Some r
reads_all number name r (t ∷ ts) =
    then_reads (next r (token_step number name t)) (λ more. reads_all number name more ts)

abbrev pub ends_of : Option Reads → Option Expr
ends_of None = None
ends_of (Some r) = ends r

-- the expression that tokens stand for, if they are one
abbrev pub sum_read : (ℕ → Expr) → (List ℕ → Expr) → List Token → Option Expr
sum_read number name ts = ends_of (reads_all number name nothing_read ts)
