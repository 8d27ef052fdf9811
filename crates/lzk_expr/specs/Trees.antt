-- Expressions and statements as trees.
use Rattle.std.specs.Prelude.{ℕ, ◌+◌, Bool, true, false, List, [], ◌∷◌, map, Option, Some, None, if◌then◌else◌}
use Rattle.std.specs.Str.{bytes_eq}
use Rattle.lzk_expr.specs.Grammar as grammar
use Rattle.lzk_expr.specs.declared.ast.FieldId.{FieldId}

mutual
  pub data Expr : Type 0 where
    Number : ℕ → Expr
    PublicInput : ℕ → Expr
    PrivateInput : ℕ → Expr
    Named : ℕ → Expr
    Neg : Expr → Expr
    Added : Parts → Expr
    Multiplied : Exprs → Expr

  -- each with whether it is subtracted
  pub data Parts : Type 0 where
    NoPart : Parts
    part : Bool → Expr → Parts → Parts

  pub data Exprs : Type 0 where
    NoExpr : Exprs
    factor : Expr → Exprs → Exprs

-- one more at the end
abbrev pub add_part : Parts → Bool → Expr → Parts
add_part NoPart minus e = part minus e NoPart
add_part (part m f ps) minus e = part m f (add_part ps minus e)

abbrev pub add_factor : Exprs → Expr → Exprs
add_factor NoExpr e = factor e NoExpr
add_factor (factor f es) e = factor f (add_factor es e)

-- What a sum stands for, where number and name say what numbers and names stand for. Parentheses leave no node.
abbrev mutual
  pub sum_means : (ℕ → Expr) → (List ℕ → Expr) → grammar.Sum → Expr
  sum_means number name (grammar.Single p) = product_means number name p
  sum_means number name (grammar.Plus s p) =
      Added (add_part (sum_parts number name s) false (product_means number name p))
  sum_means number name (grammar.Less s p) =
      Added (add_part (sum_parts number name s) true (product_means number name p))

  pub sum_parts : (ℕ → Expr) → (List ℕ → Expr) → grammar.Sum → Parts
  sum_parts number name (grammar.Single p) = part false (product_means number name p) NoPart
  sum_parts number name (grammar.Plus s p) = add_part (sum_parts number name s) false (product_means number name p)
  sum_parts number name (grammar.Less s p) = add_part (sum_parts number name s) true (product_means number name p)

  pub product_means : (ℕ → Expr) → (List ℕ → Expr) → grammar.Product → Expr
  product_means number name (grammar.Lone f) = factor_means number name f
  product_means number name (grammar.Times p f) =
      Multiplied (add_factor (product_factors number name p) (factor_means number name f))

  pub product_factors : (ℕ → Expr) → (List ℕ → Expr) → grammar.Product → Exprs
  product_factors number name (grammar.Lone f) = factor (factor_means number name f) NoExpr
  product_factors number name (grammar.Times p f) =
      add_factor (product_factors number name p) (factor_means number name f)

  pub factor_means : (ℕ → Expr) → (List ℕ → Expr) → grammar.Factor → Expr
  factor_means number name (grammar.Plain a) = atom_means number name a
  factor_means number name (grammar.Minus a) = Neg (atom_means number name a)

  pub atom_means : (ℕ → Expr) → (List ℕ → Expr) → grammar.Atom → Expr
  atom_means number name (grammar.Number n) = number n
  atom_means number name (grammar.Name w) = name w
  atom_means number name (grammar.Group s) = sum_means number name s

pub data Statement : Type 0 where
  DeclarePublic : List ℕ → Statement
  DeclarePrivate : List ℕ → Statement
  Define : List ℕ → Expr → Statement
  Assertion : Expr → Expr → Statement

-- a source: its field and its statements
pub record SourceTree : Type 0 where
  pub field_is : FieldId
  pub statements : List Statement

abbrev pub is_public : Statement → Bool
is_public (DeclarePublic w) = true
is_public _ = false

abbrev pub is_private : Statement → Bool
is_private (DeclarePrivate w) = true
is_private _ = false

abbrev pub is_assertion : Statement → Bool
is_assertion (Assertion e f) = true
is_assertion _ = false

-- What the statements say that a name is. Inputs and let names are numbered in order, each kind from 0.
abbrev pub declared_from : ℕ → ℕ → ℕ → List Statement → List ℕ → Option Expr
declared_from p q l [] w = None
declared_from p q l (DeclarePublic v ∷ ss) w =
    if bytes_eq v w then Some (PublicInput p) else declared_from (p + 1) q l ss w
declared_from p q l (DeclarePrivate v ∷ ss) w =
    if bytes_eq v w then Some (PrivateInput q) else declared_from p (q + 1) l ss w
declared_from p q l (Define v e ∷ ss) w = if bytes_eq v w then Some (Named l) else declared_from p q (l + 1) ss w
declared_from p q l (Assertion e f ∷ ss) w = declared_from p q l ss w

abbrev pub name_of : List Statement → List ℕ → Option Expr
name_of ss w = declared_from 0 0 0 ss w

abbrev pub or_zero : Option Expr → Expr
or_zero None = Number 0
or_zero (Some e) = e

-- what a name stands for behind the statements, and 0 where it is unknown
abbrev pub meaning : List Statement → List ℕ → Expr
meaning ss w = or_zero (name_of ss w)

-- the statements that a line adds
abbrev pub line_means : List Statement → grammar.Line → List Statement
line_means ss (grammar.FieldLine f) = []
line_means ss (grammar.PublicLine w ws) = map DeclarePublic (w ∷ ws)
line_means ss (grammar.PrivateLine w ws) = map DeclarePrivate (w ∷ ws)
line_means ss (grammar.LetLine w s) = Define w (sum_means Number (meaning ss) s) ∷ []
line_means ss (grammar.AssertLine s t) =
    Assertion (sum_means Number (meaning ss) s) (sum_means Number (meaning ss) t) ∷ []
