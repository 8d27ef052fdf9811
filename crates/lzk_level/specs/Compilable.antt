-- What a builder needs before it can take an expression or a source.
use Rattle.std.specs.Prelude.{ℕ, ◌+◌, ◌<◌, List, [], ◌∷◌, Option, Some, None}
use Rattle.lzk_expr.specs.Trees.{Expr, Number, PublicInput, PrivateInput, Named, Neg, Added, Multiplied, Parts, NoPart, part, Exprs, NoExpr, factor, Statement, DeclarePublic, DeclarePrivate, Define, Assertion}
use Rattle.lzk_level.specs.declared.lets.Operand.{Operand}
use Rattle.lzk_level.specs.declared.lets.Operand.TheVariants.{Constant, AtNode}
use Rattle.lzk_level.specs.Nodes.{IsNode}

-- the inputs of an expression are among so many public and private ones
abbrev mutual
  pub IsWithin : ℕ → ℕ → Expr → Type 0
  IsWithin p q (Number n) = Unit {0}
  IsWithin p q (PublicInput i) = i < p
  IsWithin p q (PrivateInput i) = i < q
  IsWithin p q (Named i) = Unit {0}
  IsWithin p q (Neg e) = IsWithin p q e
  IsWithin p q (Added ps) = ArePartsWithin p q ps
  IsWithin p q (Multiplied es) = AreFactorsWithin p q es

  pub ArePartsWithin : ℕ → ℕ → Parts → Type 0
  ArePartsWithin p q NoPart = Unit {0}
  ArePartsWithin p q (part m e ps) = IsWithin p q e × ArePartsWithin p q ps

  pub AreFactorsWithin : ℕ → ℕ → Exprs → Type 0
  AreFactorsWithin p q NoExpr = Unit {0}
  AreFactorsWithin p q (factor e es) = IsWithin p q e × AreFactorsWithin p q es

abbrev pub IsStatementWithin : ℕ → ℕ → Statement → Type 0
IsStatementWithin p q (DeclarePublic w) = Unit {0}
IsStatementWithin p q (DeclarePrivate w) = Unit {0}
IsStatementWithin p q (Define w e) = IsWithin p q e
IsStatementWithin p q (Assertion e f) = IsWithin p q e × IsWithin p q f

abbrev pub AreStatementsWithin : ℕ → ℕ → List Statement → Type 0
AreStatementsWithin p q [] = Unit {0}
AreStatementsWithin p q (s ∷ ss) = IsStatementWithin p q s × AreStatementsWithin p q ss

-- an expression has no more nodes
abbrev mutual
  pub size_of : Expr → ℕ
  size_of (Number n) = 1
  size_of (PublicInput i) = 1
  size_of (PrivateInput i) = 1
  size_of (Named i) = 1
  size_of (Neg e) = 1 + size_of e
  size_of (Added ps) = 1 + parts_size ps
  size_of (Multiplied es) = 1 + factors_size es

  pub parts_size : Parts → ℕ
  parts_size NoPart = 0
  parts_size (part m e ps) = size_of e + parts_size ps

  -- one more for each, which may be multiplied by those before it
  pub factors_size : Exprs → ℕ
  factors_size NoExpr = 0
  factors_size (factor e es) = 1 + size_of e + factors_size es

abbrev pub statement_size : Statement → ℕ
statement_size (DeclarePublic w) = 0
statement_size (DeclarePrivate w) = 0
statement_size (Define w e) = size_of e
statement_size (Assertion e f) = 1 + size_of e + size_of f

abbrev pub statements_size : List Statement → ℕ
statements_size [] = 0
statements_size (s ∷ ss) = statement_size s + statements_size ss

-- a let name stands for a constant, or for one of the first n nodes
abbrev pub IsOperand : {A : Type 0} → ℕ → Operand A → Type 0
IsOperand n (Constant c) = Unit {0}
IsOperand n (AtNode k) = IsNode n k

abbrev pub AreOperands : {A : Type 0} → ℕ → List (Operand A) → Type 0
AreOperands n [] = Unit {0}
AreOperands n (x ∷ xs) = IsOperand n x × AreOperands n xs

abbrev pub IsNodeOrNone : ℕ → Option ℕ → Type 0
IsNodeOrNone n None = Unit {0}
IsNodeOrNone n (Some k) = IsNode n k

-- each is one of the first n nodes
abbrev pub AreNodes : ℕ → List ℕ → Type 0
AreNodes n [] = Unit {0}
AreNodes n (k ∷ ks) = IsNode n k × AreNodes n ks
