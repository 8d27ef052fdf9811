-- Expressions that are made of code, as what was read of it.
use Rattle.std.specs.Prelude.{◌≡◌, List, [], ◌∷◌, ◌++◌, map, Option, Some, None}
use Rattle.lzk_expr.specs.declared.ast.Expr.{Expr as Memory}
use Rattle.lzk_source.specs.declared.growing.Grower.{Grower}
use Rattle.lzk_expr.specs.Trees.{Expr, Statement}
use Rattle.lzk_expr.specs.View.{expr_of}
use Rattle.lzk_source.specs.Halves.{reads_of}
use Rattle.lzk_expr.specs.Meanings.{nothing_read}
use Rattle.lzk_expr.specs.Codes.{Nameless, Definition, Equation, nameless, CodeReads}

abbrev pub all_exprs : List Memory → List Expr
all_exprs es = map expr_of es

-- the expressions of statements in order
abbrev pub exprs_of : List Nameless → List Expr
exprs_of [] = []
exprs_of (Definition e ∷ ss) = e ∷ exprs_of ss
exprs_of (Equation e f ∷ ss) = e ∷ f ∷ exprs_of ss

abbrev pub exprs_in : List Statement → List Expr
exprs_in ss = exprs_of (nameless ss)

abbrev pub left_of : Option Expr → List Expr
left_of None = []
left_of (Some e) = e ∷ []

-- what was read of code, in memory
pub record IsGrown (g : Grower) (r : CodeReads) : Type 0 where
  pub reads_are : reads_of g.reads ≡ r.reads
  pub ended_are : all_exprs g.ended.items ≡ exprs_of r.done ++ left_of r.left

-- this expression ended, and the next one begins
pub record Ends (e : Expr) (old new : Grower) : Type 0 where
  pub reads_are : reads_of new.reads ≡ nothing_read
  pub ended_are : all_exprs new.ended.items ≡ all_exprs old.ended.items ++ e ∷ []
