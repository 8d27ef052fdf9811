-- Expressions and statements in memory, as trees.
use Rattle.std.specs.Prelude.{Bool, List, [], ◌∷◌, map}
use Rattle.lzk_expr.specs.Trees as tree
use Rattle.lzk_expr.specs.declared.ast.FieldId.{FieldId}
use Rattle.lzk_expr.specs.declared.ast.Part.{Part}
use Rattle.lzk_expr.specs.declared.ast.Expr.{Expr}
use Rattle.lzk_expr.specs.declared.ast.Expr.TheOpen.{Expr-F, Part-F, Number, Public, Private, Named, Neg, Sum, Product}
use Rattle.lzk_expr.specs.declared.ast.Expr.TheFolds.{fold-Expr, fold-Part}
use Rattle.lzk_expr.specs.declared.ast.Statement.{Statement}
use Rattle.lzk_expr.specs.declared.ast.Statement.TheVariants as statement

abbrev pub parts_from : List (Bool × tree.Expr) → tree.Parts
parts_from [] = tree.NoPart
parts_from (p ∷ ps) = tree.part p.0 p.1 (parts_from ps)

abbrev pub factors_from : List tree.Expr → tree.Exprs
factors_from [] = tree.NoExpr
factors_from (e ∷ es) = tree.factor e (factors_from es)

abbrev pub view_step : Expr-F tree.Expr (Bool × tree.Expr) → tree.Expr
view_step (Number n) = tree.Number n
view_step (Public i) = tree.PublicInput i
view_step (Private i) = tree.PrivateInput i
view_step (Named i) = tree.Named i
view_step (Neg e) = tree.Neg e.value
view_step (Sum parts) = tree.Added (parts_from parts.items)
view_step (Product factors) = tree.Multiplied (factors_from factors.items)

abbrev pub part_step : Part-F tree.Expr (Bool × tree.Expr) → Bool × tree.Expr
part_step p = (p.minus, p.expr)

abbrev pub expr_of : Expr → tree.Expr
expr_of = fold-Expr tree.Expr (Bool × tree.Expr) view_step part_step

abbrev pub part_of : Part → Bool × tree.Expr
part_of = fold-Part tree.Expr (Bool × tree.Expr) view_step part_step

abbrev pub part_list : List Part → tree.Parts
part_list ps = parts_from (map part_of ps)

abbrev pub expr_list : List Expr → tree.Exprs
expr_list es = factors_from (map expr_of es)

abbrev pub statement_of : Statement → tree.Statement
statement_of (statement.Public name) = tree.DeclarePublic name
statement_of (statement.Private name) = tree.DeclarePrivate name
statement_of (statement.Let name e) = tree.Define name (expr_of e)
statement_of (statement.Assert e f) = tree.Assertion (expr_of e) (expr_of f)

abbrev pub statements_of : List Statement → List tree.Statement
statements_of ss = map statement_of ss

-- a source in memory
pub record Held : Type 0 where
  pub field_is : FieldId
  pub statements : List Statement

abbrev pub tree_of : Held → tree.SourceTree
tree_of h = record { field_is = h.field_is; statements = statements_of h.statements }
