use Rattle.std.proofs.Common.{◌≡◌, [], ◌∷◌, ◌++◌, sym, ap, subst}
use Rattle.lzk_expr.specs.Trees.{Statement}
use Rattle.lzk_expr.specs.Trees as tree
use Rattle.lzk_expr.specs.View.{expr_of, statement_of}
use Rattle.lzk_source.specs.TreeSteps.{HoldsCode, HasShapes}
use Rattle.lzk_expr.proofs.CodeLaws.{code_public, code_private}
use Rattle.lzk_source.proofs.AddedLaws.{let_held, assert_held}
use Rattle.lzk_source.proofs.tree_code.push_statement.Goals as goal

pub returns-in-Public : goal.returns-in-Public
returns-in-Public c = λ ss shapes held kept behind. rw c.in-Public.is (code_public ss _ _ (held kept behind))

pub returns-in-Private : goal.returns-in-Private
returns-in-Private c = λ ss shapes held kept behind. rw c.in-Private.is (code_private ss _ _ (held kept behind))

pub returns-in-Let : goal.returns-in-Let
returns-in-Let c = λ ss shapes held.
    let e : statement_of c.args.statement.now ≡ tree.Define c.in-Let.field-0 (expr_of c.in-Let.expr) = ap statement_of c.in-Let.is in
    let z = c.put.new.self in
    subst (λ (s : Statement). HoldsCode z (ss ++ s ∷ [])) (sym e)
    (let_held c.args.code.now c.push_expr.new.code z ss c.in-Let.field-0 (expr_of c.in-Let.expr) (subst HasShapes e shapes) held c.push_expr.ensures c.put.ensures)

pub returns-in-Assert : goal.returns-in-Assert
returns-in-Assert c = λ ss shapes held.
    let e : statement_of c.args.statement.now ≡ tree.Assertion (expr_of c.in-Assert.left) (expr_of c.in-Assert.right) = ap statement_of c.in-Assert.is in
    let both = subst HasShapes e shapes in
    let z = c.put-in-Assert-2.new.self in
    subst (λ (s : Statement). HoldsCode z (ss ++ s ∷ [])) (sym e)
    (assert_held c.args.code.now c.push_expr-in-Assert.new.code c.put-in-Assert.new.self c.push_expr-in-Assert-2.new.code z ss (expr_of c.in-Assert.left) (expr_of c.in-Assert.right) both.0 both.1 held
    c.push_expr-in-Assert.ensures c.put-in-Assert.ensures c.push_expr-in-Assert-2.ensures c.put-in-Assert-2.ensures)
