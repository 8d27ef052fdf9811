use Rattle.std.proofs.Common.{sym, ap, ◌∙◌}
use Rattle.lzk_expr.specs.View.{expr_of}
use Rattle.lzk_source.specs.Heads.{head_of}
use Rattle.lzk_source.specs.Growing.{all_exprs}
use Rattle.lzk_source.proofs.Completion.{public_made, private_made, let_made, assert_made}
use Rattle.lzk_source.proofs.completing.completed.Goals as goal

pub returns-in-Public : goal.returns-in-Public
returns-in-Public c = λ before s h e. public_made c.in-Public.name s (all_exprs c.args.ended.now.items) before (sym (ap head_of c.in-Public.is) ∙ h) e

pub returns-in-Private : goal.returns-in-Private
returns-in-Private c = λ before s h e. private_made c.in-Private.name s (all_exprs c.args.ended.now.items) before (sym (ap head_of c.in-Private.is) ∙ h) e

pub returns-in-Let : goal.returns-in-Let
returns-in-Let c = λ before s h e.
    let_made c.in-Let.name s (all_exprs c.args.ended.now.items) (all_exprs c.last.new.ended.items) before (expr_of c.last.result) (sym (ap head_of c.in-Let.is) ∙ h) e c.last.ensures

pub returns-in-Assert : goal.returns-in-Assert
returns-in-Assert c = λ before s h e.
    assert_made s (all_exprs c.args.ended.now.items) (all_exprs c.last-right.new.ended.items) (all_exprs c.last-left.new.ended.items) before (expr_of c.last-left.result) (expr_of c.last-right.result)
    (sym (ap head_of c.in-Assert.is) ∙ h) e c.last-right.ensures c.last-left.ensures
