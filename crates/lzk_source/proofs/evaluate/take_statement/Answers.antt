use Rattle.std.proofs.Common.{refl}
use Rattle.lzk_expr.specs.View.{expr_of}
use Rattle.lzk_expr.proofs.Outcomes.{on_ok}
use Rattle.lzk_source.proofs.Evaluating.{let_taken, assert_taken}
use Rattle.lzk_source.proofs.evaluate.take_statement.Goals as goal

pub returns-in-Public : goal.returns-in-Public
returns-in-Public g c = λ behind. rw c.in-Public.is refl

pub returns-in-Private : goal.returns-in-Private
returns-in-Private g c = λ behind. rw c.in-Private.is refl

pub returns-in-Let : goal.returns-in-Let
returns-in-Let g c =
    rw c.in-Let.is
    (on_ok c.push.result
    (λ e behind. let_taken g.F.Field.ops g.F.Field.coding.element c.args.public.now c.args.private.now c.args.found.now.items c.args.lets.now.items c.deref.result.now c.push.new.list.items c.value-x.result c.in-Let.field-0 (expr_of c.in-Let.expr) behind
    c.deref.ensures.value c.value-x.ensures e)
    c.push.ensures)

pub returns-in-Assert : goal.returns-in-Assert
returns-in-Assert g c =
    rw c.in-Assert.is
    (on_ok c.push-in-Assert.result
    (λ e behind. assert_taken g.F.Field.ops g.F.Field.coding.element c.args.public.now c.args.private.now c.args.found.now.items c.args.lets.now.items c.deref-in-Assert.result.now c.deref-in-Assert-2.result.now c.push-in-Assert.new.list.items c.value-x-in-Assert.result c.value-y.result c.sub.result
    (expr_of c.in-Assert.left) (expr_of c.in-Assert.right) behind
    c.deref-in-Assert.ensures.value c.deref-in-Assert-2.ensures.value c.value-x-in-Assert.ensures c.value-y.ensures c.sub.ensures e)
    c.push-in-Assert.ensures)
