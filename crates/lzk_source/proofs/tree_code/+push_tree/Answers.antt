use Rattle.std.proofs.Common.{refl}
use Rattle.lzk_expr.specs.declared.code.Word.TheVariants as words
use Rattle.lzk_expr.specs.Trees as tree
use Rattle.lzk_expr.specs.Meanings.{Atom}
use Rattle.lzk_source.specs.TreeSteps.{sum_steps, product_steps}
use Rattle.lzk_expr.specs.View.{part_list, expr_list}
use Rattle.lzk_source.proofs.Trees.{number_is, public_is, private_is, named_is}
use Rattle.lzk_source.proofs.AddedLaws.{step_put, expr_added, neg_added, sum_added, product_added, up_to_none, more_parts, more_factors, all_parts, all_factors}
use Rattle.lzk_source.proofs.tree_code.+push_tree.Goals as goal

pub push_expr-returns-in-Number : goal.push_expr-returns-in-Number
push_expr-returns-in-Number t c = expr_added c.args.at c.args.expr.now _ _ c.args.code.now c.put_number.new.self c.in-Number.is (number_is c.in-Number.n) c.put_number.ensures

pub push_expr-returns-in-Public : goal.push_expr-returns-in-Public
push_expr-returns-in-Public t c =
    let a = c.args.code.now in
    let b = c.put.new.self in
    let i = c.in-Public.i in
    expr_added c.args.at c.args.expr.now _ _ a b c.in-Public.is (public_is i) (step_put (Atom (tree.PublicInput i)) (words.Public i) a b (λ numbers. refl) c.put.ensures)

pub push_expr-returns-in-Private : goal.push_expr-returns-in-Private
push_expr-returns-in-Private t c =
    let a = c.args.code.now in
    let b = c.put-in-Private.new.self in
    let i = c.in-Private.i in
    expr_added c.args.at c.args.expr.now _ _ a b c.in-Private.is (private_is i) (step_put (Atom (tree.PrivateInput i)) (words.Private i) a b (λ numbers. refl) c.put-in-Private.ensures)

pub push_expr-returns-in-Named : goal.push_expr-returns-in-Named
push_expr-returns-in-Named t c =
    let a = c.args.code.now in
    let b = c.put-in-Named.new.self in
    let i = c.in-Named.i in
    expr_added c.args.at c.args.expr.now _ _ a b c.in-Named.is (named_is i) (step_put (Atom (tree.Named i)) (words.Named i) a b (λ numbers. refl) c.put-in-Named.ensures)

pub push_expr-returns-in-Neg : goal.push_expr-returns-in-Neg
push_expr-returns-in-Neg t c =
    neg_added c.args.at c.args.expr.now c.deref.result.now c.in-Neg.inner c.is_closed_negative-closed.result c.args.code.now c.put-in-Neg.new.self c.put-in-Neg-2.new.self c.push_expr.new.code c.put-in-Neg-3.new.self
    c.in-Neg.is c.deref.ensures c.is_closed_negative-closed.ensures c.put-in-Neg.ensures c.put-in-Neg-2.ensures c.push_expr.ensures c.put-in-Neg-3.ensures

pub push_expr-returns-in-Sum : goal.push_expr-returns-in-Sum
push_expr-returns-in-Sum t c =
    sum_added c.args.at c.args.expr.now c.in-Sum.parts c.deref-in-Sum.result.now c.is_closed_sum-closed.result c.args.code.now c.put-in-Sum.new.self c.push_parts.new.code c.put-in-Sum-2.new.self
    c.in-Sum.is c.deref-in-Sum.ensures.value c.is_closed_sum-closed.ensures c.put-in-Sum.ensures c.push_parts.ensures c.put-in-Sum-2.ensures

pub push_expr-returns-in-Product : goal.push_expr-returns-in-Product
push_expr-returns-in-Product t c =
    product_added c.args.at c.args.expr.now c.in-Product.factors c.deref-in-Product.result.now c.is_closed_product-closed.result c.args.code.now c.put-in-Product.new.self c.push_factors.new.code c.put-in-Product-2.new.self
    c.in-Product.is c.deref-in-Product.ensures.value c.is_closed_product-closed.ensures c.put-in-Product.ensures c.push_factors.ensures c.put-in-Product-2.ensures

pub push_parts-loop-i-init : goal.push_parts-loop-i-init
push_parts-loop-i-init t c = up_to_none (sum_steps (part_list c.args.parts.now)) c.args.code.now

pub push_parts-loop-i-preserved : goal.push_parts-loop-i-preserved
push_parts-loop-i-preserved t c =
    let l = c.loop-i in
    more_parts c.args.parts.now l.i c.index-parts-i.result c.args.code.now l.code c.sign.new.self c.push_expr.new.code c.loop-i-test.true c.index-parts-i.is l.invariant c.sign.ensures c.push_expr.ensures

pub push_parts-returns : goal.push_parts-returns
push_parts-returns t c = all_parts c.args.parts.now c.loop-i.i c.args.code.now c.loop-i.code c.loop-i-test.false c.loop-i.invariant

pub push_factors-loop-i-init : goal.push_factors-loop-i-init
push_factors-loop-i-init t c = up_to_none (product_steps (expr_list c.args.factors.now)) c.args.code.now

pub push_factors-loop-i-preserved : goal.push_factors-loop-i-preserved
push_factors-loop-i-preserved t c =
    let l = c.loop-i in
    more_factors c.args.factors.now l.i c.index-factors-i.result c.args.code.now l.code c.put.new.self c.push_expr.new.code c.loop-i-test.true c.index-factors-i.is l.invariant c.put.ensures c.push_expr.ensures

pub push_factors-returns : goal.push_factors-returns
push_factors-returns t c = all_factors c.args.factors.now c.loop-i.i c.args.code.now c.loop-i.code c.loop-i-test.false c.loop-i.invariant
