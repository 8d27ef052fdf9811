use Rattle.lzk_source.specs.NameLists.{lists_of}
use Rattle.lzk_expr.specs.Printing.{sum_text, product_text}
use Rattle.lzk_expr.specs.View.{part_list, expr_list}
use Rattle.lzk_source.proofs.Trees.{number_is, public_is, private_is, named_is}
use Rattle.lzk_source.proofs.PrintLaws.{printed, neg_printed, sum_printed, product_printed, up_to_none, one_part, one_factor, all_parts, all_factors}
use Rattle.lzk_source.proofs.printing.+print.Goals as goal

pub print_expr-returns-in-Number : goal.print_expr-returns-in-Number
print_expr-returns-in-Number t c = printed (lists_of c.args.names.now) c.args.at c.args.expr.now _ _ c.args.text.now c.print_number.new.text c.in-Number.is (number_is c.in-Number.n) c.print_number.ensures

pub print_expr-returns-in-Public : goal.print_expr-returns-in-Public
print_expr-returns-in-Public t c =
    let a = c.args.text.now in
    let b = c.print_name.new.text in
    printed (lists_of c.args.names.now) c.args.at c.args.expr.now _ _ a b c.in-Public.is (public_is c.in-Public.i)
    c.print_name.ensures

pub print_expr-returns-in-Private : goal.print_expr-returns-in-Private
print_expr-returns-in-Private t c =
    let a = c.args.text.now in
    let b = c.print_name-in-Private.new.text in
    printed (lists_of c.args.names.now) c.args.at c.args.expr.now _ _ a b c.in-Private.is (private_is c.in-Private.i)
    c.print_name-in-Private.ensures

pub print_expr-returns-in-Named : goal.print_expr-returns-in-Named
print_expr-returns-in-Named t c =
    let a = c.args.text.now in
    let b = c.print_name-in-Named.new.text in
    printed (lists_of c.args.names.now) c.args.at c.args.expr.now _ _ a b c.in-Named.is (named_is c.in-Named.i)
    c.print_name-in-Named.ensures

pub print_expr-returns-in-Neg : goal.print_expr-returns-in-Neg
print_expr-returns-in-Neg t c =
    neg_printed (lists_of c.args.names.now) c.args.at c.args.expr.now c.deref.result.now c.in-Neg.inner c.is_closed_negative-closed.result c.args.text.now c.put.new.self c.put-in-Neg.new.self c.print_expr.new.text c.put-in-Neg-2.new.self
    c.in-Neg.is c.deref.ensures c.is_closed_negative-closed.ensures c.put.ensures c.put-in-Neg.ensures c.print_expr.ensures c.put-in-Neg-2.ensures

pub print_expr-returns-in-Sum : goal.print_expr-returns-in-Sum
print_expr-returns-in-Sum t c =
    sum_printed (lists_of c.args.names.now) c.args.at c.args.expr.now c.in-Sum.parts c.deref-in-Sum.result.now c.is_closed_sum-closed.result c.args.text.now c.put-in-Sum.new.self c.print_sum.new.text c.put-in-Sum-2.new.self
    c.in-Sum.is c.deref-in-Sum.ensures.value c.is_closed_sum-closed.ensures c.put-in-Sum.ensures c.print_sum.ensures c.put-in-Sum-2.ensures

pub print_expr-returns-in-Product : goal.print_expr-returns-in-Product
print_expr-returns-in-Product t c =
    product_printed (lists_of c.args.names.now) c.args.at c.args.expr.now c.in-Product.factors c.deref-in-Product.result.now c.is_closed_product-closed.result c.args.text.now c.put-in-Product.new.self c.print_product.new.text c.put-in-Product-2.new.self
    c.in-Product.is c.deref-in-Product.ensures.value c.is_closed_product-closed.ensures c.put-in-Product.ensures c.print_product.ensures c.put-in-Product-2.ensures

pub print_sum-loop-i-init : goal.print_sum-loop-i-init
print_sum-loop-i-init t c = up_to_none (sum_text (lists_of c.args.names.now) (part_list c.args.parts.now)) c.args.text.now

pub print_sum-loop-i-preserved : goal.print_sum-loop-i-preserved
print_sum-loop-i-preserved t c =
    let l = c.loop-i in
    one_part (lists_of c.args.names.now) c.args.parts.now l.i c.index-parts-i.result c.args.text.now l.text c.print_sign.new.text c.print_expr.new.text c.loop-i-test.true c.index-parts-i.is l.invariant c.print_sign.ensures c.print_expr.ensures

pub print_sum-returns : goal.print_sum-returns
print_sum-returns t c = all_parts (lists_of c.args.names.now) c.args.parts.now c.loop-i.i c.args.text.now c.loop-i.text c.loop-i-test.false c.loop-i.invariant

pub print_product-loop-i-init : goal.print_product-loop-i-init
print_product-loop-i-init t c = up_to_none (product_text (lists_of c.args.names.now) (expr_list c.args.factors.now)) c.args.text.now

pub print_product-loop-i-preserved : goal.print_product-loop-i-preserved
print_product-loop-i-preserved t c =
    let l = c.loop-i in
    one_factor (lists_of c.args.names.now) c.args.factors.now l.i c.index-factors-i.result c.args.text.now l.text c.print_times.new.text c.print_expr.new.text c.loop-i-test.true c.index-factors-i.is l.invariant c.print_times.ensures c.print_expr.ensures

pub print_product-returns : goal.print_product-returns
print_product-returns t c = all_factors (lists_of c.args.names.now) c.args.factors.now c.loop-i.i c.args.text.now c.loop-i.text c.loop-i-test.false c.loop-i.invariant
