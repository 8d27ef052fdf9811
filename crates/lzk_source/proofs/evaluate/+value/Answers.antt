use Rattle.std.proofs.Common.{◌≡◌, ◌∙◌, List, drop, length, sym, ap, arith}
use Rattle.std.proofs.lemmas.List.{drop_all}
use Rattle.lzk_expr.specs.declared.ast.Expr.{Expr}
use Rattle.lzk_expr.specs.declared.ast.Part.{Part}
use Rattle.lzk_expr.specs.View.{part_list, expr_list}
use Rattle.lzk_expr.specs.SourceValues.{signed, given, parts_value, factors_value}
use Rattle.lzk_source.proofs.Trees.{number_is, public_is, private_is, named_is}
use Rattle.lzk_source.proofs.Evaluating.{valued, neg_valued, sum_valued, product_valued, factor_before, part_before}
use Rattle.lzk_source.proofs.evaluate.+value.Goals as goal
use Rattle.lzk_source.proofs.evaluate.+value.Goals.{sum-then-part, sum-else-part}

pub product-loop-i-preserved : goal.product-loop-i-preserved
product-loop-i-preserved g t c =
    let given_now = given g.F.Field.ops g.F.Field.coding.element c.args.public.now c.args.private.now c.args.lets.now in
    let l = c.loop-i in
    record {
      within = omega (arith, l.invariant.within);
      total = factor_before given_now c.args.factors.now l.i c.index-factors-i.result c.value.result l.total c.mul-total.result c.loop-i-test.true l.invariant.within c.index-factors-i.is c.value.ensures l.invariant.total c.mul-total.ensures;
    }

pub sum-loop-i-preserved : goal.sum-loop-i-preserved
sum-loop-i-preserved g t c =
    let o = g.F.Field.ops in
    let given_now = given o g.F.Field.coding.element c.args.public.now c.args.private.now c.args.lets.now in
    let l = c.loop-i in
    let p = c.index-parts-i.result in
    let x = c.value-x.result in
    let is : c.if-part.signed ≡ signed o p.minus x = elim c.if-part.branch [
      | sum-then-part w ↦ w.signed-is ∙ w.neg-signed.ensures ∙ ap (λ m. signed o m x) (sym w.if-part.true)
      | sum-else-part w ↦ w.signed-is ∙ ap (λ m. signed o m x) (sym w.if-part.false)
    ] in
    record {
      within = omega (arith, l.invariant.within);
      total = part_before given_now c.args.parts.now l.i p x c.if-part.signed l.total c.add-total.result c.loop-i-test.true l.invariant.within c.index-parts-i.is c.value-x.ensures is l.invariant.total c.add-total.ensures;
    }

pub value-returns-in-Number : goal.value-returns-in-Number
value-returns-in-Number g t c = valued (given g.F.Field.ops g.F.Field.coding.element c.args.public.now c.args.private.now c.args.lets.now) c.args.expr.now _ _ c.of_word.result c.in-Number.is (number_is c.in-Number.n) c.of_word.ensures

pub value-returns-in-Public : goal.value-returns-in-Public
value-returns-in-Public g t c = valued (given g.F.Field.ops g.F.Field.coding.element c.args.public.now c.args.private.now c.args.lets.now) c.args.expr.now _ _ c.entry.result c.in-Public.is (public_is c.in-Public.i) c.entry.ensures

pub value-returns-in-Private : goal.value-returns-in-Private
value-returns-in-Private g t c = valued (given g.F.Field.ops g.F.Field.coding.element c.args.public.now c.args.private.now c.args.lets.now) c.args.expr.now _ _ c.entry-in-Private.result c.in-Private.is (private_is c.in-Private.i) c.entry-in-Private.ensures

pub value-returns-in-Named : goal.value-returns-in-Named
value-returns-in-Named g t c = valued (given g.F.Field.ops g.F.Field.coding.element c.args.public.now c.args.private.now c.args.lets.now) c.args.expr.now _ _ c.entry-in-Named.result c.in-Named.is (named_is c.in-Named.i) c.entry-in-Named.ensures

pub value-returns-in-Neg : goal.value-returns-in-Neg
value-returns-in-Neg g t c = neg_valued (given g.F.Field.ops g.F.Field.coding.element c.args.public.now c.args.private.now c.args.lets.now) c.args.expr.now c.deref.result.now c.in-Neg.inner c.value.result c.neg.result c.in-Neg.is c.deref.ensures c.value.ensures c.neg.ensures

pub value-returns-in-Sum : goal.value-returns-in-Sum
value-returns-in-Sum g t c = sum_valued (given g.F.Field.ops g.F.Field.coding.element c.args.public.now c.args.private.now c.args.lets.now) c.args.expr.now c.in-Sum.parts c.deref-in-Sum.result.now c.sum.result c.in-Sum.is c.deref-in-Sum.ensures.value c.sum.ensures

pub value-returns-in-Product : goal.value-returns-in-Product
value-returns-in-Product g t c = product_valued (given g.F.Field.ops g.F.Field.coding.element c.args.public.now c.args.private.now c.args.lets.now) c.args.expr.now c.in-Product.factors c.deref-in-Product.result.now c.product.result c.in-Product.is c.deref-in-Product.ensures.value c.product.ensures

pub product-loop-i-init : goal.product-loop-i-init
product-loop-i-init g t c =
    let xs = c.args.factors.now in
    record {
      within = omega arith;
      total = c.one-total.ensures ∙ sym (ap (λ (l : List Expr). factors_value (given g.F.Field.ops g.F.Field.coding.element c.args.public.now c.args.private.now c.args.lets.now) (expr_list l)) (drop_all (length xs) xs (omega arith)));
    }

pub product-overflow_sub-i : goal.product-overflow_sub-i
product-overflow_sub-i g t c = c.loop-i-test.true

pub product-bounds-factors-i : goal.product-bounds-factors-i
product-bounds-factors-i g t c = omega (arith, c.loop-i.invariant.within, c.loop-i-test.true)

pub product-loop-i-smaller : goal.product-loop-i-smaller
product-loop-i-smaller g t c = omega (arith, c.loop-i-test.true)

pub product-returns : goal.product-returns
product-returns g t c =
    let none : c.loop-i.i ≡ 0 = omega (arith, c.loop-i-test.false) in
    c.loop-i.invariant.total ∙ ap (λ k. factors_value (given g.F.Field.ops g.F.Field.coding.element c.args.public.now c.args.private.now c.args.lets.now) (expr_list (drop k c.args.factors.now))) none

pub sum-loop-i-init : goal.sum-loop-i-init
sum-loop-i-init g t c =
    let xs = c.args.parts.now in
    record {
      within = omega arith;
      total = c.zero-total.ensures ∙ sym (ap (λ (l : List Part). parts_value (given g.F.Field.ops g.F.Field.coding.element c.args.public.now c.args.private.now c.args.lets.now) (part_list l)) (drop_all (length xs) xs (omega arith)));
    }

pub sum-overflow_sub-i : goal.sum-overflow_sub-i
sum-overflow_sub-i g t c = c.loop-i-test.true

pub sum-bounds-parts-i : goal.sum-bounds-parts-i
sum-bounds-parts-i g t c = omega (arith, c.loop-i.invariant.within, c.loop-i-test.true)

pub sum-loop-i-smaller : goal.sum-loop-i-smaller
sum-loop-i-smaller g t c = omega (arith, c.loop-i-test.true)

pub sum-returns : goal.sum-returns
sum-returns g t c =
    let none : c.loop-i.i ≡ 0 = omega (arith, c.loop-i-test.false) in
    c.loop-i.invariant.total ∙ ap (λ k. parts_value (given g.F.Field.ops g.F.Field.coding.element c.args.public.now c.args.private.now c.args.lets.now) (part_list (drop k c.args.parts.now))) none
