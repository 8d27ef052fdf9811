use Rattle.std.proofs.Common.{map, take, ◌∙◌, ◌<◌, ◌++◌, ◌∷◌, [], ap, sym, subst, arith, length}
use Rattle.std.proofs.lemmas.List.{length-map, length-take, take_all}
use Rattle.lzk_circuit_reduce.specs.Renumbering.{IsOne}
use Rattle.lzk_circuit_reduce.specs.InOrder.{over_numbers}
use Rattle.lzk_circuit_reduce.specs.Rows.{IsRow, row_value}
use Rattle.lzk_circuit_reduce.proofs.RowLaws.{map-more}
use Rattle.lzk_circuit_reduce.proofs.InOrderLaws.{over-of-index, numbers-value, one-over}
use Rattle.lzk_circuit_reduce.proofs.in_order.in_order.Goals as goal

pub loop-i-init : goal.loop-i-init
loop-i-init g c = (c.clear.ensures.items, λ width n. subst (IsRow g.F.Field.ops width) (sym c.clear.ensures.items) tt)

pub overflow_cast-a : goal.overflow_cast-a
overflow_cast-a g c =
    let over = over-of-index (length c.args.numbers.now) c.loop-i.i c.args.terms.now c.index-terms-i.result c.loop-i-test.true c.index-terms-i.is c.requires.terms in
    omega (arith, over.0)

pub offset_bounds-numbers-term : goal.offset_bounds-numbers-term
offset_bounds-numbers-term g c =
    let over = over-of-index (length c.args.numbers.now) c.loop-i.i c.args.terms.now c.index-terms-i.result c.loop-i-test.true c.index-terms-i.is c.requires.terms in
    omega (arith, over.0)

pub bounds-numbers-term : goal.bounds-numbers-term
bounds-numbers-term g c =
    let over = over-of-index (length c.args.numbers.now) c.loop-i.i c.args.terms.now c.index-terms-i.result c.loop-i-test.true c.index-terms-i.is c.requires.terms in
    over.0

pub overflow_cast-b : goal.overflow_cast-b
overflow_cast-b g c =
    let over = over-of-index (length c.args.numbers.now) c.loop-i.i c.args.terms.now c.index-terms-i.result c.loop-i-test.true c.index-terms-i.is c.requires.terms in
    omega (arith, over.1)

pub offset_bounds-numbers-term-in-loop-i : goal.offset_bounds-numbers-term-in-loop-i
offset_bounds-numbers-term-in-loop-i g c =
    let over = over-of-index (length c.args.numbers.now) c.loop-i.i c.args.terms.now c.index-terms-i.result c.loop-i-test.true c.index-terms-i.is c.requires.terms in
    omega (arith, over.1)

pub bounds-numbers-term-in-loop-i : goal.bounds-numbers-term-in-loop-i
bounds-numbers-term-in-loop-i g c =
    let over = over-of-index (length c.args.numbers.now) c.loop-i.i c.args.terms.now c.index-terms-i.result c.loop-i-test.true c.index-terms-i.is c.requires.terms in
    over.1

pub loop-i-preserved : goal.loop-i-preserved
loop-i-preserved g c =
    let o = g.F.Field.ops in
    let terms = c.args.terms.now in
    let numbers = c.args.numbers.now in
    let t = c.index-terms-i.result in
    let moved = c.term_of-moved in
    let pushed = c.in-Ok.ensures in
    let l : c.loop-i.i < length terms = c.loop-i-test.true in
    let over = over-of-index (length numbers) c.loop-i.i terms t l c.index-terms-i.is c.requires.terms in (
      map-more (over_numbers numbers) terms c.loop-i.row.items c.push.new.list.items c.loop-i.i t l c.index-terms-i.is (pushed ∙ ap (λ u. c.loop-i.row.items ++ u ∷ []) moved.ensures.exact) c.loop-i.invariant.0,
      λ width n. subst (IsRow o width) (ap (λ us. us ++ moved.result ∷ []) c.deref.ensures.value ∙ sym pushed)
          (c.is_behind.ensures.row width (subst (IsRow o width) (sym c.deref.ensures.value) (c.loop-i.invariant.1 width n)) (λ z. c.requires.nonzero c.loop-i.i t l (ap (λ u. u.coef) (sym c.index-terms-i.is) ∙ sym moved.ensures.coef ∙ z)) moved.ensures.wire moved.ensures.order (moved.ensures.width width (n t.a over.0) (n t.b over.1)) c.if-not-is_behind.false),
    )

pub returns-then-not-is_behind-clause-two : goal.returns-then-not-is_behind-clause-two
returns-then-not-is_behind-clause-two g c not_found =
    let before = take c.loop-i.i c.args.terms.now in
    let some = c.is_behind.ensures.some c.if-not-is_behind.true in
    omega (arith, some, ap length c.deref.ensures.value, ap length c.loop-i.invariant.0, length-map before (over_numbers c.args.numbers.now), length-take c.loop-i.i c.args.terms.now)

pub returns-then-not-is_behind-clause-row : goal.returns-then-not-is_behind-clause-row
returns-then-not-is_behind-clause-row g c found = absurd cc

pub returns-clause-row : goal.returns-clause-row
returns-clause-row g c found =
    let o = g.F.Field.ops in
    let numbers = c.args.numbers.now in
    let terms = c.args.terms.now in
    let exact = c.loop-i.invariant.0 ∙ ap (map (over_numbers numbers)) (take_all c.loop-i.i terms c.loop-i-test.false) in
    record {
      is = c.loop-i.invariant.1;
      value = λ old new h. ap (row_value o new) exact ∙ numbers-value o g.F.Field.laws.ring numbers old new terms h c.requires.terms;
      short = omega (arith, ap length exact, length-map terms (over_numbers numbers));
      one = λ one first. subst (IsOne o) (sym exact) (one-over o g.F.Field.laws.field numbers terms one first);
    }

pub returns-clause-two : goal.returns-clause-two
returns-clause-two g c not_found = absurd cc
