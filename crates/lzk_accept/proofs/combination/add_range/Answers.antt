use Rattle.std.proofs.Common.{◌≡◌, ◌-◌, ◌<◌, length, refl, ap, ◌∙◌, subst, arith}
use Rattle.std.proofs.lemmas.List.{get_or_default}
use Rattle.lzk_field.specs.Sums.{entry}
use Rattle.lzk_accept.proofs.CombinationLaws.{IsAddedTo, added_more, added_all}
use Rattle.lzk_accept.proofs.combination.add_range.Goals as goal

pub loop-j-init : goal.loop-j-init
loop-j-init g c = record { done = λ k a b. absurd (omega (arith, a, b)); before = λ k a. refl; rest = λ k a. refl }

pub overflow_sub-j : goal.overflow_sub-j
overflow_sub-j g c = omega (arith, c.loop-j.auto.j, c.args.range.now.behind)

pub bounds-sums-j : goal.bounds-sums-j
bounds-sums-j g c = omega (arith, c.loop-j-test.true, c.loop-j.auto.j, c.args.range.now.behind, c.requires, c.loop-j.auto.sums)

pub offset_bounds-list-j : goal.offset_bounds-list-j
offset_bounds-list-j g c = omega (arith, c.loop-j-test.true, c.args.range.now.inside)

pub bounds-list-j : goal.bounds-list-j
bounds-list-j g c = omega (arith, c.loop-j-test.true, c.args.range.now.inside)

pub overflow_sub-j-in-loop-j : goal.overflow_sub-j-in-loop-j
overflow_sub-j-in-loop-j g c = omega (arith, c.loop-j.auto.j, c.args.range.now.behind)

pub bounds-sums-j-in-loop-j : goal.bounds-sums-j-in-loop-j
bounds-sums-j-in-loop-j g c = omega (arith, c.loop-j-test.true, c.loop-j.auto.j, c.args.range.now.behind, c.requires, c.loop-j.auto.sums)

pub loop-j-preserved : goal.loop-j-preserved
loop-j-preserved g c =
    let o = g.F.Field.ops in
    let r = c.args.range.now in
    let j = c.loop-j.j in
    let sums = c.loop-j.sums in
    let old = c.index-sums-j.result in
    let x = c.index-list-j.result in
    let room : j - r.skip < length sums = omega (arith, c.loop-j-test.true, c.loop-j.auto.j, c.args.range.now.behind, c.requires, c.loop-j.auto.sums) in
    let there : old ≡ entry o sums (j - r.skip) = c.index-sums-j.is ∙ get_or_default sums (j - r.skip) old o.zero room in
    let here : x ≡ entry o r.list.now j = c.index-list-j.is ∙ get_or_default r.list.now j x o.zero (omega (arith, c.loop-j-test.true, r.inside)) in
    added_more o g.F.Field.laws.ring c.args.by r.list.now c.args.sums.now sums r.start r.skip j c.add.result c.loop-j.auto.j r.behind room
    (c.add.ensures ∙ ap (λ y. o.plus y c.mul.result) there ∙ ap (o.plus (entry o sums (j - r.skip))) (c.mul.ensures ∙ ap (o.times c.args.by) here)) c.loop-j.invariant

pub returns : goal.returns
returns g c =
    let o = g.F.Field.ops in
    let r = c.args.range.now in
    let all : c.loop-j.j ≡ r.end = omega (arith, c.loop-j-test.false, c.loop-j.auto.j-end, r.ordered) in
    added_all o g.F.Field.laws.ring c.args.by r.list.now c.args.sums.now c.loop-j.sums r.start r.skip r.end
    (subst (λ n. IsAddedTo o c.args.by r.list.now c.args.sums.now r.start r.skip n c.loop-j.sums) all c.loop-j.invariant)
