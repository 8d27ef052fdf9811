use Rattle.std.proofs.Common.{◌≡◌, ◌∙◌, ◌<◌, ◌+◌, ap, ap₂, sym, arith, length, slice_index_or, add-one}
use Rattle.std.proofs.lemmas.List.{get_or_default}
use Rattle.lzk_field.specs.Sums.{sum_below}
use Rattle.lzk_field.proofs.field.Field.dot.Goals as goal

pub loop-i-init : goal.loop-i-init
loop-i-init g c = c.zero-total.ensures

pub bounds-right-i : goal.bounds-right-i
bounds-right-i g c = omega (arith, c.loop-i-test.true, c.requires)

pub loop-i-preserved : goal.loop-i-preserved
loop-i-preserved g c =
    let o = g.Self.Field.ops in
    let i = c.loop-i.i in
    let left = c.args.left.now in
    let right = c.args.right.now in
    let x : c.index-left-i.result ≡ slice_index_or left i o.zero = c.index-left-i.is ∙ get_or_default left i c.index-left-i.result o.zero c.loop-i-test.true in
    let y : c.index-right-i.result ≡ slice_index_or right i o.zero = c.index-right-i.is ∙ get_or_default right i c.index-right-i.result o.zero (omega (arith, c.loop-i-test.true, c.requires)) in
    rw add-one (c.add-total.ensures ∙ ap₂ o.plus c.loop-i.invariant (c.mul.ensures ∙ ap₂ o.times x y))

pub returns : goal.returns
returns g c =
    let o = g.Self.Field.ops in
    c.loop-i.invariant ∙ ap (λ n. sum_below o n (λ k. o.times (slice_index_or c.args.left.now k o.zero) (slice_index_or c.args.right.now k o.zero))) (omega (arith, c.loop-i-test.false, c.loop-i.auto.i-end))
