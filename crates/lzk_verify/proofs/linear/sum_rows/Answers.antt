use Rattle.std.proofs.Common.{◌≡◌, ap, ◌∙◌, arith, add-one}
use Rattle.std.proofs.lemmas.List.{get_or_default}
use Rattle.lzk_field.specs.Sums.{sum_below, entry}
use Rattle.lzk_verify.specs.Extending.{row_sum}
use Rattle.lzk_verify.proofs.linear.sum_rows.Goals as goal

pub loop-i-preserved : goal.loop-i-preserved
loop-i-preserved g c =
    let o = g.F.Field.ops in
    let elements = c.args.elements.now in
    let i = c.loop-i.i in
    let element : c.index-elements-i.result ≡ entry o elements i = c.index-elements-i.is ∙ get_or_default elements i c.index-elements-i.result o.zero (omega arith) in
    let before = sum_below o i (λ k. o.times (entry o elements k) (row_sum o c.args.table.now c.args.factors.now k)) in
    rw add-one (c.add-sum.ensures ∙ ap (λ z. o.plus z c.mul.result) c.loop-i.invariant ∙ ap (o.plus before) (c.mul.ensures ∙ (λ j. o.times (element j) (c.row_dot.ensures j))))
