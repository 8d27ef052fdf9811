use Rattle.std.proofs.Common.{◌≡◌, ◌+◌, ◌*◌, length}
use Rattle.lzk_field.specs.Sums.{sum_below, entry}
use Rattle.lzk_ligero_answers.proofs.rows.factored_at.Given as goal

abbrev pub invariant-loop-f : goal.invariant-loop-f
invariant-loop-f g l =
    let o = g.F.Field.ops in
    let rows = length l.fn.gathered.column.now in
    l.sum ≡ sum_below o l.f (λ f. o.times (entry o l.fn.gathered.values.now (f * l.fn.gathered.size + l.fn.k)) (sum_below o rows (λ i. o.times (entry o l.fn.gathered.factors.now (f * rows + i)) (entry o l.fn.gathered.column.now i))))
