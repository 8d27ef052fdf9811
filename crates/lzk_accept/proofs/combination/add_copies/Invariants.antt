use Rattle.std.proofs.Common.{◌≡◌, ℕ, ◌+◌, ◌*◌, ◌<◌}
use Rattle.lzk_field.specs.Sums.{entry, minus}
use Rattle.lzk_layout.specs.Sizes.{place_of}
use Rattle.lzk_layout.specs.Places.{copy_place_of}
use Rattle.lzk_accept.specs.Combination.{sum_where, is_place}
use Rattle.lzk_accept.specs.Kept.{source_in}
use Rattle.lzk_accept.proofs.combination.add_copies.Given as goal

abbrev pub invariant-loop-m : goal.invariant-loop-m
invariant-loop-m g l =
    let o = g.F.Field.ops in
    let p = l.copies.params.now in
    (i s : ℕ) → s < p.wr → entry o l.table (i * p.wr + s)
    ≡ minus o (o.plus (entry o l.fn.table (i * p.wr + s)) (sum_where o l.m (λ m. is_place (3 + (l.copies.rows + i)) s (copy_place_of p m)) (entry o l.copies.mu.now)))
    (sum_where o l.m (λ m. is_place (3 + (l.copies.rows + i)) s (place_of p (source_in o l.copies.forms.now m))) (entry o l.copies.mu.now))
