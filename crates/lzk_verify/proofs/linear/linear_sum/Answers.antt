use Rattle.lzk_profile.specs.Profile.{opened_count}
use Rattle.std.proofs.Common.{◌≡◌, ◌+◌, ◌-◌, ◌*◌, ◌<◌, ℕ, List, take, drop, length, arith, ap, ◌∙◌}
use Rattle.std.proofs.lemmas.List.{length-take-le, length-drop}
use Rattle.lzk_field.specs.Sums.{sum_below, entry}
use Rattle.lzk_field.proofs.SumLaws.{sum-ext}
use Rattle.lzk_verify.specs.Extending.{row_sum}
use Rattle.lzk_verify.proofs.ColumnLaws.{part_entry, row_sum_as, rows_long, linear_sums}
use Rattle.lzk_verify.proofs.linear.linear_sum.Goals as goal

pub returns : goal.returns
returns g c = λ point lists extends are.
    let o = g.F.Field.ops in
    let r = g.F.Field.laws.ring in
    let p = c.args.check.now.column.now.plan.now.params in
    let f = c.args.check.now.combined.now in
    let column = c.args.check.now.column.now.elements.now in
    let factors : List g.row.F.Denot = take p.block c.args.check.now.inverses.now in
    let n = f.rows in
    let w = p.wr in
    let rest = p.nrow - 3 - n in
    let back : List g.row.F.Denot = take (length factors - opened_count) (drop opened_count factors) in
    let private : List g.row.F.Denot = take (3 + n - 3) (drop 3 column) in
    let others : List g.row.F.Denot = take (length column - (3 + n)) (drop (3 + n) column) in
    let bounded = c.args.check.now.column.now.plan.now.bounded in
    let block = bounded.block in
    let whole = c.args.check.now.column.now.whole in
    let fits = c.args.check.now.combined_fits in
    let inverses : length factors ≡ p.block = length-take-le p.block c.args.check.now.inverses.now (omega (arith, c.args.check.now.inverses_fit, bounded)) in
    let wide : length back ≡ w = length-take-le (length factors - opened_count) (drop opened_count factors) (omega (arith, length-drop opened_count factors)) ∙ omega (arith, inverses, block) in
    let few : length private ≡ n = length-take-le (3 + n - 3) (drop 3 column) (omega (arith, length-drop 3 column, whole, fits.rows)) ∙ omega arith in
    let many : length others ≡ rest = length-take-le (length column - (3 + n)) (drop (3 + n) column) (omega (arith, length-drop (3 + n) column)) ∙ omega (arith, whole) in
    let at_back : (s : ℕ) → s < w → entry o back s ≡ entry o factors (opened_count + s) = λ s h. part_entry o factors (length factors - opened_count) opened_count s (omega (arith, h, inverses, block)) in
    let at_private : (i : ℕ) → i < n → entry o private i ≡ entry o column (3 + i) = λ i h. part_entry o column (3 + n - 3) 3 i (omega (arith, h)) in
    let at_others : (i : ℕ) → i < rest → entry o others i ≡ entry o column (3 + (n + i)) = λ i h. part_entry o column (length column - (3 + n)) (3 + n) i (omega (arith, h, whole)) ∙ ap (entry o column) (omega arith) in
    let place : ℕ → g.row.F.Denot = λ k. sum_below o w (λ s. o.times (entry o f.place_factors (k * w + s)) (entry o factors (opened_count + s))) in
    let row : ℕ → g.row.F.Denot = λ k. sum_below o n (λ i. o.times (entry o f.row_factors (k * n + i)) (entry o column (3 + i))) in
    let table : ℕ → g.row.F.Denot = λ i. sum_below o w (λ s. o.times (entry o f.table (i * w + s)) (entry o factors (opened_count + s))) in
    let row_factors : c.as_slice.result.now ≡ f.row_factors = c.as_slice.ensures in
    let place_factors : c.as_slice-2.result.now ≡ f.place_factors = c.as_slice-2.ensures in
    let entries : c.as_slice-3.result.now ≡ f.table = c.as_slice-3.ensures in
    let first = c.sum_private-private.ensures
    ∙ (λ j. sum_below o 4 (λ k. o.times (row_sum o (row_factors j) private k) (row_sum o (place_factors j) back k)))
    ∙ sum-ext o r 4 (λ k. o.times (row_sum o f.row_factors private k) (row_sum o f.place_factors back k)) (λ k. o.times (row k) (place k))
    (λ k h j. o.times (row_sum_as o r f.row_factors private k n (λ i. entry o column (3 + i)) few at_private j) (row_sum_as o r f.place_factors back k w (λ s. entry o factors (opened_count + s)) wide at_back j)) in
    let second = c.sum_rows-others.ensures
    ∙ (λ j. sum_below o (many j) (λ i. o.times (entry o others i) (row_sum o (entries j) back i)))
    ∙ sum-ext o r rest (λ i. o.times (entry o others i) (row_sum o f.table back i)) (λ i. o.times (entry o column (3 + (n + i))) (table i))
    (λ i h j. o.times (at_others i h j) (row_sum_as o r f.table back i w (λ s. entry o factors (opened_count + s)) wide at_back j)) in
    c.mul.ensures ∙ ap (λ z. o.times z c.args.check.now.row_last) (c.add.ensures ∙ (λ j. o.plus (first j) (second j)))
    ∙ linear_sums o r g.F.Field.coding.element p point column factors c.args.check.now.row_last f lists are block fits.rows inverses (rows_long o g.F.Field.coding.element p f lists are) extends
