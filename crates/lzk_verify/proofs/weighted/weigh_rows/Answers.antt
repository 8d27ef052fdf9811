use Rattle.lzk_profile.specs.Profile.{opened_count}
use Rattle.std.specs.Prelude.{◌≡◌, ℕ, ◌+◌, ◌-◌, ◌*◌, ◌<◌, List, length, take, drop}
use Rattle.std.proofs.Common.{refl, ap, sym, subst, ◌∙◌, arith}
use Rattle.std.proofs.lemmas.List.{length-take-le, length-drop}
use Rattle.lzk_field.specs.Sums.{entry}
use Rattle.lzk_poly.specs.Extension.{Reach}
use Rattle.lzk_poly.specs.Weights.{IsWeights}
use Rattle.lzk_sumcheck.proofs.Filled.{refill_whole}
use Rattle.lzk_verify.proofs.ColumnLaws.{part_entry}
use Rattle.lzk_verify.proofs.WeightedRows.{rows_weighted}
use Rattle.lzk_verify.proofs.weighted.weigh_rows.Goals as goal

pub returns-clause-rows : goal.returns-clause-rows
returns-clause-rows g c = λ lists are.
    let f = g.F.Field in
    let o = f.ops in
    let p = c.args.plan.now.params in
    let old = c.args.combined.now in
    let block = c.args.plan.now.bounded.block in
    let ws = c.weights.result.now in
    let count : c.args.rows.now.count ≡ p.block = ap (λ (r : Reach). r.count) c.requires.rows in
    let long : length ws ≡ opened_count + p.wr = c.weights.ensures.0 ∙ count ∙ block in
    let own : List g.row.F.Denot = take (length ws - opened_count) (drop opened_count ws) in
    let wide : length own ≡ p.wr = length-take-le (length ws - opened_count) (drop opened_count ws) (omega (arith, length-drop opened_count ws)) ∙ omega (arith, long) in
    let at : (s : ℕ) → s < p.wr → entry o own s ≡ entry o ws (opened_count + s) = λ s h. part_entry o ws (length ws - opened_count) opened_count s (omega (arith, h, long)) in
    let places = c.weigh_table.new.table in
    let table = c.weigh_table-2.new.table in
    let set_places = refill_whole (length old.place_factors) old.place_factors places (c.weigh_table.ensures.length ∙ ap length c.as_mut_slice.ensures.value) in
    let set_table = refill_whole (length old.table) old.table table (c.weigh_table-2.ensures.length ∙ ap length c.as_mut_slice-2.ensures.value) in
    rows_weighted o f.laws.ring f.laws.field f.coding.element p ws (subst (λ n. IsWeights o f.coding.element n ws) count c.weights.ensures) block old _ refl refl
    (λ k s h q.
    ap (λ xs. entry o xs (k * p.wr + s)) set_places
    ∙ subst (λ n. s < n → entry o places (k * n + s) ≡ o.times (entry o old.place_factors (k * n + s)) (entry o own s)) wide
    (λ l. c.weigh_table.ensures.each k s h l ∙ ap (λ xs. o.times (entry o xs (k * length own + s)) (entry o own s)) c.as_mut_slice.ensures.value) q
    ∙ ap (o.times (entry o old.place_factors (k * p.wr + s))) (at s q))
    (λ i s h q.
    ap (λ xs. entry o xs (i * p.wr + s)) set_table
    ∙ subst (λ n. s < n → entry o table (i * n + s) ≡ o.times (entry o old.table (i * n + s)) (entry o own s)) wide
    (λ l. c.weigh_table-2.ensures.each i s h l ∙ ap (λ xs. o.times (entry o xs (i * length own + s)) (entry o own s)) c.as_mut_slice-2.ensures.value) q
    ∙ ap (o.times (entry o old.table (i * p.wr + s))) (at s q))
    lists are

pub slice_bounds-own-count : goal.slice_bounds-own-count
slice_bounds-own-count g c = omega (arith, c.weights.ensures.0, ap (λ (r : Reach). r.count) c.requires.rows, c.args.plan.now.bounded.block)

pub scale_in_slice-own : goal.scale_in_slice-own
scale_in_slice-own g c = omega (arith, c.weights.ensures.0, ap (λ (r : Reach). r.count) c.requires.rows, c.args.plan.now.bounded.block)

pub overflow_sub-others : goal.overflow_sub-others
overflow_sub-others g c = omega (arith, c.args.plan.now.bounded.rows)

pub overflow_sub-others-2 : goal.overflow_sub-others-2
overflow_sub-others-2 g c = c.requires.factors.rows

pub weigh_table-requires-after_bounds : goal.weigh_table-requires-after_bounds
weigh_table-requires-after_bounds g c κs within =
    let p = c.args.plan.now.params in
    let ws = c.weights.result.now in
    let long : length ws ≡ opened_count + p.wr = c.weights.ensures.0 ∙ ap (λ (r : Reach). r.count) c.requires.rows ∙ c.args.plan.now.bounded.block in
    let wide : length (take (length ws - opened_count) (drop opened_count ws)) ≡ p.wr = length-take-le (length ws - opened_count) (drop opened_count ws) (omega (arith, length-drop opened_count ws)) ∙ omega (arith, long) in
    ap length c.as_mut_slice.ensures.value ∙ c.requires.factors.place_factors ∙ ap (λ n. 4 * n) (sym wide)

pub weigh_table-requires-2-after_bounds : goal.weigh_table-requires-2-after_bounds
weigh_table-requires-2-after_bounds g c κs within =
    let p = c.args.plan.now.params in
    let ws = c.weights.result.now in
    let long : length ws ≡ opened_count + p.wr = c.weights.ensures.0 ∙ ap (λ (r : Reach). r.count) c.requires.rows ∙ c.args.plan.now.bounded.block in
    let wide : length (take (length ws - opened_count) (drop opened_count ws)) ≡ p.wr = length-take-le (length ws - opened_count) (drop opened_count ws) (omega (arith, length-drop opened_count ws)) ∙ omega (arith, long) in
    ap length c.as_mut_slice-2.ensures.value ∙ c.requires.factors.table ∙ ap (λ n. (p.nrow - 3 - c.args.combined.now.rows) * n) (sym wide)

pub returns-clause-factors : goal.returns-clause-factors
returns-clause-factors g c =
    let f = c.requires.factors in
    let old = c.args.combined.now in
    let places_long = c.weigh_table.ensures.length ∙ ap length c.as_mut_slice.ensures.value in
    let table_long = c.weigh_table-2.ensures.length ∙ ap length c.as_mut_slice-2.ensures.value in
    let places = ap length (refill_whole (length old.place_factors) old.place_factors c.weigh_table.new.table places_long) ∙ places_long in
    let table = ap length (refill_whole (length old.table) old.table c.weigh_table-2.new.table table_long) ∙ table_long in
    record { rows = f.rows; row_factors = f.row_factors; place_factors = places ∙ f.place_factors; table = table ∙ f.table }

pub returns-clause-room : goal.returns-clause-room
returns-clause-room g c = λ w r.
    let old = c.args.combined.now in
    let places_long = c.weigh_table.ensures.length ∙ ap length c.as_mut_slice.ensures.value in
    let table_long = c.weigh_table-2.ensures.length ∙ ap length c.as_mut_slice-2.ensures.value in
    let places = ap length (refill_whole (length old.place_factors) old.place_factors c.weigh_table.new.table places_long) ∙ places_long in
    let table = ap length (refill_whole (length old.table) old.table c.weigh_table-2.new.table table_long) ∙ table_long in
    record { rows = r.rows; row_factors = r.row_factors; place_factors = places ∙ r.place_factors; table = table ∙ r.table }
