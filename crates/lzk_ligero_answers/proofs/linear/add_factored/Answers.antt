use Rattle.lzk_profile.specs.Profile.{opened_count}
use Rattle.std.proofs.Common.{◌≡◌, ◌+◌, ◌-◌, ◌*◌, ◌<◌, ℕ, ◌++◌, length, arith, ap, sym, ◌∙◌}
use Rattle.std.specs.Prelude.{◌≢◌}
use Rattle.std.proofs.lemmas.List.{length-append}
use Rattle.lzk_field.specs.Sums.{sum_below, entry}
use Rattle.lzk_field.proofs.EntryLaws.{entries_joined}
use Rattle.lzk_field.proofs.Numbering.{points_apart}
use Rattle.lzk_poly.specs.Extension.{extension}
use Rattle.lzk_ligero_answers.proofs.TableLaws.{cell, are_coefficients, place_row, products_added, nothing_added, front-extension, back-extension, entry-front, entry-back}
use Rattle.lzk_ligero_answers.proofs.linear.add_factored.Goals as goal

pub returns-clause-values : goal.returns-clause-values
returns-clause-values g c lists are k h =
    let m = g.F.Field in
    let o = m.ops in
    let r = m.laws.ring in
    let p = c.args.factors.now.table.now.params.now in
    let b = c.args.factors.now.table.now.bounded in
    let n = c.args.factors.now.rows in
    let table = c.args.factors.now.table.now.values.now in
    let width = c.args.factors.now.table.now.width in
    let factors = c.args.factors.now.row_factors.now in
    let places = c.args.factors.now.place_factors.now in
    let answer = c.args.answer.now in
    let x = c.split_at_mut-front in
    let y = c.split_at_mut-elements in
    let front = y.result.0.now in
    let own = y.result.1.now in
    let rest = x.result.1.now in
    let given = c.add_products.new.out in
    let further = c.add_products-2.new.out in
    let size : length front ≡ opened_count = y.ensures.front_len in
    let own_size : length own ≡ p.wr = omega (arith, y.ensures.back_len, x.ensures.front_len, b.block) in
    let rest_size : length rest ≡ p.dblock - p.block = omega (arith, x.ensures.back_len, c.requires.answer) in
    let given_size : length given ≡ p.wr = c.add_products.ensures.length ∙ own_size in
    let further_size : length further ≡ p.dblock - p.block = c.add_products-2.ensures.length ∙ rest_size in
    let first_size : length (front ++ given) ≡ p.block = omega (arith, length-append front given, size, given_size, b.block) in
    let sum : ℕ → ℕ → g.row.F.Denot = λ f k. sum_below o n (λ i. o.times (entry o factors (f * n + i)) (cell o width table (3 + i) k)) in
    let After : ℕ → g.row.F.Denot → Type 0 = λ k v. v ≡ o.plus (entry o answer k) (sum_below o n (λ i. o.times (extension o m.coding.element (lists (3 + i)) k) (cell o width table (3 + i) k))) in
    let apart : (i j : ℕ) → i < j → j < opened_count + p.wr → m.coding.element i ≢ m.coding.element j = points_apart m.laws (opened_count + p.wr) (omega (arith, b.wr)) in
    let place : ℕ → ℕ → g.row.F.Denot = λ f s. entry o places (f * p.wr + s) in
    let is = λ (f : ℕ). are_coefficients o p (place f) b.block in
    entries_joined o After (front ++ given) further
    (λ k h.
    entries_joined o After front given
    (λ k h.
    entry-front o x.result.0.now front opened_count k y.ensures.front (omega arith) ∙ entry-front o answer x.result.0.now p.block k x.ensures.front (omega (arith, b.block))
    ∙ nothing_added o r m.coding.element p n 4 factors places b.block lists are width k table (entry o answer k) (λ f z. front-extension o r m.laws.field m.coding.element opened_count p.wr apart (place f) k (omega arith)))
    (λ s h.
    let at : opened_count + s ≡ length front + s = omega arith in
    products_added o r m.coding.element p n 4 factors places b.block lists are width opened_count s (length front + s) table (λ f. place f s) (entry o answer (length front + s)) (entry o given s) at
    (λ f z. sym (back-extension o r m.laws.field m.coding.element opened_count p.wr apart (place f) s (omega arith)) ∙ ap (extension o m.coding.element (place_row o p places f)) at)
    (c.add_products.ensures.sums s (omega arith)
    ∙ ap (λ (size : ℕ). o.plus (entry o own s) (sum_below o 4 (λ f. o.times (entry o places (f * size + s)) (sum f (opened_count + s))))) own_size
    ∙ ap (λ w. o.plus w (sum_below o 4 (λ f. o.times (place f s) (sum f (opened_count + s)))))
    (entry-back o x.result.0.now own opened_count s y.ensures.back ∙ entry-front o answer x.result.0.now p.block (opened_count + s) x.ensures.front (omega (arith, b.block)) ∙ ap (entry o answer) at)))
    k h)
    (λ d h.
    let at : p.block + d ≡ length (front ++ given) + d = omega arith in
    let step = p.dblock - p.block in
    let value : ℕ → g.row.F.Denot = λ f. entry o c.args.behind.now (f * step + d) in
    products_added o r m.coding.element p n 4 factors places b.block lists are width p.block d (length (front ++ given) + d) table value (entry o answer (length (front ++ given) + d)) (entry o further d) at
    (λ f z. c.requires.behind f (place_row o p places f) z (is f) d (omega arith) ∙ ap (extension o m.coding.element (place_row o p places f)) at)
    (c.add_products-2.ensures.sums d (omega arith)
    ∙ ap (λ (size : ℕ). o.plus (entry o rest d) (sum_below o 4 (λ f. o.times (entry o c.args.behind.now (f * size + d)) (sum f (p.block + d))))) rest_size
    ∙ ap (λ w. o.plus w (sum_below o 4 (λ f. o.times (value f) (sum f (p.block + d))))) (entry-back o answer rest p.block d x.ensures.back ∙ ap (entry o answer) at)))
    k (omega (arith, length-append (front ++ given) further, first_size, further_size))
