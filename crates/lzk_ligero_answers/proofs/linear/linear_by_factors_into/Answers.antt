use Rattle.std.proofs.Common.{◌≡◌, ◌≤◌, ◌+◌, ◌-◌, ◌*◌, ℕ, length, take, drop, arith, ap, sym, ◌∙◌, mul-le-mul_right}
use Rattle.std.proofs.lemmas.List.{length-append, length-drop, length-take-le}
use Rattle.lzk_field.specs.Sums.{entry}
use Rattle.lzk_poly.specs.Extension.{extension}
use Rattle.lzk_ligero_answers.proofs.TableLaws.{cell, linear_made, rows_joined}
use Rattle.lzk_ligero_answers.proofs.linear.linear_by_factors_into.Goals as goal

pub returns-clause-values : goal.returns-clause-values
returns-clause-values g c all lists count is factored listed =
    let m = g.F.Field in
    let o = m.ops in
    let p = c.args.combined.now.table.now.params.now in
    let b = c.args.combined.now.table.now.bounded in
    let table = c.args.combined.now.table.now.values.now in
    let width = c.args.combined.now.table.now.width in
    let size : length c.add_listed.new.answer ≡ p.dblock = omega (arith, c.add_listed.ensures.answer, c.add_factored.ensures.answer, ap length c.set_list.ensures, c.row_of.ensures.size) in
    linear_made o m.laws.ring m.coding.element p all width table c.add_listed.new.answer is count lists (omega (arith, b.rows)) c.args.combined.now.table.now.wide size
    (λ k h.
    let f : ℕ → g.row.F.Denot = λ i. o.times (extension o m.coding.element (lists (3 + i)) k) (cell o width table (3 + i) k) in
    rows_joined o m.laws.ring c.args.combined.now.rows (p.nrow - 3) f (cell o width table 1 k) (entry o c.set_list.new.list k) (entry o c.add_factored.new.answer k) (entry o c.add_listed.new.answer k) (omega (arith, c.args.combined.now.few))
    (ap (λ values. entry o values k) c.set_list.ensures ∙ c.row_of.ensures.values k h)
    (c.add_factored.ensures.values lists factored k h)
    (c.add_listed.ensures.values lists listed k h))

pub invariant_of-extending : goal.invariant_of-extending
invariant_of-extending g c = record { reach = c.requires.reach }

pub row_of-requires-clause-inside : goal.row_of-requires-clause-inside
row_of-requires-clause-inside g c κs within =
    let t = c.args.combined.now.table.now in
    let low : 2 * t.width ≤ t.params.now.nrow * t.width = mul-le-mul_right t.width (omega (arith, t.bounded.rows)) in
    omega (arith, low, t.inside)

pub row_of-requires-clause-short : goal.row_of-requires-clause-short
row_of-requires-clause-short g c κs within = c.args.combined.now.table.now.wide

pub add_factored-requires-clause-count : goal.add_factored-requires-clause-count
add_factored-requires-clause-count g c κs within = c.extend_factors.ensures.behind ∙ c.split_at_mut-behind.ensures.front_len

pub add_factored-requires-clause-behind : goal.add_factored-requires-clause-behind
add_factored-requires-clause-behind g c κs within = c.extend_factors.ensures.further

pub returns-clause-answer : goal.returns-clause-answer
returns-clause-answer g c = omega (arith, c.add_listed.ensures.answer, c.add_factored.ensures.answer, ap length c.set_list.ensures, c.row_of.ensures.size, c.requires.answer)

pub split_at_mut-behind-requires : goal.split_at_mut-behind-requires
split_at_mut-behind-requires g c = let b = c.args.combined.now.table.now.bounded in omega (arith, c.requires.room, b.dblock, b.block)

pub extend_factors-requires-clause-values : goal.extend_factors-requires-clause-values
extend_factors-requires-clause-values g c κs within =
    let t = c.args.combined.now.table.now in
    length-take-le t.params.now.block c.args.answer.now (omega (arith, c.requires.answer, t.bounded.dblock, t.bounded.block))

pub extend_factors-requires-clause-behind : goal.extend_factors-requires-clause-behind
extend_factors-requires-clause-behind g c κs within = c.split_at_mut-behind.ensures.front_len

pub extend_factors-requires-clause-room : goal.extend_factors-requires-clause-room
extend_factors-requires-clause-room g c =
    let b = c.args.combined.now.table.now.bounded in
    omega (arith, c.requires.room, c.split_at_mut-behind.ensures.back_len, b.dblock, b.block)

pub set_list-requires-after_bounds : goal.set_list-requires-after_bounds
set_list-requires-after_bounds g c κs within =
    let t = c.args.combined.now.table.now in
    let b = t.bounded in
    let block = t.params.now.block in
    let answer = c.args.answer.now in
    let size : length (take block answer) ≡ block = length-take-le block answer (omega (arith, c.requires.answer, b.dblock, b.block)) in
    c.row_of.ensures.size
    ∙ sym (length-append c.extend_factors.new.values (drop block answer) ∙ omega (arith, c.extend_factors.ensures.values, size, length-drop block answer, c.requires.answer, b.dblock, b.block))

pub add_factored-requires-clause-answer : goal.add_factored-requires-clause-answer
add_factored-requires-clause-answer g c κs within = ap length c.set_list.ensures ∙ c.row_of.ensures.size

pub add_listed-requires-clause-answer : goal.add_listed-requires-clause-answer
add_listed-requires-clause-answer g c κs within = c.add_factored.ensures.answer ∙ ap length c.set_list.ensures ∙ c.row_of.ensures.size

pub add_listed-requires-clause-room : goal.add_listed-requires-clause-room
add_listed-requires-clause-room g c =
    let b = c.args.combined.now.table.now.bounded in
    omega (
      arith,
      length-append c.extend_factors.new.behind c.extend_factors.new.room,
      c.extend_factors.ensures.behind,
      c.extend_factors.ensures.room,
      c.split_at_mut-behind.ensures.front_len,
      c.split_at_mut-behind.ensures.back_len,
      c.requires.room,
      b.dblock,
      b.block,
    )

pub returns-clause-room : goal.returns-clause-room
returns-clause-room g c =
    let b = c.args.combined.now.table.now.bounded in
    c.add_listed.ensures.room ∙ length-append c.extend_factors.new.behind c.extend_factors.new.room
    ∙ omega (arith, c.extend_factors.ensures.behind, c.extend_factors.ensures.room, c.split_at_mut-behind.ensures.front_len, c.split_at_mut-behind.ensures.back_len, c.requires.room, b.dblock, b.block)
