use Rattle.std.proofs.Common.{◌≤◌, length, ap, ◌∙◌, arith}
use Rattle.lzk_poly.specs.Extension.{extension, Reach}
use Rattle.lzk_ligero_tableau.proofs.ValueLaws.{extended}
use Rattle.lzk_ligero_tableau.proofs.rows.set_row.Goals as goal

pub returns-then-r-eq2 : goal.returns-then-r-eq2
returns-then-r-eq2 g c =
    let f = g.F.Field in
    let b = c.args.source.now.given.now.plan.now.bounded in
    let values = c.set_values.new.values in
    let few : length values ≤ 65536 = omega (arith, c.set_values.auto.values, c.split_at_mut-values.ensures.front_len, b.ncol, b.columns) in
    λ k h. extended f.ops f.coding.element values c.extend.new.further c.extension_laws.ensures.given few c.extend.ensures k h ∙ ap (λ xs. extension f.ops f.coding.element xs k) c.set_values.ensures

pub returns-else-r-eq2 : goal.returns-else-r-eq2
returns-else-r-eq2 g c =
    let f = g.F.Field in
    let b = c.args.source.now.given.now.plan.now.bounded in
    let values = c.set_values-else-r-eq2.new.values in
    let few : length values ≤ 65536 = omega (arith, c.set_values-else-r-eq2.auto.values, c.split_at_mut-values-else-r-eq2.ensures.front_len, b.ncol, b.columns, b.dblock) in
    λ k h. extended f.ops f.coding.element values c.extend-else-r-eq2.new.further c.extension_laws.ensures.given few c.extend-else-r-eq2.ensures k h ∙ ap (λ xs. extension f.ops f.coding.element xs k) c.set_values-else-r-eq2.ensures

pub set_values-requires-clause-inside : goal.set_values-requires-clause-inside
set_values-requires-clause-inside g c κs within = c.requires.inside

pub set_values-requires-clause-long : goal.set_values-requires-clause-long
set_values-requires-clause-long g c κs within = λ h. c.split_at_mut-values.ensures.front_len

pub set_values-requires-else-r-eq2-clause-inside : goal.set_values-requires-else-r-eq2-clause-inside
set_values-requires-else-r-eq2-clause-inside g c κs within = c.requires.inside

pub set_values-requires-else-r-eq2-clause-short : goal.set_values-requires-else-r-eq2-clause-short
set_values-requires-else-r-eq2-clause-short g c κs within = λ h. c.split_at_mut-values-else-r-eq2.ensures.front_len

pub extend-requires-clause-fits : goal.extend-requires-clause-fits
extend-requires-clause-fits g c =
    omega (arith, c.set_values.auto.values, c.split_at_mut-values.ensures.front_len, ap (λ (r : Reach). r.count) c.args.source.now.reaching.long_reach)

pub extend-requires-clause-reached : goal.extend-requires-clause-reached
extend-requires-clause-reached g c =
    let b = c.args.source.now.given.now.plan.now.bounded in
    omega (
      arith,
      c.split_at_mut-values.ensures.back_len,
      c.requires.row,
      b.columns,
      b.dblock,
      b.block,
      ap (λ (r : Reach). r.count) c.args.source.now.reaching.long_reach,
      ap (λ (r : Reach). r.upto) c.args.source.now.reaching.long_reach,
    )

pub extend-requires-clause-rooms : goal.extend-requires-clause-rooms
extend-requires-clause-rooms g c = omega (arith, c.args.source.now.reaching.long_room, c.requires.room)

pub extend-requires-else-r-eq2-clause-fits : goal.extend-requires-else-r-eq2-clause-fits
extend-requires-else-r-eq2-clause-fits g c =
    omega (arith, c.set_values-else-r-eq2.auto.values, c.split_at_mut-values-else-r-eq2.ensures.front_len, ap (λ (r : Reach). r.count) c.args.source.now.reaching.short_reach)

pub extend-requires-else-r-eq2-clause-reached : goal.extend-requires-else-r-eq2-clause-reached
extend-requires-else-r-eq2-clause-reached g c =
    let b = c.args.source.now.given.now.plan.now.bounded in
    omega (
      arith,
      c.split_at_mut-values-else-r-eq2.ensures.back_len,
      c.requires.row,
      b.columns,
      b.dblock,
      b.block,
      ap (λ (r : Reach). r.count) c.args.source.now.reaching.short_reach,
      ap (λ (r : Reach). r.upto) c.args.source.now.reaching.short_reach,
    )

pub extend-requires-else-r-eq2-clause-rooms : goal.extend-requires-else-r-eq2-clause-rooms
extend-requires-else-r-eq2-clause-rooms g c = omega (arith, c.args.source.now.reaching.short_room, c.requires.room)
