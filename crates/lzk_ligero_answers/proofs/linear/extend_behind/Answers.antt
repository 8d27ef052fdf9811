use Rattle.std.proofs.Common.{◌≡◌, ◌+◌, ℕ, arith, ap, ◌∙◌, sym}
use Rattle.lzk_field.specs.Sums.{entry}
use Rattle.lzk_poly.specs.Extension.{extension, Reach}
use Rattle.lzk_ligero_answers.proofs.TableLaws.{coefficients_are}
use Rattle.std.proofs.lemmas.List.{length-take-le}
use Rattle.lzk_ligero_answers.proofs.linear.extend_behind.Goals as goal

pub returns-clause-given : goal.returns-clause-given
returns-clause-given g c list are =
    let o = g.F.Field.ops in
    coefficients_are o c.args.given.now.extending.now.combined.now.table.now.params.now (entry o c.args.given.now.coefficients.now) list c.fill_row.new.row c.args.given.now.extending.now.combined.now.table.now.bounded.block are (c.fill_row.ensures.length ∙ c.requires.values) c.fill_row.ensures.front (λ s q. c.fill_row.ensures.back s (omega (arith, q, c.args.given.now.count)))

pub returns-clause-further : goal.returns-clause-further
returns-clause-further g c list are k h =
    let m = g.F.Field in
    let o = m.ops in
    let p = c.args.given.now.extending.now.combined.now.table.now.params.now in
    let values = c.fill_row.new.row in
    let same : values ≡ list = coefficients_are o p (entry o c.args.given.now.coefficients.now) list values c.args.given.now.extending.now.combined.now.table.now.bounded.block are (c.fill_row.ensures.length ∙ c.requires.values) c.fill_row.ensures.front (λ s q. c.fill_row.ensures.back s (omega (arith, q, c.args.given.now.count))) in
    let count : (g.X.RowExtend.reach c.args.given.now.extending.now.extender.now).count ≡ p.block = ap (λ (r : Reach). r.count) c.args.given.now.extending.now.reach in
    c.extend_row.ensures.value k (omega (arith, h, c.extend_row.auto.out)) ∙ ap (λ xs. extension o m.coding.element xs ((g.X.RowExtend.reach c.args.given.now.extending.now.extender.now).count + k)) same ∙ ap (λ (n : ℕ). extension o m.coding.element list (n + k)) count

pub returns-clause-values : goal.returns-clause-values
returns-clause-values g c = c.fill_row.ensures.length

pub fill_row-requires-after_bounds : goal.fill_row-requires-after_bounds
fill_row-requires-after_bounds g c = omega (arith, c.requires.values, c.args.given.now.count, c.args.given.now.extending.now.combined.now.table.now.bounded.block)

pub extend_row-requires-clause-fits : goal.extend_row-requires-clause-fits
extend_row-requires-clause-fits g c = omega (arith, c.fill_row.ensures.length, c.requires.values, ap (λ (r : Reach). r.count) c.args.given.now.extending.now.reach)

pub extend_row-requires-clause-reached : goal.extend_row-requires-clause-reached
extend_row-requires-clause-reached g c =
    omega (arith, c.requires.behind, ap (λ (r : Reach). r.count) c.args.given.now.extending.now.reach, ap (λ (r : Reach). r.upto) c.args.given.now.extending.now.reach)

pub slice_bounds-extend_row-end : goal.slice_bounds-extend_row-end
slice_bounds-extend_row-end g c = omega (arith, c.room_len-size.ensures.rooms, c.requires.room)

pub slice_bounds-extend_row-end-2 : goal.slice_bounds-extend_row-end-2
slice_bounds-extend_row-end-2 g c = sym (length-take-le c.room_len-size.result c.args.room.now (omega (arith, c.room_len-size.ensures.rooms, c.requires.room)))
