use Rattle.std.proofs.Common.{◌∙◌, [], ◌∷◌, ap}
use Rattle.lzk_field.specs.Sums.{entry}
use Rattle.lzk_circuit_reduce.specs.Rows.{row_value}
use Rattle.lzk_circuit_reduce.proofs.RowLaws.{value-append}
use Rattle.lzk_circuit_beside.proofs.row.push_term.Goals as goal

pub returns-then-comes_last-clause-value : goal.returns-then-comes_last-clause-value
returns-then-comes_last-clause-value g c below =
    let o = g.F.Field.ops in
    let ring = g.F.Field.laws.ring in
    let old = row_value o below c.args.row.now.items in
    let counted = o.times c.args.coef (o.times (entry o below c.args.a) (entry o below c.args.b)) in
    ap (row_value o below) c.in_ok-push.ensures.items
    ∙ value-append o ring below c.args.row.now.items (record { g = 0; a = c.args.a; b = c.args.b; coef = c.args.coef } ∷ [])
    ∙ ap (o.plus old) (ring.plus_zero counted) ∙ ring.plus_comm old counted
