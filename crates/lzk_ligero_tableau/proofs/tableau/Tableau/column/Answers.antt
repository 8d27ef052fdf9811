use Rattle.std.proofs.Common.{◌≡◌, ◌≤◌, ap, ◌∙◌, subst, arith}
use Rattle.lzk_layout.specs.Sizes.{AreBounded, params_of}
use Rattle.lzk_ligero_tableau.specs.Table.{Table}
use Rattle.lzk_ligero_tableau.specs.Filled.{column_in}
use Rattle.lzk_ligero_tableau.proofs.TableauLaws.{column_is}
use Rattle.lzk_ligero_tableau.proofs.tableau.Tableau.column.Goals as goal

pub returns-clause-column : goal.returns-clause-column
returns-clause-column g c =
    let f = g.F.Field in
    let e = f.coding in
    λ circuit private word is table.
    let same : c.self.inside.params ≡ params_of circuit = ap (λ (t : Table g.row.F.Denot). t.params) c.self.view_is ∙ is in
    let b : AreBounded (params_of circuit) = subst AreBounded same c.self.invariant.0 in
    let three : 3 ≤ (params_of circuit).nrow = omega (arith, b.rows) in
    c.read_column.ensures
    ∙ ap (λ p. column_in f.ops p c.rows.result.now c.args.j) same
    ∙ ap (λ xs. column_in f.ops (params_of circuit) xs c.args.j) c.rows.ensures.rows
    ∙ column_is f.ops e circuit private word three c.args.self.now.rows table c.args.j (omega (arith, b.columns, c.requires.column, ap (λ p. p.mcol) is))
