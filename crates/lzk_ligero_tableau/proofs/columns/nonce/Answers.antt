use Rattle.std.proofs.Common.{◌≤◌, ap, ◌∙◌, subst, arith}
use Rattle.lzk_layout.specs.Sizes.{AreBounded, params_of}
use Rattle.lzk_ligero_tableau.specs.Tableau.{low_words}
use Rattle.lzk_ligero_tableau.specs.Filled.{nonce_at}
use Rattle.lzk_ligero_tableau.proofs.TableauLaws.{nonce_is}
use Rattle.lzk_ligero_tableau.proofs.columns.nonce.Goals as goal

pub returns : goal.returns
returns g c =
    let f = g.F.Field in
    let given = c.args.given.now in
    let word = low_words (g.W.Words.at given.words.now) in
    let circuit = given.plan.now.circuit.now in
    let b : AreBounded (params_of circuit) = subst AreBounded given.plan.now.are given.plan.now.bounded in
    let three : 3 ≤ (params_of circuit).nrow = omega (arith, b.rows) in
    c.column_nonce.ensures ∙ ap (λ p. nonce_at word p c.args.j) given.plan.now.are ∙ nonce_is f.ops f.coding circuit given.private.now word three c.args.j
