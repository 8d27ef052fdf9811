use Rattle.std.proofs.Common.{◌≡◌, suc, ◌-◌, ap, ◌∙◌, arith}
use Rattle.lzk_ligero_tableau.specs.Filled.{filled_row}
use Rattle.lzk_ligero_tableau.specs.Tableau.{low_words}
use Rattle.lzk_ligero_tableau.proofs.rows.set_values.Goals as goal

pub returns-in_default : goal.returns-in_default
returns-in_default g c =
    let f = g.F.Field in
    let e = f.coding in
    let source = c.args.source.now in
    let number : suc (suc (suc (c.args.r - 3))) ≡ c.args.r = omega arith in
    c.set_element_row.ensures ∙ ap (filled_row f.ops e (low_words (g.W.Words.at source.given.now.words.now)) source.given.now.plan.now.params source.elements.now) number

pub returns-in-2 : goal.returns-in-2
returns-in-2 g c =
    let f = g.F.Field in
    let source = c.args.source.now in
    let number : 2 ≡ c.args.r = omega arith in
    c.set_row2.ensures ∙ ap (filled_row f.ops f.coding (low_words (g.W.Words.at source.given.now.words.now)) source.given.now.plan.now.params source.elements.now) number
