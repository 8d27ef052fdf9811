use Rattle.std.proofs.Common.{◌≡◌, ◌≤◌, ap, ◌∙◌, arith}
use Rattle.std.specs.Int.{div_ceil}
use Rattle.lzk_layout.specs.Sizes.{sent_counts}
use Rattle.lzk_ligero_tableau.specs.Filled.{place_in_chunks}
use Rattle.lzk_ligero_tableau.specs.Tableau.{low_words, randoms}
use Rattle.lzk_ligero_tableau.proofs.TableauLaws.{table_is}
use Rattle.lzk_ligero_commit.proofs.filling.fill_table.Goals as goal

pub returns-clause-pads : goal.returns-clause-pads
returns-clause-pads g c =
    let f = g.F.Field in
    let e = f.coding in
    c.set_pads.ensures ∙ ap (randoms f.ops e (low_words (g.W.Words.at c.args.given.now.words.now)) 0) c.requires.pads

pub returns-clause-rows : goal.returns-clause-rows
returns-clause-rows g c =
    let f = g.F.Field in
    let e = f.coding in
    let word = low_words (g.W.Words.at c.args.given.now.words.now) in
    let p = c.args.given.now.plan.now.params in
    let three : 3 ≤ p.nrow = omega (arith, c.args.given.now.plan.now.bounded.rows) in
    let are : c.set_pads.new.pads ≡ randoms f.ops e word 0 (sent_counts c.args.given.now.plan.now.circuit.now) = c.set_pads.ensures ∙ ap (randoms f.ops e word 0) (c.requires.pads ∙ ap (λ q. q.nsum) c.args.given.now.plan.now.are) in
    table_is f.ops e c.args.given.now.plan.now.circuit.now c.args.given.now.private.now word p c.args.given.now.plan.now.are three c.fill_elements.new.elements c.extend_rows.new.table c.close_gaps.new.table
    (place_in_chunks (div_ceil p.nrow c.args.crew.now.workers) p.ncol c.args.room) (c.fill_elements.ensures.entries word are) c.extend_rows.ensures.rows c.close_gaps.ensures.rows
