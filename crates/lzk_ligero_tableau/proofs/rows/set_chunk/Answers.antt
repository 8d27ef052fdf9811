use Rattle.std.proofs.Common.{◌≡◌, ◌*◌, length, arith}
use Rattle.lzk_ligero_tableau.specs.Tableau.{low_words}
use Rattle.lzk_ligero_tableau.proofs.ValueLaws.{filled_front}
use Rattle.lzk_ligero_tableau.proofs.rows.set_chunk.Goals as goal

pub returns : goal.returns
returns g c =
    let f = g.F.Field in
    let e = f.coding in
    let source = c.args.source.now in
    let size : length c.set_rows.new.rows ≡ c.args.count * source.given.now.plan.now.params.ncol = omega (arith, c.set_rows.auto.rows, c.split_at_mut-rows.ensures.front_len) in
    filled_front f.ops e (low_words (g.W.Words.at source.given.now.words.now)) source.given.now.plan.now.params source.elements.now c.args.first c.args.count c.set_rows.new.rows c.set_rows.new.room size c.set_rows.ensures

pub split_at_mut-rows-requires : goal.split_at_mut-rows-requires
split_at_mut-rows-requires g c = omega (arith, c.requires.room)

pub set_rows-requires-clause-room : goal.set_rows-requires-clause-room
set_rows-requires-clause-room g c = omega (arith, c.requires.room, c.split_at_mut-rows.ensures.back_len)

pub set_rows-requires-clause-inside : goal.set_rows-requires-clause-inside
set_rows-requires-clause-inside g c = omega (arith, c.requires.inside)

pub set_rows-requires-clause-rows : goal.set_rows-requires-clause-rows
set_rows-requires-clause-rows g c = omega (arith, c.split_at_mut-rows.ensures.front_len)
