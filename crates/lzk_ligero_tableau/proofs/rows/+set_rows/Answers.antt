use Rattle.std.proofs.Common.{◌≡◌, ◌≤◌, ◌*◌, length, arith, mul-le-mul_right}
use Rattle.lzk_ligero_tableau.specs.Tableau.{low_words}
use Rattle.lzk_ligero_tableau.proofs.ValueLaws.{one_more}
use Rattle.lzk_ligero_tableau.proofs.rows.+set_rows.Goals as goal

pub returns : goal.returns
returns g t c =
    let f = g.F.Field in
    let e = f.coding in
    let source = c.args.source.now in
    let size : length c.set_row.new.row ≡ source.given.now.plan.now.params.ncol = omega (arith, c.set_row.auto.row, c.split_at_mut-row.ensures.front_len) in
    one_more f.ops e (low_words (g.W.Words.at source.given.now.words.now)) source.given.now.plan.now.params source.elements.now c.args.first c.args.count c.set_row.new.row c.set_rows.new.rows (omega arith) size c.set_row.ensures c.set_rows.ensures

pub split_at_mut-row-requires : goal.split_at_mut-row-requires
split_at_mut-row-requires g t c =
    let width = c.args.source.now.given.now.plan.now.params.ncol in
    let low : 1 * width ≤ c.args.count * width = mul-le-mul_right width (omega (arith, c.if-count-eq0.false)) in
    omega (arith, low, c.requires.rows)

pub set_row-requires-clause-room : goal.set_row-requires-clause-room
set_row-requires-clause-room g t c = omega (arith, c.requires.room)

pub set_row-requires-clause-inside : goal.set_row-requires-clause-inside
set_row-requires-clause-inside g t c = omega (arith, c.requires.inside, c.if-count-eq0.false)

pub set_row-requires-clause-row : goal.set_row-requires-clause-row
set_row-requires-clause-row g t c = omega (arith, c.split_at_mut-row.ensures.front_len)

pub set_rows-requires-clause-room : goal.set_rows-requires-clause-room
set_rows-requires-clause-room g t c = omega (arith, c.requires.room, c.set_row.auto.room)

pub set_rows-requires-clause-inside : goal.set_rows-requires-clause-inside
set_rows-requires-clause-inside g t c = omega (arith, c.requires.inside, c.if-count-eq0.false)

pub returns-then-count-eq0 : goal.returns-then-count-eq0
returns-then-count-eq0 g t c = record { values = λ i k h q. absurd (omega (arith, h, c.if-count-eq0.true)) }
