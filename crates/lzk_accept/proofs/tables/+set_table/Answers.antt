use Rattle.std.proofs.Common.{◌≡◌, ◌*◌, ◌≤◌, ◌^◌, length, ap, sym, ◌∙◌, arith}
use Rattle.std.proofs.Math.Nat.{pow-succ'}
use Rattle.lzk_mle.specs.Multilinear.{eq}
use Rattle.lzk_accept.proofs.TableLaws.{table_split}
use Rattle.lzk_accept.proofs.tables.+set_table.Goals as goal

pub set_table-requires-clause-width : goal.set_table-requires-clause-width
set_table-requires-clause-width g t c κs within =
    let rest = c.in-Some.rest.now in
    let power : 2 ^ length c.args.r.now ≡ 2 * 2 ^ length rest = ap (λ xs. 2 ^ length xs) c.in-Some.ensures.cases.0 ∙ pow-succ' 2 (length rest) in
    omega (arith, power, c.requires.width, c.div_ceil-half.ensures)

pub set_table-requires-clause-room : goal.set_table-requires-clause-room
set_table-requires-clause-room g t c κs within =
    let rest = c.in-Some.rest.now in
    let power : 2 ^ length c.args.r.now ≡ 2 * 2 ^ length rest = ap (λ xs. 2 ^ length xs) c.in-Some.ensures.cases.0 ∙ pow-succ' 2 (length rest) in
    omega (arith, power, c.requires.room)

pub split_entries-requires-after_bounds : goal.split_entries-requires-after_bounds
split_entries-requires-after_bounds g t c κs within =
    let rest = c.in-Some.rest.now in
    let power : 2 ^ length c.args.r.now ≡ 2 * 2 ^ length rest = ap (λ xs. 2 ^ length xs) c.in-Some.ensures.cases.0 ∙ pow-succ' 2 (length rest) in
    omega (arith, power, c.requires.width, c.requires.room, c.div_ceil-half.ensures, c.set_table.ensures.length)

pub returns-clause-length : goal.returns-clause-length
returns-clause-length g t c = c.split_entries.ensures.length ∙ c.set_table.ensures.length

pub returns-clause-entries : goal.returns-clause-entries
returns-clause-entries g t c i h =
    let o = g.F.Field.ops in
    let x = c.in-Some.field-0-0.now in
    let rest = c.in-Some.rest.now in
    let half = c.div_ceil-half.result in
    let fits : c.args.width ≤ 2 * half = omega (arith, c.div_ceil-half.ensures) in
    table_split o g.F.Field.laws.ring x rest c.set_table.new.table c.split_entries.new.table c.args.width half fits
    c.set_table.ensures.entries c.split_entries.ensures.zeros c.split_entries.ensures.ones i h
    ∙ ap (eq o i) (sym c.in-Some.ensures.cases.0)
