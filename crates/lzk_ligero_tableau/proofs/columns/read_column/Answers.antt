use Rattle.std.proofs.Common.{◌<◌, ◌+◌, ◌*◌, ◌∙◌, ℕ, length, arith}
use Rattle.std.proofs.lemmas.List.{get_or_default}
use Rattle.std.proofs.lemmas.Nat.{mul-add-lt}
use Rattle.std.proofs.lemmas.List.FromFn.{fill_by_all}
use Rattle.lzk_field.specs.Sums.{entry}
use Rattle.lzk_ligero_tableau.proofs.FilledLaws.{filled_more}
use Rattle.lzk_ligero_tableau.proofs.columns.read_column.Goals as goal

pub returns : goal.returns
returns g c =
    let o = g.F.Field.ops in
    let p = c.args.table.now.params.now in
    fill_by_all (λ k. entry o c.args.table.now.rows.now (k * p.ncol + (p.dblock + c.args.j))) c.loop-i.out p.nrow o.zero (omega (arith, c.requires.room)) (λ k h. c.loop-i.invariant k (omega (arith, c.requires.room, h, c.loop-i-test.false)))

pub loop-i-init : goal.loop-i-init
loop-i-init g c = λ k h. absurd (omega (arith, h))

pub bounds-rows-i : goal.bounds-rows-i
bounds-rows-i g c =
    let t = c.args.table.now in
    let p = t.params.now in
    let row : c.loop-i.i < p.nrow = omega (arith, c.loop-i-test.true, c.loop-i.auto.out, c.requires.room) in
    let place : p.dblock + c.args.j < p.ncol = omega (arith, t.bounded.columns, c.requires.column) in
    omega (arith, mul-add-lt c.loop-i.i p.ncol (p.dblock + c.args.j) p.nrow row place, t.whole)

pub loop-i-preserved : goal.loop-i-preserved
loop-i-preserved g c =
    let o = g.F.Field.ops in
    let t = c.args.table.now in
    let p = t.params.now in
    let l = c.loop-i in
    let rows = t.rows.now in
    let row : l.i < p.nrow = omega (arith, c.loop-i-test.true, l.auto.out, c.requires.room) in
    let place : p.dblock + c.args.j < p.ncol = omega (arith, t.bounded.columns, c.requires.column) in
    let within : l.i * p.ncol + (p.dblock + c.args.j) < length rows = omega (arith, mul-add-lt l.i p.ncol (p.dblock + c.args.j) p.nrow row place, t.whole) in
    let x = c.index-rows-i.result in
    filled_more o.zero (λ (k : ℕ). entry o rows (k * p.ncol + (p.dblock + c.args.j))) l.i l.out x (omega (arith, c.loop-i-test.true, l.auto.out))
    (c.index-rows-i.is ∙ get_or_default rows (l.i * p.ncol + (p.dblock + c.args.j)) x o.zero within) l.invariant
