use Rattle.std.proofs.Common.{◌<◌, ◌+◌, ◌*◌, ℕ, length, refl, ◌∙◌, arith, ◌≤◌}
use Rattle.std.proofs.Math.Nat.{mul-le-mul_left}
use Rattle.std.proofs.lemmas.List.{get_or_default, length-set}
use Rattle.lzk_field.specs.Sums.{entry}
use Rattle.lzk_sumcheck.proofs.Filled.{filled_more}
use Rattle.lzk_sumcheck.proofs.ProvingLaws.{times-less}
use Rattle.lzk_ligero_answers.proofs.Within.{row_place}
use Rattle.lzk_ligero_answers.proofs.rows.gather.Goals as goal

pub loop-i-init : goal.loop-i-init
loop-i-init g c = (refl, λ i h. absurd (omega (arith, h)))

pub bounds-table-first : goal.bounds-table-first
bounds-table-first g c =
    let a = c.args in
    row_place a.first c.loop-i.i (length a.column.now) a.width a.k (length a.table.now) c.loop-i-test.true c.requires.column c.requires.inside

pub loop-i-preserved : goal.loop-i-preserved
loop-i-preserved g c =
    let o = g.F.Field.ops in
    let a = c.args in
    let l = c.loop-i in
    let x = c.index-table-first.result in
    let within : (a.first + l.i) * a.width + a.k < length a.table.now = row_place a.first l.i (length a.column.now) a.width a.k (length a.table.now) c.loop-i-test.true c.requires.column c.requires.inside in (
      length-set l.column l.i x ∙ l.invariant.0,
      filled_more o.zero (λ (i : ℕ). entry o a.table.now ((a.first + i) * a.width + a.k)) l.i l.column x (omega (arith, c.loop-i-test.true, l.invariant.0))
          (c.index-table-first.is ∙ get_or_default a.table.now ((a.first + l.i) * a.width + a.k) x o.zero within) l.invariant.1,
    )

pub returns-clause-length : goal.returns-clause-length
returns-clause-length g c = c.loop-i.invariant.0

pub returns-clause-entries : goal.returns-clause-entries
returns-clause-entries g c = λ i h. c.loop-i.invariant.1 i (omega (arith, h, c.loop-i-test.false, c.loop-i.invariant.0))

pub overflow_add-column : goal.overflow_add-column
overflow_add-column g c =
    let a = c.args in
    let low : (a.first + c.loop-i.i) * a.width + a.k < length a.table.now = row_place a.first c.loop-i.i (length a.column.now) a.width a.k (length a.table.now) c.loop-i-test.true c.requires.column c.requires.inside in
    let some : 1 ≤ a.width = omega (arith, c.requires.column) in
    let grows : (a.first + c.loop-i.i) * 1 ≤ (a.first + c.loop-i.i) * a.width = mul-le-mul_left (a.first + c.loop-i.i) some in
    omega arith

pub overflow_mul-column : goal.overflow_mul-column
overflow_mul-column g c =
    let a = c.args in
    let low : (a.first + c.loop-i.i) * a.width + a.k < length a.table.now = row_place a.first c.loop-i.i (length a.column.now) a.width a.k (length a.table.now) c.loop-i-test.true c.requires.column c.requires.inside in
    omega arith

pub overflow_add-column-in-loop-i : goal.overflow_add-column-in-loop-i
overflow_add-column-in-loop-i g c =
    let a = c.args in
    let low : (a.first + c.loop-i.i) * a.width + a.k < length a.table.now = row_place a.first c.loop-i.i (length a.column.now) a.width a.k (length a.table.now) c.loop-i-test.true c.requires.column c.requires.inside in
    omega arith

pub offset_bounds-table-first : goal.offset_bounds-table-first
offset_bounds-table-first g c =
    let a = c.args in
    omega (arith, row_place a.first c.loop-i.i (length a.column.now) a.width a.k (length a.table.now) c.loop-i-test.true c.requires.column c.requires.inside)

pub offset_bounds-column-i : goal.offset_bounds-column-i
offset_bounds-column-i g c = record { fits = times-less c.loop-i.i (length c.args.column.now) _ _ c.loop-i-test.true (omega arith) }

pub bounds-column-i : goal.bounds-column-i
bounds-column-i g c = omega (arith, c.loop-i-test.true, c.loop-i.auto.column)
