use Rattle.std.proofs.Common.{◌<◌, ◌+◌, length, sym, ◌∙◌, arith, subst}
use Rattle.std.proofs.lemmas.List.{get_or_default, get_or_past}
use native.Mathlib.Decide.{dec_lt}
use Rattle.lzk_field.specs.Sums.{entry}
use Rattle.lzk_sumcheck.proofs.Filled.{IsFilled, filled_more}
use Rattle.lzk_sumcheck.proofs.ProvingLaws.{times-less}
use Rattle.lzk_sumcheck_rounds.proofs.terms.pad_values.Goals.{then-i-values, else-i-values}
use Rattle.lzk_sumcheck_rounds.proofs.terms.pad_values.Goals as goal

pub loop-i-init : goal.loop-i-init
loop-i-init g c = λ k h. absurd (omega (arith, h))

pub loop-i-preserved : goal.loop-i-preserved
loop-i-preserved g c =
    let o = g.F.Field.ops in
    let l = c.loop-i in
    let values = c.args.values.now in
    let inside : l.i < length l.table = omega (arith, c.loop-i-test.true, l.auto.table) in
    elim c.if-i-values.branch [
      | then-i-values w ↦
          subst (IsFilled o.zero (entry o values) (l.i + 1)) (sym w.table-is)
          (filled_more o.zero (entry o values) l.i l.table w.index-values-i.result inside (w.index-values-i.is ∙ get_or_default values l.i w.index-values-i.result o.zero w.if-i-values.true) l.invariant)
      | else-i-values w ↦
          subst (IsFilled o.zero (entry o values) (l.i + 1)) (sym w.table-is)
          (filled_more o.zero (entry o values) l.i l.table w.zero.result inside (w.zero.ensures ∙ sym (get_or_past values l.i o.zero w.if-i-values.false)) l.invariant)
    ]

pub returns : goal.returns
returns g c = λ k.
    let zero = g.F.Field.ops.zero in
    elim (dec_lt k c.loop-i.i) [
      | yes l ↦ c.loop-i.invariant k l
      | no l ↦
          get_or_past c.loop-i.table k zero (omega (arith, c.loop-i.auto.table, c.loop-i-test.false, l))
          ∙ sym (get_or_past c.args.values.now k zero (omega (arith, c.requires, c.loop-i-test.false, l)))
    ]

pub offset_bounds-table-i : goal.offset_bounds-table-i
offset_bounds-table-i g c = record { fits = times-less c.loop-i.i (length c.args.table.now) _ _ c.loop-i-test.true (omega arith) }

pub bounds-table-i : goal.bounds-table-i
bounds-table-i g c = omega (arith, c.loop-i-test.true, c.loop-i.auto.table)

pub offset_bounds-table-i-else-i-values : goal.offset_bounds-table-i-else-i-values
offset_bounds-table-i-else-i-values g c = record { fits = times-less c.loop-i.i (length c.args.table.now) _ _ c.loop-i-test.true (omega arith) }

pub bounds-table-i-else-i-values : goal.bounds-table-i-else-i-values
bounds-table-i-else-i-values g c = omega (arith, c.loop-i-test.true, c.loop-i.auto.table)
