use Rattle.std.proofs.Common.{sym, ap, ◌∙◌, refl, arith, length}
use Rattle.std.proofs.lemmas.List.{get_or_past, length-set}
use native.Mathlib.Decide.{dec_lt}
use Rattle.lzk_field.specs.Sums.{entry}
use Rattle.lzk_field.proofs.RingBasics.{times_zero}
use Rattle.lzk_sumcheck.proofs.Filled.{filled_more}
use Rattle.lzk_sumcheck.proofs.ProvingLaws.{times-less}
use Rattle.lzk_sumcheck_rounds.proofs.rows.set_multiples.Goals as goal

pub loop-i-init : goal.loop-i-init
loop-i-init g c = (refl, λ k h. absurd (omega (arith, h)))

pub loop-i-preserved : goal.loop-i-preserved
loop-i-preserved g c =
    let o = g.F.Field.ops in
    let l = c.loop-i in
    let x = c.product_of.result in (
      length-set l.rows l.i x ∙ l.invariant.0,
      filled_more o.zero (λ k. o.times c.args.factor (entry o c.args.list.now k)) l.i l.rows x (omega (arith, l.invariant.0, c.loop-i-test.true)) (c.product_of.ensures ∙ ap (o.times c.args.factor) c.entry_at.ensures) l.invariant.1,
    )

pub returns : goal.returns
returns g c = λ k.
    let m = g.F.Field in
    let o = m.ops in
    let inv = c.loop-i.invariant in
    elim (dec_lt k c.loop-i.i) [
      | yes l ↦ inv.1 k l
      | no l ↦
          get_or_past c.loop-i.rows k o.zero (omega (arith, inv.0, c.loop-i-test.false, l))
          ∙ sym (ap (o.times c.args.factor) (get_or_past c.args.list.now k o.zero (omega (arith, inv.0, c.loop-i-test.false, c.requires, l))) ∙ times_zero o m.laws.ring c.args.factor)
    ]

pub offset_bounds-rows-i : goal.offset_bounds-rows-i
offset_bounds-rows-i g c = record { fits = times-less c.loop-i.i (length c.args.rows.now) _ _ c.loop-i-test.true (omega arith) }

pub bounds-rows-i : goal.bounds-rows-i
bounds-rows-i g c = omega (arith, c.loop-i-test.true, c.loop-i.auto.rows)
