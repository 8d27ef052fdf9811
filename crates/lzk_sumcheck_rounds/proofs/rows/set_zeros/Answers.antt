use Rattle.std.proofs.Common.{◌∙◌, refl, arith, length}
use Rattle.std.proofs.lemmas.List.{get_or_past, length-set}
use native.Mathlib.Decide.{dec_lt}
use Rattle.lzk_sumcheck.proofs.Filled.{filled_more}
use Rattle.lzk_sumcheck.proofs.ProvingLaws.{times-less}
use Rattle.lzk_sumcheck_rounds.proofs.rows.set_zeros.Goals as goal

pub loop-i-init : goal.loop-i-init
loop-i-init g c = (refl, λ k h. absurd (omega (arith, h)))

pub loop-i-preserved : goal.loop-i-preserved
loop-i-preserved g c =
    let zero = g.F.Field.ops.zero in
    let l = c.loop-i in
    (length-set l.rows l.i c.zero.result ∙ l.invariant.0, filled_more zero (λ k. zero) l.i l.rows c.zero.result (omega (arith, l.invariant.0, c.loop-i-test.true)) c.zero.ensures l.invariant.1)

pub returns : goal.returns
returns g c = λ k.
    let inv = c.loop-i.invariant in
    elim (dec_lt k c.loop-i.i) [
      | yes l ↦ inv.1 k l
      | no l ↦ get_or_past c.loop-i.rows k g.F.Field.ops.zero (omega (arith, inv.0, c.loop-i-test.false, l))
    ]

pub offset_bounds-rows-i : goal.offset_bounds-rows-i
offset_bounds-rows-i g c = record { fits = times-less c.loop-i.i (length c.args.rows.now) _ _ c.loop-i-test.true (omega arith) }

pub bounds-rows-i : goal.bounds-rows-i
bounds-rows-i g c = omega (arith, c.loop-i-test.true, c.loop-i.auto.rows)
