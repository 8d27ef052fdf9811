use Rattle.std.proofs.Common.{arith}
use Rattle.std.proofs.lemmas.List.{get_or_past}
use native.Mathlib.Decide.{dec_lt}
use Rattle.lzk_ligero_tableau.proofs.FilledLaws.{filled_more}
use Rattle.lzk_ligero_tableau.proofs.values.clear.Goals as goal

pub loop-k-init : goal.loop-k-init
loop-k-init g c = λ j h. absurd (omega (arith, h))

pub loop-k-preserved : goal.loop-k-preserved
loop-k-preserved g c =
    let zero = g.F.Field.ops.zero in
    let l = c.loop-k in
    filled_more zero (λ j. zero) l.k l.list c.zero.result (omega (arith, c.loop-k-test.true, l.auto.list)) c.zero.ensures l.invariant

pub returns-clause-length : goal.returns-clause-length
returns-clause-length g c = c.loop-k.auto.list

pub returns-clause-entries : goal.returns-clause-entries
returns-clause-entries g c = λ k.
    elim (dec_lt k c.loop-k.k) [
      | yes l ↦ c.loop-k.invariant k l
      | no l ↦ get_or_past c.loop-k.list k g.F.Field.ops.zero (omega (arith, c.loop-k.auto.list, c.loop-k-test.false, l))
    ]
