use Rattle.std.proofs.Common.{◌∙◌, refl, arith, length}
use Rattle.std.proofs.lemmas.List.{length-set}
use Rattle.lzk_sumcheck.proofs.Filled.{filled_more}
use Rattle.lzk_sumcheck.proofs.ProvingLaws.{times-less}
use Rattle.lzk_ligero_answers.proofs.rows.clear.Goals as goal

pub loop-k-init : goal.loop-k-init
loop-k-init g c = (refl, λ k h. absurd (omega (arith, h)))

pub loop-k-preserved : goal.loop-k-preserved
loop-k-preserved g c =
    let zero = g.F.Field.ops.zero in
    let l = c.loop-k in
    (length-set l.list l.k c.zero.result ∙ l.invariant.0, filled_more zero (λ k. zero) l.k l.list c.zero.result (omega (arith, c.loop-k-test.true, l.invariant.0)) c.zero.ensures l.invariant.1)

pub returns-clause-length : goal.returns-clause-length
returns-clause-length g c = c.loop-k.invariant.0

pub returns-clause-entries : goal.returns-clause-entries
returns-clause-entries g c = λ k h. c.loop-k.invariant.1 k (omega (arith, h, c.loop-k-test.false, c.loop-k.invariant.0))

pub offset_bounds-list-k : goal.offset_bounds-list-k
offset_bounds-list-k g c = record { fits = times-less c.loop-k.k (length c.args.list.now) _ _ c.loop-k-test.true (omega arith) }

pub bounds-list-k : goal.bounds-list-k
bounds-list-k g c = omega (arith, c.loop-k-test.true, c.loop-k.auto.list)
