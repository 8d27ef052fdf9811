use Rattle.std.proofs.Common.{inl, arith, length}
use Rattle.lzk_circuit_reduce.proofs.AllUsedLaws.{named-more}
use Rattle.lzk_circuit_reduce.proofs.InOrderLaws.{over-at}
use Rattle.lzk_circuit_reduce.proofs.marks.mark_named.Goals as goal

pub loop-i-init : goal.loop-i-init
loop-i-init g c k h = inl h

pub mark_both-requires-clause-first : goal.mark_both-requires-clause-first
mark_both-requires-clause-first g c =
    let over = over-at (length c.args.marks.now) c.loop-i.i c.args.terms.now c.index-terms-i.result c.loop-i-test.true c.requires in
    omega (arith, over.0, c.loop-i.auto.marks)

pub mark_both-requires-clause-second : goal.mark_both-requires-clause-second
mark_both-requires-clause-second g c =
    let over = over-at (length c.args.marks.now) c.loop-i.i c.args.terms.now c.index-terms-i-in-loop-i.result c.loop-i-test.true c.requires in
    omega (arith, over.1, c.loop-i.auto.marks)

pub loop-i-preserved : goal.loop-i-preserved
loop-i-preserved g c =
    named-more c.args.terms.now c.loop-i.i c.index-terms-i.result c.index-terms-i-in-loop-i.result c.args.marks.now c.loop-i.marks c.mark_both.new.marks c.loop-i-test.true
    c.mark_both.ensures c.loop-i.invariant

pub returns : goal.returns
returns g c = c.loop-i.invariant
