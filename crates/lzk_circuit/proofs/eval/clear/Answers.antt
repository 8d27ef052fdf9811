use Rattle.std.proofs.Common.{inl, inr, arith}
use Rattle.std.proofs.lemmas.Bool.{cases_lt}
use Rattle.std.proofs.lemmas.List.{get_or_past}
use Rattle.lzk_circuit.proofs.LayerLaws.{clear-more}
use Rattle.lzk_circuit.proofs.eval.clear.Goals as goal

pub loop-wire-preserved : goal.loop-wire-preserved
loop-wire-preserved g c = clear-more g.F.Field.ops.zero c.loop-wire.wire-index c.zero.result c.loop-wire.out (omega (arith, c.loop-wire-test.true, c.loop-wire.auto.out)) c.zero.ensures c.loop-wire.invariant

pub returns-clause-zero : goal.returns-clause-zero
returns-clause-zero g c = λ k.
    elim (cases_lt k c.loop-wire.wire-index) [
      | inl lt ↦ c.loop-wire.invariant k lt
      | inr le ↦ get_or_past c.loop-wire.out k g.F.Field.ops.zero (omega (arith, le, c.loop-wire-test.false, c.loop-wire.auto.out))
    ]
