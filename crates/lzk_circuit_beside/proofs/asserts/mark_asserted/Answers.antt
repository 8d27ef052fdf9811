use Rattle.std.proofs.Common.{◌∙◌, ◌+◌, ◌-◌, ◌==◌, ap, arith, None}
use Rattle.std.specs.Prelude.{◌&&◌, ◌||◌}
use Rattle.lzk_circuit.specs.declared.layer.Term.{Term}
use Rattle.lzk_circuit.proofs.OrderLaws.{placed-at}
use Rattle.lzk_circuit_reduce.specs.Marks.{is_marked}
use Rattle.lzk_circuit_beside.proofs.LayerLaws.{next-asserted}
use Rattle.lzk_circuit_beside.proofs.asserts.mark_asserted.Goals as goal

pub mark_term-requires-clause-within : goal.mark_term-requires-clause-within
mark_term-requires-clause-within g c κs within =
    let i = c.loop-i.i - 1 in
    let t = c.index-terms-i.result in
    let one = placed-at c.requires.terms.0 c.requires.terms.1 i None c.args.terms.now t c.requires.terms.2 (omega (arith, c.loop-i-test.true)) in
    omega (arith, one.g, c.requires.terms.3, c.loop-i.invariant.count, ap (λ (u : Term g.row.F.Denot). u.g) c.index-terms-i.is)

pub loop-i-preserved : goal.loop-i-preserved
loop-i-preserved g c =
    record {
      count = c.mark_term.ensures.count ∙ c.loop-i.invariant.count;
      before = λ k l. c.mark_term.ensures.before k l ∙ c.loop-i.invariant.before k l;
      own = λ k. c.mark_term.ensures.own k ∙ ap (λ b. ((g.F.Field.coding.number c.index-terms-i.result.coef == 0) && (c.index-terms-i.result.g == k)) || b) (c.loop-i.invariant.own k)
          ∙ next-asserted g.F.Field.coding.number c.args.terms.now c.loop-i.i (c.loop-i.i - 1) c.index-terms-i.result k (is_marked c.args.marks.now.items (c.args.start + k)) (omega (arith, c.loop-i-test.true)) (omega (arith, c.loop-i-test.true)) c.index-terms-i.is;
    }
