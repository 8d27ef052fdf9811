use Rattle.std.proofs.Common.{◌∙◌, ◌++◌, ◌∷◌, [], ap, arith}
use Rattle.lzk_circuit.specs.Wires.{zero_of, weighed_term}
use Rattle.lzk_circuit_reduce.proofs.RowLaws.{map-more, all-mapped}
use Rattle.lzk_circuit_beside.proofs.asserts.weighed_terms.Goals as goal

pub loop-i-preserved : goal.loop-i-preserved
loop-i-preserved g c =
    let o = g.F.Field.ops in
    let t = c.index-terms-i.result in
    let before = c.loop-i.all.items in
    map-more (weighed_term o o.one) c.args.terms.now before c.push.new.self.items c.loop-i.i t c.loop-i-test.true c.index-terms-i.is
    (c.in_ok-push.ensures.items ∙ ap (λ x. before ++ record { g = t.g; a = t.a; b = t.b; coef = x } ∷ []) (c.weight_of-coef.ensures ∙ ap (λ y. o.plus t.coef (o.times y (zero_of o t.coef))) c.one.ensures)) c.loop-i.invariant

pub returns : goal.returns
returns g c =
    let o = g.F.Field.ops in
    all-mapped (weighed_term o o.one) c.args.terms.now c.loop-i.all.items c.loop-i.i (omega (arith, c.loop-i-test.false)) c.loop-i.invariant
