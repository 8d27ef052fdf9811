use Rattle.std.proofs.Common.{◌∙◌, ◌++◌, ◌∷◌, [], ap, arith}
use Rattle.lzk_circuit_reduce.specs.Marks.{is_marked}
use Rattle.lzk_circuit_reduce.proofs.RowLaws.{map-more, all-mapped}
use Rattle.lzk_circuit_beside.specs.Asserts.{cleared_term}
use Rattle.lzk_circuit_beside.proofs.asserts.cleared.Goals as goal

pub loop-i-preserved : goal.loop-i-preserved
loop-i-preserved g c =
    let o = g.F.Field.ops in
    let before = c.loop-i.all.items in
    map-more (cleared_term o (is_marked c.args.marks.now)) c.args.terms.now before c.push.new.self.items c.loop-i.i c.index-terms-i.result c.loop-i-test.true c.index-terms-i.is
    (c.in_ok-push.ensures.items ∙ ap (λ x. before ++ x ∷ []) c.cleared_term.ensures) c.loop-i.invariant

pub returns : goal.returns
returns g c =
    let o = g.F.Field.ops in
    all-mapped (cleared_term o (is_marked c.args.marks.now)) c.args.terms.now c.loop-i.all.items c.loop-i.i (omega (arith, c.loop-i-test.false)) c.loop-i.invariant
