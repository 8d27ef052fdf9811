use Rattle.std.proofs.Common.{rules, ◌∙◌, ap, ◌%◌, ◌^◌}
use Rattle.lzk_circuit_reduce.specs.Hash.{mixed}
use Rattle.lzk_circuit_reduce.proofs.HashLaws.{hash-step, hash-ends}
use Rattle.lzk_circuit_reduce.proofs.kept.hash_of.Goals as goal

pub loop-term-preserved : goal.loop-term-preserved
loop-term-preserved g c =
    let t = c.term-item.result in
    let x = c.mixed-hash.result in
    let y = c.mixed-hash-in-loop-term.result in
    hash-step g.F.Field.coding.number c.args.row.now c.loop-term.term-index t c.loop-term.hash x y c.mixed-hash-in-loop-term-2.result _
    (search rules) c.term-item.is
    (c.mixed-hash.ensures ∙ ap (mixed c.loop-term.hash) c.from.ensures)
    (c.mixed-hash-in-loop-term.ensures ∙ ap (mixed x) c.from-in-loop-term.ensures)
    (c.mixed-hash-in-loop-term-2.ensures ∙ ap (λ n. mixed y (n % 2 ^ 64)) c.number.ensures)
    c.loop-term.invariant

pub returns : goal.returns
returns g c = hash-ends g.F.Field.coding.number c.args.row.now c.loop-term.term-index c.loop-term.hash _ (search rules) c.loop-term.invariant
