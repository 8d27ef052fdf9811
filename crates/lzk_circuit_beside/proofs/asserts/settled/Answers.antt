use Rattle.lzk_circuit_reduce.specs.Marks.{is_marked}
use Rattle.lzk_circuit_beside.proofs.AssertLaws.{none-cleared}
use Rattle.lzk_circuit_beside.proofs.asserts.settled.Goals as goal

pub returns-then-are_unmarked : goal.returns-then-are_unmarked
returns-then-are_unmarked g c =
    none-cleared g.F.Field.ops (is_marked c.args.marks.now) (λ k. c.are_unmarked.ensures c.if-are_unmarked.true k) c.args.terms.items
