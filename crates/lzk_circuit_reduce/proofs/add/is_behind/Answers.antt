use Rattle.lzk_circuit_reduce.proofs.InOrderLaws.{row-behind}
use Rattle.lzk_circuit_reduce.proofs.add.is_behind.Goals as goal

pub returns-in-Some-clause-row : goal.returns-in-Some-clause-row
returns-in-Some-clause-row g c width h nonzero wire order below after =
    row-behind g.F.Field.ops width c.args.row.now c.in-Some.last.now c.args.term c.in-Some.ensures.value h wire order below nonzero (c.is_before.ensures.yes after)
