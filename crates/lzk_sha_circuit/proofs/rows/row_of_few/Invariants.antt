use Rattle.std.proofs.Common.{drop}
use Rattle.lzk_goldilocks.specs.Elements.{ops}
use Rattle.lzk_sha_circuit.proofs.FewLaws.{IsSum}
use Rattle.lzk_sha_circuit.proofs.rows.row_of_few.Given as goal

abbrev pub invariant-loop-i : goal.invariant-loop-i
invariant-loop-i l = IsSum ops (drop l.i l.products) l.row.items
