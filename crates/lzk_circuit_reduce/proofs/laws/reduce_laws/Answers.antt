use Rattle.lzk_circuit_reduce.proofs.EachReduced.{some_reduced}
use Rattle.lzk_circuit_reduce.proofs.laws.reduce_laws.Goals as goal

pub returns : goal.returns
returns g c = let f = g.F.Field in record { some = some_reduced f.ops f.coding.size f.coding.number f.coding.element f.coding.bytes f.laws }
