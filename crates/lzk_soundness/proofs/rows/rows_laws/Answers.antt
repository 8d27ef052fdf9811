use Rattle.lzk_soundness.proofs.RowsLaws.Rows.{rows_satisfy}
use Rattle.lzk_soundness.proofs.rows.rows_laws.Goals as goal

pub returns : goal.returns
returns g c = let m = g.F.Field in record { satisfied = rows_satisfy m.ops m.coding m.laws }
