use Rattle.lzk_soundness.proofs.RowsLaws.ColumnLaws.{columns_few}
use Rattle.lzk_soundness.proofs.RowsLaws.WeightLaws.{weights_few, gaps_unless_bad}
use Rattle.lzk_soundness.proofs.rows.bad_weights_laws.Goals as goal

pub returns-clause-weights : goal.returns-clause-weights
returns-clause-weights g c = let m = g.F.Field in weights_few m.ops m.laws.ring m.laws.field

pub returns-clause-gaps : goal.returns-clause-gaps
returns-clause-gaps g c = let m = g.F.Field in gaps_unless_bad m.ops m.coding m.laws

pub returns-clause-columns : goal.returns-clause-columns
returns-clause-columns g c = columns_few g.F.Field.laws
