use Rattle.lzk_soundness.proofs.LigeroLaws.Columns.{columns_few}
use Rattle.lzk_soundness.proofs.LigeroLaws.Weights.{weights_few}
use Rattle.lzk_soundness.proofs.ligero.ligero_laws.Goals as goal

pub returns-clause-columns : goal.returns-clause-columns
returns-clause-columns g c = let m = g.F.Field in λ w public strategy draws test valid not only. columns_few m.ops m.coding w public strategy draws test valid not only

pub returns-clause-weights : goal.returns-clause-weights
returns-clause-weights g c = let m = g.F.Field in λ w public table valid publics unknowing large not. weights_few m.ops m.coding m.laws w public table valid publics unknowing large not
