use Rattle.lzk_soundness.proofs.DrawsLaws.Example.{some_forger}
use Rattle.lzk_soundness.proofs.DrawsLaws.Forgers.{forgers_few}
use Rattle.lzk_soundness.proofs.DrawsLaws.Most.{most_is}
use Rattle.lzk_soundness.proofs.draws.forger_laws.Goals as goal

pub returns-clause-few : goal.returns-clause-few
returns-clause-few g c = let m = g.F.Field in forgers_few m.ops m.coding m.laws

pub returns-clause-most : goal.returns-clause-most
returns-clause-most g c = λ w. most_is w

pub returns-clause-some : goal.returns-clause-some
returns-clause-some g c = let m = g.F.Field in some_forger m.ops m.coding m.laws
