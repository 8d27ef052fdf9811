use Rattle.lzk_soundness.proofs.CountLaws.Numbers.{shortest_holds, short_holds, long_holds, longest_holds}
use Rattle.lzk_soundness.proofs.count.width_laws.Goals as goal

pub returns-clause-shortest : goal.returns-clause-shortest
returns-clause-shortest g c = let m = g.F.Field in shortest_holds m.ops m.coding m.laws

pub returns-clause-short : goal.returns-clause-short
returns-clause-short g c = let m = g.F.Field in short_holds m.ops m.coding m.laws

pub returns-clause-long : goal.returns-clause-long
returns-clause-long g c = let m = g.F.Field in long_holds m.ops m.coding m.laws

pub returns-clause-longest : goal.returns-clause-longest
returns-clause-longest g c = let m = g.F.Field in longest_holds m.ops m.coding m.laws
