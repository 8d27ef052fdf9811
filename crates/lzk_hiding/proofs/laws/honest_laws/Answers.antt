use Rattle.lzk_hiding.proofs.Honest.{honest_passes}
use Rattle.lzk_hiding.proofs.laws.honest_laws.Goals as goal

pub returns : goal.returns
returns g k = let m = g.F.Field in λ c public private word valid counts satisfied. honest_passes m.ops m.coding m.laws c public private word valid counts satisfied
