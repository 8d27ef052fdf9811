use Rattle.lzk_soundness.proofs.WholeLaws.Copies.{copies_caught, products_follow}
use Rattle.lzk_soundness.proofs.WholeLaws.Joining.{gaps_join}
use Rattle.lzk_soundness.proofs.WholeLaws.Wholes.{whole_rare}
use Rattle.lzk_soundness.proofs.whole.whole_laws.Goals as goal

pub returns-clause-rare : goal.returns-clause-rare
returns-clause-rare g c = let m = g.F.Field in whole_rare m.ops m.coding m.laws

pub returns-clause-joined : goal.returns-clause-joined
returns-clause-joined g c = let m = g.F.Field in gaps_join m.ops m.laws.ring

pub returns-clause-copies : goal.returns-clause-copies
returns-clause-copies g c = let m = g.F.Field in copies_caught m.ops m.coding m.laws

pub returns-clause-products : goal.returns-clause-products
returns-clause-products g c = let m = g.F.Field in products_follow m.ops m.laws.ring
