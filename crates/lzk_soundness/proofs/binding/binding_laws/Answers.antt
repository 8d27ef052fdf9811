use Rattle.lzk_soundness.proofs.BindingLaws.Openings.{leaves_bind, columns_bind, files_bind, columns_tell}
use Rattle.lzk_soundness.proofs.binding.binding_laws.Goals as goal

pub returns-clause-leaves : goal.returns-clause-leaves
returns-clause-leaves g c = leaves_bind

pub returns-clause-columns : goal.returns-clause-columns
returns-clause-columns g c = let m = g.F.Field in λ p x y columns others k l first second root hk hl place differ. columns_bind m.ops m.coding p x y columns others k l first second root hk hl place differ

pub returns-clause-files : goal.returns-clause-files
returns-clause-files g c = let m = g.F.Field in files_bind m.ops m.coding

pub returns-clause-apart : goal.returns-clause-apart
returns-clause-apart g c = let m = g.F.Field in λ p x y k l nx ny long same. columns_tell m.ops m.coding m.laws.numbers p x y k l nx ny long same
