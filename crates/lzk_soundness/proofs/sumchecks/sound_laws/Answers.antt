use Rattle.lzk_soundness.proofs.SumchecksLaws.Soundness.{shown_unless_bad, satisfied_unless_bad}
use Rattle.lzk_soundness.proofs.sumchecks.sound_laws.Goals as goal

pub returns-clause-shown : goal.returns-clause-shown
returns-clause-shown g c = let m = g.F.Field in shown_unless_bad m.ops m.coding m.laws

pub returns-clause-satisfied : goal.returns-clause-satisfied
returns-clause-satisfied g c = let m = g.F.Field in satisfied_unless_bad m.ops m.coding m.laws
