use Rattle.lzk_soundness.proofs.ChanceLaws.FewLaws.{roots_few, agree_few, slopes_few, shifts_few}
use Rattle.lzk_soundness.proofs.chance.root_laws.Goals as goal

pub returns-clause-roots : goal.returns-clause-roots
returns-clause-roots g c = let m = g.F.Field in roots_few m.ops m.laws.ring m.laws.field

pub returns-clause-agree : goal.returns-clause-agree
returns-clause-agree g c = let m = g.F.Field in agree_few m.ops m.laws.ring m.laws.field

pub returns-clause-slopes : goal.returns-clause-slopes
returns-clause-slopes g c = let m = g.F.Field in slopes_few m.ops m.laws.ring m.laws.field

pub returns-clause-shifts : goal.returns-clause-shifts
returns-clause-shifts g c = let m = g.F.Field in shifts_few m.ops m.laws.ring m.laws.field
