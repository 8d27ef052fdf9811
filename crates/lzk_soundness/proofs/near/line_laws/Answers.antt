use Rattle.lzk_soundness.proofs.NearLaws.Lines.{lines_few}
use Rattle.lzk_soundness.proofs.near.line_laws.Goals as goal

pub returns : goal.returns
returns g c = let m = g.F.Field in record { lines = lines_few m.ops m.laws.ring m.laws.field }
