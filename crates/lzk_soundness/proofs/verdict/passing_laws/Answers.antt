use Rattle.lzk_soundness.proofs.VerdictLaws.Accepted.{accepted_passes}
use Rattle.lzk_soundness.proofs.verdict.passing_laws.Goals as goal

pub returns : goal.returns
returns g c = let m = g.F.Field in λ c session public bytes valid. accepted_passes m.ops m.coding c session public bytes valid
