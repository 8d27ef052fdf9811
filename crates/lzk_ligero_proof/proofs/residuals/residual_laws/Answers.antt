use Rattle.lzk_ligero_proof.proofs.Vanish.{vanish}
use Rattle.lzk_ligero_proof.proofs.residuals.residual_laws.Goals as goal

pub returns : goal.returns
returns g c = let f = g.F.Field in record { vanish = vanish f.ops f.coding f.laws }
