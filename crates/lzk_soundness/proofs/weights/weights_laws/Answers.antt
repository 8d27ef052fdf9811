use Rattle.lzk_soundness.proofs.WeightsLaws.Weights.{combinations_few}
use Rattle.lzk_soundness.proofs.weights.weights_laws.Goals as goal

pub returns : goal.returns
returns g c = let m = g.F.Field in λ constant gap n i wins ds h some only distinct. combinations_few m.laws constant gap n i wins ds h some only distinct
