use Rattle.lzk_soundness.proofs.RoundsLaws.Caught.{caught_without}
use Rattle.lzk_soundness.proofs.RoundsLaws.Few.{answers_few, degrees_few}
use Rattle.lzk_soundness.proofs.rounds.round_laws.Goals as goal

pub returns-clause-few : goal.returns-clause-few
returns-clause-few g c = let m = g.F.Field in λ w public list target messages step others answers n test ds valid publics count by enough only distinct. answers_few m.ops m.coding m.laws w public list target messages step others answers n test ds valid publics count by enough only distinct

pub returns-clause-caught : goal.returns-clause-caught
returns-clause-caught g c = let m = g.F.Field in λ w public list target draws messages valid publics count products is wrong long none vanish. caught_without m.ops m.coding m.laws w public list target draws messages valid publics count products is wrong long none vanish

pub returns-clause-degrees : goal.returns-clause-degrees
returns-clause-degrees g c = λ w. degrees_few w
