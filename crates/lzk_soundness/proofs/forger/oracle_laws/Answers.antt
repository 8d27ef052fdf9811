use Rattle.lzk_soundness.proofs.ForgerLaws.Forged.{steps_few, forgers_rare, forgers_by_tries}
use Rattle.lzk_soundness.proofs.ForgerLaws.Shares.{shares_small}
use Rattle.lzk_soundness.proofs.forger.oracle_laws.Goals as goal

pub returns-clause-rare : goal.returns-clause-rare
returns-clause-rare g c = let m = g.F.Field in λ w code questions tries by ask wins forger shares large. forgers_rare m.ops m.coding m.laws w code questions tries by ask wins forger shares large

pub returns-clause-shares : goal.returns-clause-shares
returns-clause-shares g c = let m = g.F.Field in λ w valid large. shares_small m.ops m.coding w valid large

pub returns-clause-tries : goal.returns-clause-tries
returns-clause-tries g c = let m = g.F.Field in λ w code questions tries ask wins forger large. forgers_by_tries m.ops m.coding m.laws w code questions tries ask wins forger large

pub returns-clause-steps : goal.returns-clause-steps
returns-clause-steps g c = let m = g.F.Field in λ w code questions by valid apart shares large not. steps_few m.ops m.coding m.laws w code questions by valid apart shares large not
