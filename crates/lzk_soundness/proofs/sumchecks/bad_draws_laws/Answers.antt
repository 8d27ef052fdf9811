use Rattle.lzk_soundness.proofs.SumchecksLaws.BadLaws.{joins_few, betas_few, rounds_few, bindings_few}
use Rattle.lzk_soundness.proofs.sumchecks.bad_draws_laws.Goals as goal

pub returns-clause-joins : goal.returns-clause-joins
returns-clause-joins g c = let m = g.F.Field in joins_few m.ops m.laws.ring m.laws.field

pub returns-clause-betas : goal.returns-clause-betas
returns-clause-betas g c = let m = g.F.Field in betas_few m.ops m.laws.ring m.laws.field

pub returns-clause-rounds : goal.returns-clause-rounds
returns-clause-rounds g c = let m = g.F.Field in rounds_few m.laws

pub returns-clause-bindings : goal.returns-clause-bindings
returns-clause-bindings g c = let m = g.F.Field in bindings_few m.ops m.laws.ring m.laws.field
