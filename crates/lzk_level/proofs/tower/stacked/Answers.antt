use Rattle.std.proofs.lemmas.Result.{IfOk-from_err}
use Rattle.lzk_level.proofs.tower.stacked.Goals as goal

pub returns-in_err-tower : goal.returns-in_err-tower
returns-in_err-tower g c = IfOk-from_err _ _ c.from_residual.ensures.0

pub returns-in_err-raise_all : goal.returns-in_err-raise_all
returns-in_err-raise_all g c = IfOk-from_err _ _ c.from_residual-in_err-raise_all.ensures.0

pub raise_all-requires-clause-outputs : goal.raise_all-requires-clause-outputs
raise_all-requires-clause-outputs g c κs within = c.requires.outputs

pub raise_all-requires-clause-used : goal.raise_all-requires-clause-used
raise_all-requires-clause-used g c κs within = c.requires.used

pub raise_all-requires-clause-asserts : goal.raise_all-requires-clause-asserts
raise_all-requires-clause-asserts g c κs within = c.requires.asserts

pub raise_all-requires-clause-tower : goal.raise_all-requires-clause-tower
raise_all-requires-clause-tower g c κs within = c.in_ok-tower.ensures c.args.asserts.now

pub returns : goal.returns
returns g c = c.in_ok-raise_all.ensures
