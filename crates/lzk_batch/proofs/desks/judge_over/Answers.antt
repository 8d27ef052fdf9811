use Rattle.std.proofs.lemmas.Result.{IfOk-from_err}
use Rattle.lzk_batch.proofs.desks.judge_over.Goals as goal

pub ready-requires-clause-kept : goal.ready-requires-clause-kept
ready-requires-clause-kept g c κs within = c.requires.kept

pub ready-requires-clause-id : goal.ready-requires-clause-id
ready-requires-clause-id g c κs within = c.requires.id

pub returns-in_err-ready-clause-verdict : goal.returns-in_err-ready-clause-verdict
returns-in_err-ready-clause-verdict g c = IfOk-from_err _ _ c.from_residual.ensures.0

pub returns-in_err-ready-clause-one : goal.returns-in_err-ready-clause-one
returns-in_err-ready-clause-one g c = IfOk-from_err _ _ c.from_residual.ensures.0
