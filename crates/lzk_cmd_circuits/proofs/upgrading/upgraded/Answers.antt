use Rattle.std.proofs.lemmas.Result.{IfOk-from_err}
use Rattle.lzk_cmd_circuits.proofs.upgrading.upgraded.Goals as goal

pub returns-in_err-bytes-clause-file : goal.returns-in_err-bytes-clause-file
returns-in_err-bytes-clause-file c = IfOk-from_err _ _ c.from_residual.ensures.0

pub returns-in_err-bytes-clause-text : goal.returns-in_err-bytes-clause-text
returns-in_err-bytes-clause-text c = IfOk-from_err _ _ c.from_residual.ensures.0

pub returns-in_err-text-clause-file : goal.returns-in_err-text-clause-file
returns-in_err-text-clause-file c = IfOk-from_err _ _ c.from_residual-in_err-text.ensures.0

pub returns-in_err-text-clause-text : goal.returns-in_err-text-clause-text
returns-in_err-text-clause-text c = IfOk-from_err _ _ c.from_residual-in_err-text.ensures.0
