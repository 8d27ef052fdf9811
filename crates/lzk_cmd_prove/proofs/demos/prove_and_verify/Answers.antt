use Rattle.std.proofs.lemmas.Result.{IfOk-from_err}
use Rattle.lzk_cmd_prove.proofs.demos.prove_and_verify.Goals as goal

pub with_id-requires-clause-id : goal.with_id-requires-clause-id
with_id-requires-clause-id g c κs within = c.in_ok-id.ensures

pub judge_own_proof-judged-requires-clause-id : goal.judge_own_proof-judged-requires-clause-id
judge_own_proof-judged-requires-clause-id g c κs within = c.in_ok-id.ensures

pub judge_own_proof-judged-requires-clause-works : goal.judge_own_proof-judged-requires-clause-works
judge_own_proof-judged-requires-clause-works g c κs within = c.in_ok-works.ensures

pub returns-in_err-id : goal.returns-in_err-id
returns-in_err-id g c = IfOk-from_err _ _ c.from_residual.ensures.0

pub returns-in_err-works : goal.returns-in_err-works
returns-in_err-works g c = IfOk-from_err _ _ c.from_residual-in_err-works.ensures.0

pub returns : goal.returns
returns g c = c.judge_own_proof-judged.ensures
