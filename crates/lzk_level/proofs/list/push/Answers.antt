use Rattle.lzk_level.proofs.FlatGateLaws.{not-on-ok, on-err}
use Rattle.lzk_level.proofs.list.push.Goals as goal

pub returns-in_err-push-clause-added : goal.returns-in_err-push-clause-added
returns-in_err-push-clause-added g c = not-on-ok _ c.from_residual.result _ c.from_residual.ensures.1

pub returns-in_err-push-clause-same : goal.returns-in_err-push-clause-same
returns-in_err-push-clause-same g c = on-err c.from_residual.result c.in_err-push.ensures.items

pub returns-clause-added : goal.returns-clause-added
returns-clause-added g c = c.in_ok-push.ensures.items
