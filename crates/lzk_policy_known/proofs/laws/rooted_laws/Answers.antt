use Rattle.lzk_policy_known.proofs.Rooted.{under_held, passers_hold_shown, any_shown, few_shown}
use Rattle.lzk_policy_known.proofs.laws.rooted_laws.Goals as goal

pub returns-clause-held : goal.returns-clause-held
returns-clause-held c = under_held

pub returns-clause-holds : goal.returns-clause-holds
returns-clause-holds c = passers_hold_shown

pub returns-clause-any : goal.returns-clause-any
returns-clause-any c = any_shown

pub returns-clause-few : goal.returns-clause-few
returns-clause-few c = few_shown
