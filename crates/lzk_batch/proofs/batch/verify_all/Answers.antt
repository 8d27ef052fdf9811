use Rattle.std.proofs.Common.{◌∙◌}
use Rattle.lzk_batch.proofs.batch.verify_all.Goals as goal

pub verify_all_with_ids-requires-clause-ids : goal.verify_all_with_ids-requires-clause-ids
verify_all_with_ids-requires-clause-ids g c κs within = c.deref.ensures.value ∙ c.in-Ok.ensures

pub verify_all_with_ids-requires-clause-fit : goal.verify_all_with_ids-requires-clause-fit
verify_all_with_ids-requires-clause-fit g c κs within = c.requires.fit

pub verify_all_with_ids-requires-clause-jobs : goal.verify_all_with_ids-requires-clause-jobs
verify_all_with_ids-requires-clause-jobs g c κs within = c.requires.jobs

pub verify_all_with_ids-requires-clause-some : goal.verify_all_with_ids-requires-clause-some
verify_all_with_ids-requires-clause-some g c κs within = c.requires.some

pub verify_all_with_ids-requires-clause-few : goal.verify_all_with_ids-requires-clause-few
verify_all_with_ids-requires-clause-few g c κs within = c.requires.few

pub returns : goal.returns
returns g c = c.verify_all_with_ids.ensures

pub returns-in_default : goal.returns-in_default
returns-in_default g c = tt
