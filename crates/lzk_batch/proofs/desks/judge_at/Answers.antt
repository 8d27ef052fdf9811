use Rattle.std.proofs.Common.{◌≤◌, length, ap, sym, subst, ◌∙◌}
use Rattle.lzk_batch.proofs.desks.judge_at.Goals as goal

pub verify-requires-clause-session : goal.verify-requires-clause-session
verify-requires-clause-session g c κs within = subst (λ xs. length xs ≤ 64) (sym c.deref.ensures.value) c.requires.session

pub verify-requires-clause-public : goal.verify-requires-clause-public
verify-requires-clause-public g c κs within = ap length c.deref-2.ensures.value ∙ c.requires.public
