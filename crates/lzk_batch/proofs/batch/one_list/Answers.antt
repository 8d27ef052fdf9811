use Rattle.std.proofs.Common.{◌≡◌, [], ◌∷◌, ◌++◌, ap, ◌∙◌}
use Rattle.std.proofs.lemmas.Result.{IfOk-from_err}
use Rattle.lzk_batch.proofs.batch.one_list.Goals as goal

pub returns-in_err-judged-clause-worked : goal.returns-in_err-judged-clause-worked
returns-in_err-judged-clause-worked c = IfOk-from_err _ _ c.from_residual.ensures.0

pub returns-in_err-lists-clause-worked : goal.returns-in_err-lists-clause-worked
returns-in_err-lists-clause-worked c = IfOk-from_err _ _ c.from_residual-in_err-lists.ensures.0

pub returns-in_err-push-clause-worked : goal.returns-in_err-push-clause-worked
returns-in_err-push-clause-worked c = IfOk-from_err _ _ c.from_residual-in_err-push.ensures.0

pub returns-clause-draws : goal.returns-clause-draws
returns-clause-draws c = c.work_alone.ensures.draws

pub returns-in_err-judged-clause-draws : goal.returns-in_err-judged-clause-draws
returns-in_err-judged-clause-draws c = c.work_alone.ensures.draws

pub returns-in_err-lists-clause-draws : goal.returns-in_err-lists-clause-draws
returns-in_err-lists-clause-draws c = c.work_alone.ensures.draws

pub returns-in_err-push-clause-draws : goal.returns-in_err-push-clause-draws
returns-in_err-push-clause-draws c = c.work_alone.ensures.draws

pub returns-clause-worked : goal.returns-clause-worked
returns-clause-worked c =
    let one : c.push.new.self.items ≡ c.in_ok-judged.judged ∷ [] = c.in_ok-push.ensures.items ∙ ap (λ xs. xs ++ c.in_ok-judged.judged ∷ []) c.in_ok-lists.ensures.items in
    rw one (c.in_ok-judged.ensures.worked, tt)
