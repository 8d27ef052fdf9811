use Rattle.std.proofs.Common.{◌∙◌, ap, sym, subst, length, ◌++◌, ◌∷◌, []}
use Rattle.std.proofs.lemmas.Result.{on_ok_weaker, on_err_weaker}
use Rattle.lzk_level.specs.FlatGates.{gates_in, AreSpanned}
use Rattle.lzk_level.specs.Gates.{Combine}
use Rattle.lzk_level.proofs.FlatGateLaws.{gates-with, not-on-ok, on-err, spanned-either, spanned-with, sum-more, sum-spanned}
use Rattle.lzk_level.proofs.gates.Gates.push_sum.Goals as goal

pub invariant_of-self : goal.invariant_of-self
invariant_of-self g c = subst (λ ps. AreSpanned (length ps) c.self.inside.made.items) (sym c.in_err-sum.ensures.same) c.self.invariant

pub returns-in_err-sum-clause-added : goal.returns-in_err-sum-clause-added
returns-in_err-sum-clause-added g c = not-on-ok _ c.from_residual.result _ c.from_residual.ensures.1

pub returns-in_err-sum-clause-same : goal.returns-in_err-sum-clause-same
returns-in_err-sum-clause-same g c = on-err c.from_residual.result (ap (λ ps. gates_in ps c.self.inside.made.items) c.in_err-sum.ensures.same ∙ c.self.view_is)

pub invariant_of-self-2 : goal.invariant_of-self-2
invariant_of-self-2 g c =
    let old = c.self.inside in
    let ps = old.parts.items in
    let new = c.append.new.list.items in
    let e = c.in_ok-sum.ensures in
    spanned-either c.push.result (length new) old.made.items c.push.new.list.items c.in_ok-sum.sum (spanned-with ps new c.args.parts.now old.made.items e.added c.self.invariant) (sum-spanned ps new c.args.parts.now c.in_ok-sum.sum e.added e.sum)
    c.push.ensures.added c.push.ensures.same

pub returns-clause-added : goal.returns-clause-added
returns-clause-added g c =
    let old = c.self.inside in
    let ps = old.parts.items in
    let new = c.append.new.list.items in
    let e = c.in_ok-sum.ensures in
    on_ok_weaker c.push.result
    (λ m. sum-more ps new c.args.parts.now old.made.items c.push.new.list.items c.in_ok-sum.sum c.self.invariant e.added e.sum m ∙ ap (λ gs. gs ++ Combine c.args.parts.now ∷ []) c.self.view_is)
    c.push.ensures.added

pub returns-clause-same : goal.returns-clause-same
returns-clause-same g c =
    let old = c.self.inside in
    let new = c.append.new.list.items in
    on_err_weaker c.push.result (λ m. ap (gates_in new) m ∙ gates-with old.parts.items new c.args.parts.now old.made.items c.in_ok-sum.ensures.added c.self.invariant ∙ c.self.view_is) c.push.ensures.same
