use Rattle.std.proofs.Common.{◌∙◌, ◌++◌, ◌∷◌, [], ap, ap₂, length, arith}
use Rattle.std.proofs.lemmas.List.{map-append}
use Rattle.std.proofs.lemmas.Result.{on_ok_weaker, on_err_weaker}
use Rattle.lzk_level.specs.FlatGates.{gate_in, gates_in}
use Rattle.lzk_level.proofs.FlatGateLaws.{kept, wider, spanned-either}
use Rattle.lzk_level.proofs.gates.Gates.push_alone.Goals as goal

pub invariant_of-self : goal.invariant_of-self
invariant_of-self g c =
    let old = c.self.inside in
    let n = length old.parts.items in
    spanned-either c.push.result n old.made.items c.push.new.list.items c.args.gate c.self.invariant (wider 0 n c.args.gate (omega arith) c.requires) c.push.ensures.added c.push.ensures.same

pub returns-clause-added : goal.returns-clause-added
returns-clause-added g c =
    let old = c.self.inside in
    let ps = old.parts.items in
    let gate = c.args.gate in
    on_ok_weaker c.push.result
    (λ e. ap (gates_in ps) e ∙ map-append (gate_in ps) old.made.items (gate ∷ []) ∙ ap₂ (λ gs x. gs ++ x ∷ []) c.self.view_is (kept [] ps gate c.requires))
    c.push.ensures.added

pub returns-clause-same : goal.returns-clause-same
returns-clause-same g c = on_err_weaker c.push.result (λ e. ap (gates_in c.self.inside.parts.items) e ∙ c.self.view_is) c.push.ensures.same
