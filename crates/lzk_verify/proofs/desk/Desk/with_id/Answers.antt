use Rattle.std.proofs.Common.{sym, ap, ◌∙◌}
use Rattle.lzk_circbytes.specs.Files.{id_of}
use Rattle.lzk_verify.proofs.Beginning.{fed_is, new_parts}
use Rattle.lzk_verify.proofs.desk.Desk.with_id.Goals as goal

pub invariant_of-result : goal.invariant_of-result
invariant_of-result g c =
    let f = g.F.Field in
    let plan = c.of-plan in
    new_parts f.ops f.coding plan.result.circuit.now plan.result.params c.args.id c.new-cursor.result c.in-Ok.intake c.in-Ok-new.room
    plan.ensures.valid (c.requires.id ∙ ap (λ w. id_of f.coding w) (sym plan.ensures.circuit)) c.new-cursor.ensures.params
    c.in-Ok.ensures.public c.in-Ok.ensures.script c.in-Ok.ensures.lists c.in-Ok.ensures.drawn
    c.in-Ok-new.ensures.forms c.in-Ok-new.ensures.factors c.in-Ok-new.ensures.rooms

pub returns-clause-idle : goal.returns-clause-idle
returns-clause-idle g c =
    let f = g.F.Field in
    fed_is f.ops f.coding _ _ _ _ _
