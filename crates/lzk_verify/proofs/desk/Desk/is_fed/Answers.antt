use Rattle.std.proofs.Common.{sym, ap, ◌∙◌}
use Rattle.std.specs.Prelude.{is_some}
use Rattle.lzk_verify.specs.Kept.{DeskState}
use Rattle.lzk_verify.proofs.Beginning.{fed_is}
use Rattle.lzk_verify.proofs.desk.Desk.is_fed.Goals as goal

pub returns : goal.returns
returns g c =
    let f = g.F.Field in
    let d = c.self.inside in
    sym (fed_is f.ops f.coding d.plan.circuit.now d.plan.params d.fed d.cursor.place d.intake) ∙ ap (λ (s : DeskState g.row.F.Denot). is_some s.held) c.self.view_is
