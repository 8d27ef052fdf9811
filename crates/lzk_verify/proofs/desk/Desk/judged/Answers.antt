use Rattle.std.proofs.Common.{◌≡◌, true, sym, ap, subst, ◌∙◌}
use Rattle.std.specs.Prelude.{is_some}
use Rattle.lzk_layout.specs.Sizes.{params_of}
use Rattle.lzk_layout.specs.Fields.{shape}
use Rattle.lzk_layout.specs.Cursors.{CursorState, Pushed}
use Rattle.lzk_verify.specs.declared.desk.Desk.TheInside.{Inside}
use Rattle.lzk_verify.specs.declared.verdict.Verdict.TheVariants.{Format}
use Rattle.lzk_verify.specs.Desk.{IsFound}
use Rattle.lzk_verify.specs.Kept.{DeskState, Stands}
use Rattle.lzk_verify.specs.Verdict.{IsVerdict, IsOnlyVerdict}
use Rattle.lzk_verify.proofs.Beginning.{fed_is}
use Rattle.lzk_verify.proofs.Ending.{faulty_ends, whole_ends, only_this, no_err}
use Rattle.std.proofs.Common.{refl, ◌*◌, length}
use Rattle.lzk_verify.specs.Desk.{AreLists}
use Rattle.lzk_verify.proofs.desk.Desk.judged.Goals as goal

pub returns-in-Err-clause-verdict : goal.returns-in-Err-clause-verdict
returns-in-Err-clause-verdict g c = λ session public bytes h.
    let f = g.F.Field in
    let e = f.coding in
    let d = c.self.inside in
    let w = d.plan.circuit.now in
    let on : d.fed ≡ true = sym (fed_is f.ops e w d.plan.params d.fed d.cursor.place d.intake) ∙ ap (λ (s : DeskState g.row.F.Denot). is_some s.held) c.self.view_is ∙ c.requires.fed in
    subst (λ (x : DeskState g.row.F.Denot). IsVerdict f.ops e x.circuit session public bytes (Format c.in-Err.fault)) c.self.view_is
    (faulty_ends f.ops e w d.plan.params d.plan.are session public bytes d.fed on d.cursor c.self.invariant.cursor_is d.intake (subst (λ (x : DeskState g.row.F.Denot). Stands f.ops e session public bytes x) (sym c.self.view_is) h)
    c.in-Err.fault (λ x b pushed. (c.finish.ensures.fault x b (subst (λ (z : CursorState). Pushed (shape f.coding.bytes f.coding.size) z x b) (sym (ap (λ (y : Inside g.row.F.Denot g.F.Field g.F.PartialEq). y.cursor) c.self-inside.view_is)) pushed) c.in-Err.fault).0 c.in-Err.is))

pub returns-in-Err-clause-one : goal.returns-in-Err-clause-one
returns-in-Err-clause-one g c = λ session public bytes h.
    let f = g.F.Field in
    let e = f.coding in
    let d = c.self.inside in
    let w = d.plan.circuit.now in
    let on : d.fed ≡ true = sym (fed_is f.ops e w d.plan.params d.fed d.cursor.place d.intake) ∙ ap (λ (s : DeskState g.row.F.Denot). is_some s.held) c.self.view_is ∙ c.requires.fed in
    subst (λ (x : DeskState g.row.F.Denot). IsOnlyVerdict f.ops e x.circuit session public bytes (Format c.in-Err.fault)) c.self.view_is
    (only_this f.ops e w d.plan.params d.plan.are f.laws session public bytes (Format c.in-Err.fault)
    (faulty_ends f.ops e w d.plan.params d.plan.are session public bytes d.fed on d.cursor c.self.invariant.cursor_is d.intake (subst (λ (x : DeskState g.row.F.Denot). Stands f.ops e session public bytes x) (sym c.self.view_is) h)
    c.in-Err.fault (λ x b pushed. (c.finish.ensures.fault x b (subst (λ (z : CursorState). Pushed (shape f.coding.bytes f.coding.size) z x b) (sym (ap (λ (y : Inside g.row.F.Denot g.F.Field g.F.PartialEq). y.cursor) c.self-inside.view_is)) pushed) c.in-Err.fault).0 c.in-Err.is)))

pub returns-clause-verdict : goal.returns-clause-verdict
returns-clause-verdict g c = λ session public bytes h.
    let f = g.F.Field in
    let e = f.coding in
    let d = c.self.inside in
    let w = d.plan.circuit.now in
    let i = c.self.invariant in
    let on : d.fed ≡ true = sym (fed_is f.ops e w d.plan.params d.fed d.cursor.place d.intake) ∙ ap (λ (s : DeskState g.row.F.Denot). is_some s.held) c.self.view_is ∙ c.requires.fed in
    subst (λ (x : DeskState g.row.F.Denot). IsVerdict f.ops e x.circuit session public bytes c.judge.result) c.self.view_is
    (whole_ends f.ops e w d.plan.params d.plan.are session public bytes d.fed on d.cursor i.cursor_is d.intake (subst (λ (x : DeskState g.row.F.Denot). Stands f.ops e session public bytes x) (sym c.self.view_is) h)
    f.laws d.plan.bounded d.id i.id_is d.room i.sound c.judge.result (subst (λ (y : Inside g.row.F.Denot g.F.Field g.F.PartialEq). IsFound f.ops y.plan.params y.id y.intake c.judge.result) c.self-inside.view_is c.judge.ensures.found) (λ x b pushed. (c.finish.ensures.whole x b (subst (λ (z : CursorState). Pushed (shape f.coding.bytes f.coding.size) z x b) (sym (ap (λ (y : Inside g.row.F.Denot g.F.Field g.F.PartialEq). y.cursor) c.self-inside.view_is)) pushed)).0 (no_err c.finish.result c.in_default.not-Err)) (c.finish.ensures.front (params_of w)))

pub returns-clause-one : goal.returns-clause-one
returns-clause-one g c = λ session public bytes h.
    let f = g.F.Field in
    let e = f.coding in
    let d = c.self.inside in
    let w = d.plan.circuit.now in
    let i = c.self.invariant in
    let on : d.fed ≡ true = sym (fed_is f.ops e w d.plan.params d.fed d.cursor.place d.intake) ∙ ap (λ (s : DeskState g.row.F.Denot). is_some s.held) c.self.view_is ∙ c.requires.fed in
    subst (λ (x : DeskState g.row.F.Denot). IsOnlyVerdict f.ops e x.circuit session public bytes c.judge.result) c.self.view_is
    (only_this f.ops e w d.plan.params d.plan.are f.laws session public bytes c.judge.result
    (whole_ends f.ops e w d.plan.params d.plan.are session public bytes d.fed on d.cursor i.cursor_is d.intake (subst (λ (x : DeskState g.row.F.Denot). Stands f.ops e session public bytes x) (sym c.self.view_is) h)
    f.laws d.plan.bounded d.id i.id_is d.room i.sound c.judge.result (subst (λ (y : Inside g.row.F.Denot g.F.Field g.F.PartialEq). IsFound f.ops y.plan.params y.id y.intake c.judge.result) c.self-inside.view_is c.judge.ensures.found) (λ x b pushed. (c.finish.ensures.whole x b (subst (λ (z : CursorState). Pushed (shape f.coding.bytes f.coding.size) z x b) (sym (ap (λ (y : Inside g.row.F.Denot g.F.Field g.F.PartialEq). y.cursor) c.self-inside.view_is)) pushed)).0 (no_err c.finish.result c.in_default.not-Err)) (c.finish.ensures.front (params_of w))))

pub same-self-inside : goal.same-self-inside
same-self-inside g c = refl

pub same-self : goal.same-self
same-self g c = refl

pub returns-in-Err-clause-circuit : goal.returns-in-Err-clause-circuit
returns-in-Err-clause-circuit g c = refl

pub judge-requires-clause-lists : goal.judge-requires-clause-lists
judge-requires-clause-lists g c κs within = subst (λ (y : Inside g.row.F.Denot g.F.Field g.F.PartialEq). AreLists y.plan.params y.intake) (sym c.self-inside.view_is) c.self.invariant.sound.lists

pub judge-requires-clause-nodes : goal.judge-requires-clause-nodes
judge-requires-clause-nodes g c κs within =
    ap length c.deref_mut.ensures.value ∙ ap (λ (y : Inside g.row.F.Denot g.F.Field g.F.PartialEq). y.room.nodes) c.self-inside.view_is ∙ c.self.invariant.sound.rooms.nodes ∙ ap (λ (y : Inside g.row.F.Denot g.F.Field g.F.PartialEq). 2 * y.plan.params.mcol) (sym c.self-inside.view_is)

pub returns-clause-circuit : goal.returns-clause-circuit
returns-clause-circuit g c = ap (λ (y : Inside g.row.F.Denot g.F.Field g.F.PartialEq). y.plan.circuit.now) c.self-inside.view_is ∙ ap (λ (s : DeskState g.row.F.Denot). s.circuit) c.self.view_is
