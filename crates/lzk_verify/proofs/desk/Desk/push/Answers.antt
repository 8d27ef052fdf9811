use Rattle.std.proofs.Common.{◌≡◌, true, sym, ap, subst, ◌∙◌}
use Rattle.std.specs.Prelude.{is_some}
use Rattle.lzk_layout.specs.Sizes.{params_of}
use Rattle.lzk_verify.specs.Kept.{DeskState, Stands}
use Rattle.lzk_verify.proofs.Beginning.{fed_is}
use Rattle.lzk_verify.proofs.Fed.{field_stands, none_stands}
use Rattle.lzk_verify.proofs.desk.Desk.push.Goals as goal

pub returns-in-Field-clause-stands : goal.returns-in-Field-clause-stands
returns-in-Field-clause-stands g c = λ session public bytes h.
    let f = g.F.Field in
    let e = f.coding in
    let d = c.self.inside in
    let w = d.plan.circuit.now in
    let on : d.fed ≡ true = sym (fed_is f.ops e w d.plan.params d.fed d.cursor.place d.intake) ∙ ap (λ (s : DeskState g.row.F.Denot). is_some s.held) c.self.view_is ∙ c.requires.fed in
    let before = subst (λ (x : DeskState g.row.F.Denot). Stands f.ops e session public bytes x) (sym c.self.view_is) h in
    let part = c.in-Field.part in
    let block = c.in-Field.block in
    field_stands f.ops e w d.plan.params d.plan.are session public bytes c.args.byte d.fed on d.cursor c.push.new.self c.self.invariant.cursor_is d.intake c.push.ensures.pushed
    (c.push.ensures.one_front (params_of w)) (c.push.ensures.sound (params_of w)) before c.take.new.self part block c.in-Field.width
    (λ x b pushed. (c.push.ensures.field x b pushed part block c.in-Field.width).0 c.in-Field.is) (c.push.ensures.parts (params_of w))
    (c.take.ensures.kept session public)

pub returns-in-Field-clause-fed : goal.returns-in-Field-clause-fed
returns-in-Field-clause-fed g c =
    let f = g.F.Field in
    let e = f.coding in
    let d = c.self.inside in
    fed_is f.ops e d.plan.circuit.now d.plan.params d.fed c.push.new.self.place c.take.new.self
    ∙ sym (fed_is f.ops e d.plan.circuit.now d.plan.params d.fed d.cursor.place d.intake) ∙ ap (λ (s : DeskState g.row.F.Denot). is_some s.held) c.self.view_is ∙ c.requires.fed

pub returns-in_default : goal.returns-in_default
returns-in_default g c =
    let f = g.F.Field in
    let e = f.coding in
    let d = c.self.inside in
    let w = d.plan.circuit.now in
    let on : d.fed ≡ true = sym (fed_is f.ops e w d.plan.params d.fed d.cursor.place d.intake) ∙ ap (λ (s : DeskState g.row.F.Denot). is_some s.held) c.self.view_is ∙ c.requires.fed in
    record {
      stands = λ session public bytes h.
          none_stands f.ops e w d.plan.params d.plan.are session public bytes c.args.byte d.fed on d.cursor c.push.new.self c.self.invariant.cursor_is d.intake c.push.ensures.pushed
          (c.push.ensures.one_front (params_of w)) (c.push.ensures.sound (params_of w)) (subst (λ (x : DeskState g.row.F.Denot). Stands f.ops e session public bytes x) (sym c.self.view_is) h)
          c.push.result c.in_default.not-Field c.push.ensures.more c.push.ensures.fault;
      fed = fed_is f.ops e w d.plan.params d.fed c.push.new.self.place d.intake ∙ on;
      circuit = ap (λ (s : DeskState g.row.F.Denot). s.circuit) c.self.view_is;
    }
