use Rattle.lzk_verify.proofs.Beginning.{fed_is}
use Rattle.lzk_verify.proofs.Fed.{begun_stands}
use Rattle.std.proofs.Common.{◌≡◌, length, ap, sym, ◌∙◌, arith}
use Rattle.std.specs.Prelude.{true, false}
use Rattle.lzk_verify.specs.declared.intake.Intake.{Intake}
use Rattle.lzk_verify.specs.Kept.{DeskState}
use Rattle.lzk_verify.proofs.SoundSteps.{sound_with}
use Rattle.lzk_verify.proofs.desk.Desk.open.Goals as goal

pub returns-clause-stands : goal.returns-clause-stands
returns-clause-stands g c =
    let f = g.F.Field in
    let e = f.coding in
    let d = c.self.inside in
    begun_stands f.ops e d.plan.circuit.now d.plan.params d.plan.are c.args.session.now c.args.public.now c.new-self-inside.result c.begin.new.self c.new-self-inside.ensures.pushed
    (c.begin.ensures.kept d.plan.circuit.now d.plan.params d.plan.bounded c.self.invariant.id_is)

pub returns-clause-fed : goal.returns-clause-fed
returns-clause-fed g c =
    let f = g.F.Field in
    fed_is f.ops f.coding _ _ _ _ _

pub new-self-inside-requires-clause-params : goal.new-self-inside-requires-clause-params
new-self-inside-requires-clause-params g c κs within = c.self.invariant.valid

pub begin-requires-after_bounds : goal.begin-requires-after_bounds
begin-requires-after_bounds g c κs within = c.requires.public ∙ sym (ap (λ (s : DeskState g.row.F.Denot). s.circuit.publics) c.self.view_is) ∙ sym c.self.invariant.sound.public

pub invariant_of-self : goal.invariant_of-self
invariant_of-self g c =
    let f = g.F.Field in
    let d = c.self.inside in
    let i = c.self.invariant in
    let k = c.begin.new.self in
    let others = c.begin.ensures.others in
    record {
      valid = i.valid;
      id_is = i.id_is;
      cursor_is = c.new-self-inside.ensures.params;
      sound = sound_with f.ops f.coding.element d.plan.circuit.now d.plan.params d.intake k d.room i.sound
          (ap length c.begin.ensures.public ∙ c.requires.public ∙ sym (ap (λ (s : DeskState g.row.F.Denot). s.circuit.publics) c.self.view_is) ∙ sym i.sound.public)
          (ap (λ (x : Intake g.row.F.Denot). length x.sent.items) others) (ap (λ (x : Intake g.row.F.Denot). x.drawn) others) (ap (λ (x : Intake g.row.F.Denot). length x.column.items) others)
          c.begin.ensures.leaves c.begin.ensures.rows (ap (λ (x : Intake g.row.F.Denot). length x.digests.items) others) (omega (arith, ap (λ (x : Intake g.row.F.Denot). x.count) others))
          (λ drawn. absurd (let t : true ≡ false = sym drawn ∙ ap (λ (x : Intake g.row.F.Denot). x.is_drawn) others in cc));
    }

pub returns-clause-circuit : goal.returns-clause-circuit
returns-clause-circuit g c = ap (λ (s : DeskState g.row.F.Denot). s.circuit) c.self.view_is
