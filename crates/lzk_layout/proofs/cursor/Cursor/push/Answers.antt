use Rattle.std.proofs.Common.{◌≡◌, ◌≤◌, [], ◌∷◌, ◌++◌, Some, arith, refl, sym, ap, ◌∙◌}
use Rattle.lzk_layout.specs.declared.cursor.CursorStep.TheVariants.{More, Field, Fault}
use Rattle.lzk_layout.specs.Fields.{shape}
use Rattle.lzk_layout.specs.Cursors.{CursorState}
use Rattle.lzk_layout.specs.Readings.{state_of}
use Rattle.lzk_layout.proofs.PartLaws.{parts_stand}
use Rattle.lzk_layout.proofs.FrontFaults.{front_is_sound, fault_stays}
use Rattle.lzk_layout.proofs.FrontOrder.{one_front, front_grows, fields_stand}
use Rattle.lzk_layout.proofs.CursorLaws.{step_is}
use Rattle.lzk_layout.proofs.CursorStates.{faulty_says, faulty_pushed, opened, closed, fault_behind, none_behind, no_some, step_says, step_pushed, step_sound, step_whole}
use Rattle.lzk_layout.proofs.cursor.Cursor.push.Goals as goal

pub returns-in-Some-clause-pushed : goal.returns-in-Some-clause-pushed
returns-in-Some-clause-pushed g c = λ p b h.
    let s = shape g.F.Field.coding.bytes g.F.Field.coding.size in
    closed s p (b ++ c.args.byte ∷ []) (Some c.in-Some.fault) c.self.inside.fault c.self.inside.reading c.args.self.now c.self.view_is c.in-Some.is
    (faulty_pushed s p b c.args.byte c.in-Some.fault c.self.inside.reading (opened s p b (Some c.in-Some.fault) c.self.inside.fault c.self.inside.reading c.args.self.now c.self.view_is c.in-Some.is h) (omega (arith, c.ranges.byte)))

pub returns-in-Some-clause-field : goal.returns-in-Some-clause-field
returns-in-Some-clause-field g c = λ p b h part block n.
    let s = shape g.F.Field.coding.bytes g.F.Field.coding.size in
    step_is s p b c.args.byte (Fault c.in-Some.fault) (Field part block n)
    (faulty_says s p b c.args.byte c.in-Some.fault c.self.inside.reading (opened s p b (Some c.in-Some.fault) c.self.inside.fault c.self.inside.reading c.args.self.now c.self.view_is c.in-Some.is h))

pub returns-in-Some-clause-fault : goal.returns-in-Some-clause-fault
returns-in-Some-clause-fault g c = λ p b h fault.
    let s = shape g.F.Field.coding.bytes g.F.Field.coding.size in
    step_is s p b c.args.byte (Fault c.in-Some.fault) (Fault fault)
    (faulty_says s p b c.args.byte c.in-Some.fault c.self.inside.reading (opened s p b (Some c.in-Some.fault) c.self.inside.fault c.self.inside.reading c.args.self.now c.self.view_is c.in-Some.is h))

pub returns-in-Some-clause-more : goal.returns-in-Some-clause-more
returns-in-Some-clause-more g c = λ p b h.
    let s = shape g.F.Field.coding.bytes g.F.Field.coding.size in
    step_is s p b c.args.byte (Fault c.in-Some.fault) More
    (faulty_says s p b c.args.byte c.in-Some.fault c.self.inside.reading (opened s p b (Some c.in-Some.fault) c.self.inside.fault c.self.inside.reading c.args.self.now c.self.view_is c.in-Some.is h))

pub returns-in-Some-clause-one_front : goal.returns-in-Some-clause-one_front
returns-in-Some-clause-one_front g c = λ p. one_front (shape g.F.Field.coding.bytes g.F.Field.coding.size) p

pub returns-in-Some-clause-sound : goal.returns-in-Some-clause-sound
returns-in-Some-clause-sound g c = λ p. front_is_sound (shape g.F.Field.coding.bytes g.F.Field.coding.size) p

pub returns-in-Some-clause-stays : goal.returns-in-Some-clause-stays
returns-in-Some-clause-stays g c = λ p. fault_stays (shape g.F.Field.coding.bytes g.F.Field.coding.size) p

pub returns-in-Some-clause-grows : goal.returns-in-Some-clause-grows
returns-in-Some-clause-grows g c = λ p. front_grows (shape g.F.Field.coding.bytes g.F.Field.coding.size) p

pub returns-in-Some-clause-fields : goal.returns-in-Some-clause-fields
returns-in-Some-clause-fields g c = λ p. fields_stand (shape g.F.Field.coding.bytes g.F.Field.coding.size) p

pub returns-in-Some-clause-parts : goal.returns-in-Some-clause-parts
returns-in-Some-clause-parts g c = λ p. parts_stand p

pub returns-in-Fault-clause-pushed : goal.returns-in-Fault-clause-pushed
returns-in-Fault-clause-pushed g c =
    let s = shape g.F.Field.coding.bytes g.F.Field.coding.size in
    let few : g.F.Field.coding.bytes ≤ 32 = omega (arith, g.F.Field.laws.numbers.few_bytes) in
    let some : 1 ≤ g.F.Field.coding.bytes = g.F.Field.laws.numbers.some_bytes in
    let none = no_some c.self.inside.fault c.in_default.not-Some in
    step_pushed s few some c.args.byte c.self.inside.fault c.self.inside.reading c.take-step.new.self c.args.self.now c.self.view_is none c.self.invariant
    (Fault c.in-Fault.fault) c.in-Fault.ensures.takes (omega (arith, c.ranges.byte)) c.in-Fault.ensures.params

pub returns-in-Fault-clause-field : goal.returns-in-Fault-clause-field
returns-in-Fault-clause-field g c =
    let s = shape g.F.Field.coding.bytes g.F.Field.coding.size in
    let few : g.F.Field.coding.bytes ≤ 32 = omega (arith, g.F.Field.laws.numbers.few_bytes) in
    let some : 1 ≤ g.F.Field.coding.bytes = g.F.Field.laws.numbers.some_bytes in
    let none = no_some c.self.inside.fault c.in_default.not-Some in
    λ p b h part block n. step_is s p b c.args.byte (Fault c.in-Fault.fault) (Field part block n) (step_says s few some c.args.byte c.self.inside.fault c.self.inside.reading c.take-step.new.self c.args.self.now c.self.view_is none c.self.invariant (Fault c.in-Fault.fault) c.in-Fault.ensures.takes p b h)

pub returns-in-Fault-clause-fault : goal.returns-in-Fault-clause-fault
returns-in-Fault-clause-fault g c =
    let s = shape g.F.Field.coding.bytes g.F.Field.coding.size in
    let few : g.F.Field.coding.bytes ≤ 32 = omega (arith, g.F.Field.laws.numbers.few_bytes) in
    let some : 1 ≤ g.F.Field.coding.bytes = g.F.Field.laws.numbers.some_bytes in
    let none = no_some c.self.inside.fault c.in_default.not-Some in
    λ p b h fault. step_is s p b c.args.byte (Fault c.in-Fault.fault) (Fault fault) (step_says s few some c.args.byte c.self.inside.fault c.self.inside.reading c.take-step.new.self c.args.self.now c.self.view_is none c.self.invariant (Fault c.in-Fault.fault) c.in-Fault.ensures.takes p b h)

pub returns-in-Fault-clause-more : goal.returns-in-Fault-clause-more
returns-in-Fault-clause-more g c =
    let s = shape g.F.Field.coding.bytes g.F.Field.coding.size in
    let few : g.F.Field.coding.bytes ≤ 32 = omega (arith, g.F.Field.laws.numbers.few_bytes) in
    let some : 1 ≤ g.F.Field.coding.bytes = g.F.Field.laws.numbers.some_bytes in
    let none = no_some c.self.inside.fault c.in_default.not-Some in
    λ p b h. step_is s p b c.args.byte (Fault c.in-Fault.fault) More (step_says s few some c.args.byte c.self.inside.fault c.self.inside.reading c.take-step.new.self c.args.self.now c.self.view_is none c.self.invariant (Fault c.in-Fault.fault) c.in-Fault.ensures.takes p b h)

pub returns-in-Fault-clause-one_front : goal.returns-in-Fault-clause-one_front
returns-in-Fault-clause-one_front g c = λ p. one_front (shape g.F.Field.coding.bytes g.F.Field.coding.size) p

pub returns-in-Fault-clause-sound : goal.returns-in-Fault-clause-sound
returns-in-Fault-clause-sound g c = λ p. front_is_sound (shape g.F.Field.coding.bytes g.F.Field.coding.size) p

pub returns-in-Fault-clause-stays : goal.returns-in-Fault-clause-stays
returns-in-Fault-clause-stays g c = λ p. fault_stays (shape g.F.Field.coding.bytes g.F.Field.coding.size) p

pub returns-in-Fault-clause-grows : goal.returns-in-Fault-clause-grows
returns-in-Fault-clause-grows g c = λ p. front_grows (shape g.F.Field.coding.bytes g.F.Field.coding.size) p

pub returns-in-Fault-clause-fields : goal.returns-in-Fault-clause-fields
returns-in-Fault-clause-fields g c = λ p. fields_stand (shape g.F.Field.coding.bytes g.F.Field.coding.size) p

pub returns-in-Fault-clause-parts : goal.returns-in-Fault-clause-parts
returns-in-Fault-clause-parts g c = λ p. parts_stand p

pub invariant_of-self-in_default-step : goal.invariant_of-self-in_default-step
invariant_of-self-in_default-step g c = λ e.
    let s = shape g.F.Field.coding.bytes g.F.Field.coding.size in
    let few : g.F.Field.coding.bytes ≤ 32 = omega (arith, g.F.Field.laws.numbers.few_bytes) in
    let some : 1 ≤ g.F.Field.coding.bytes = g.F.Field.laws.numbers.some_bytes in
    let none = no_some c.self.inside.fault c.in_default.not-Some in
    step_sound s few some c.args.byte c.self.inside.fault c.self.inside.reading c.take-step.new.self c.args.self.now c.self.view_is none c.self.invariant
    c.take-step.result c.take-step.ensures.takes (none_behind c.take-step.result c.in_default-step.not-Fault)

pub returns-in_default-step : goal.returns-in_default-step
returns-in_default-step g c =
    let s = shape g.F.Field.coding.bytes g.F.Field.coding.size in
    let few : g.F.Field.coding.bytes ≤ 32 = omega (arith, g.F.Field.laws.numbers.few_bytes) in
    let some : 1 ≤ g.F.Field.coding.bytes = g.F.Field.laws.numbers.some_bytes in
    let none = no_some c.self.inside.fault c.in_default.not-Some in
    let behind = none_behind c.take-step.result c.in_default-step.not-Fault in
    let says = step_says s few some c.args.byte c.self.inside.fault c.self.inside.reading c.take-step.new.self c.args.self.now c.self.view_is none c.self.invariant c.take-step.result c.take-step.ensures.takes in
    let params = c.take-step.ensures.params in
    let kept : fault_behind c.take-step.result ≡ c.self.inside.fault = behind ∙ sym none in
    record {
      pushed = λ p b h. closed s p (b ++ c.args.byte ∷ []) (fault_behind c.take-step.result) c.self.inside.fault c.take-step.new.self (state_of c.self.inside.fault c.take-step.new.self) refl (sym kept)
          (step_pushed s few some c.args.byte c.self.inside.fault c.self.inside.reading c.take-step.new.self c.args.self.now c.self.view_is none c.self.invariant c.take-step.result c.take-step.ensures.takes (omega (arith, c.ranges.byte)) params p b h);
      field = λ p b h part block n. step_is s p b c.args.byte c.take-step.result (Field part block n) (says p b h);
      fault = λ p b h fault. step_is s p b c.args.byte c.take-step.result (Fault fault) (says p b h);
      more = λ p b h. step_is s p b c.args.byte c.take-step.result More (says p b h);
      whole = step_whole s few some c.args.byte c.self.inside.fault c.self.inside.reading c.take-step.new.self c.args.self.now c.self.view_is none c.self.invariant c.take-step.result c.take-step.ensures.takes;
      params = params ∙ ap (λ (x : CursorState). x.params) c.self.view_is;
      one_front = λ p. one_front s p;
      sound = λ p. front_is_sound s p;
      stays = λ p. fault_stays s p;
      grows = λ p. front_grows s p;
      fields = λ p. fields_stand s p;
      parts = λ p. parts_stand p;
    }

pub take-step-requires-after_bounds : goal.take-step-requires-after_bounds
take-step-requires-after_bounds g c κs within = c.self.invariant (no_some c.self.inside.fault c.in_default.not-Some)

pub returns-in-Some-clause-params : goal.returns-in-Some-clause-params
returns-in-Some-clause-params g c = refl

pub returns-in-Fault-clause-params : goal.returns-in-Fault-clause-params
returns-in-Fault-clause-params g c = c.in-Fault.ensures.params ∙ ap (λ (x : CursorState). x.params) c.self.view_is
