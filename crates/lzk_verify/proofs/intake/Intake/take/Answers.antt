use Rattle.std.proofs.Common.{[], sym, subst, ◌∙◌}
use Rattle.std.specs.Prelude.{◌++◌, ◌∷◌, List, ℕ, take}
use Rattle.lzk_layout.specs.Fields.{shape, IsField}
use Rattle.lzk_verify.specs.Desk.{IsKeptOf}
use Rattle.lzk_verify.proofs.SentPlaces.{field_element, element_small, sent_number, sent_sort}
use Rattle.lzk_verify.proofs.intake.Intake.take.Goals as goal

pub returns-in-Some-clause-kept : goal.returns-in-Some-clause-kept
returns-in-Some-clause-kept g c = λ session public fields number h.
    let f = g.F.Field in
    let e = f.coding in
    let p = c.args.plan.now.params in
    let w = c.args.plan.now.circuit.now in
    let block = c.args.block.now in
    let is = sym c.place_of.ensures ∙ c.in-Some.is in
    let passes = subst (λ s. IsField (shape e.bytes e.size) s (take c.args.width block)) (sent_sort p c.args.part c.in-Some.place is) c.requires.whole.passes in
    let same = field_element e.bytes e.size c.args.width block passes in
    subst (λ (x : List ℕ). IsKeptOf f.ops e w p session public (fields ++ x ∷ []) c.take_sent.new.self) (sym same)
    (c.take_sent.ensures.kept session public fields (number ∙ sent_number p c.args.part c.in-Some.place is) h)

pub take_sent-requires-clause-element : goal.take_sent-requires-clause-element
take_sent-requires-clause-element g c κs within =
    let e = g.F.Field.coding in
    let is = sym c.place_of.ensures ∙ c.in-Some.is in
    element_small e.bytes e.size c.args.width c.args.block.now
    (subst (λ s. IsField (shape e.bytes e.size) s (take c.args.width c.args.block.now)) (sent_sort c.args.plan.now.params c.args.part c.in-Some.place is) c.requires.whole.passes)
