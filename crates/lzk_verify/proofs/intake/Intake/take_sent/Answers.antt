use Rattle.std.proofs.Common.{[], refl, ap, arith}
use Rattle.std.specs.Prelude.{slice_set, take, ◌++◌, ◌∷◌}
use Rattle.std.proofs.lemmas.List.{length-set}
use Rattle.lzk_layout.specs.Fronts.{digests_in}
use Rattle.lzk_verify.proofs.Stored.{kept_stored, stored_kept}
use Rattle.lzk_verify.proofs.TakingElements.{sent_taken, last_taken}
use Rattle.std.specs.Prelude.{◌≡◌, true, false}
use Rattle.std.specs.Vec.{with_item}
use Rattle.lzk_verify.proofs.SoundSteps.{sound_with}
use Rattle.lzk_verify.proofs.intake.Intake.take_sent.Goals as goal

pub returns-then-place-sent_count-clause-kept : goal.returns-then-place-sent_count-clause-kept
returns-then-place-sent_count-clause-kept g c = λ session public fields number h.
    let f = g.F.Field in
    let e = f.coding in
    let w = c.args.plan.now.circuit.now in
    let p = c.args.plan.now.params in
    let k = c.args.self.now in
    let field = take e.bytes c.args.block.now in
    let s = kept_stored f.ops e w p session public fields k [] (digests_in p fields) h in
    stored_kept f.ops e w p session public (fields ++ field ∷ []) _ []
    (last_taken f.ops e w p session public fields field k _ _ c.args.place s refl c.draw.ensures.others c.draw.ensures.given number
    (omega arith) c.requires.sound.lists.sent (length-set k.sent.items c.args.place c.element_of.result)
    (ap (λ x. slice_set k.sent.items c.args.place x) c.element_of.ensures))

pub returns-else-place-sent_count-clause-kept : goal.returns-else-place-sent_count-clause-kept
returns-else-place-sent_count-clause-kept g c = λ session public fields number h.
    let f = g.F.Field in
    let e = f.coding in
    let w = c.args.plan.now.circuit.now in
    let p = c.args.plan.now.params in
    let k = c.args.self.now in
    let field = take e.bytes c.args.block.now in
    let s = kept_stored f.ops e w p session public fields k [] (digests_in p fields) h in
    stored_kept f.ops e w p session public (fields ++ field ∷ []) _ []
    (sent_taken f.ops e w p session public fields field k _ c.args.place s refl number
    (omega arith) c.requires.sound.lists.sent (ap (λ x. slice_set k.sent.items c.args.place x) c.element_of.ensures))

pub element_of-requires-after_bounds : goal.element_of-requires-after_bounds
element_of-requires-after_bounds g c κs within = c.requires.element

pub index_mut-requires : goal.index_mut-requires
index_mut-requires g c = let sent = c.args.self.now.sent in omega (arith, c.requires.place, c.requires.sound.lists.sent, sent.ok.0)

pub draw-requires-clause-sound : goal.draw-requires-clause-sound
draw-requires-clause-sound g c κs within =
    let f = g.F.Field in
    let k = c.args.self.now in
    let s = c.requires.sound in
    sound_with f.ops f.coding.element c.args.plan.now.circuit.now c.args.plan.now.params k (record k { is_drawn = false; sent = with_item k.sent c.args.place c.element_of.result }) c.args.room.now s refl
    (length-set k.sent.items c.args.place c.element_of.result) refl refl refl refl refl s.lists.few (λ d. absurd (let t : false ≡ true = d in cc))

pub returns-then-place-sent_count-clause-sound : goal.returns-then-place-sent_count-clause-sound
returns-then-place-sent_count-clause-sound g c = c.draw.ensures.sound

pub returns-else-place-sent_count-clause-sound : goal.returns-else-place-sent_count-clause-sound
returns-else-place-sent_count-clause-sound g c =
    let f = g.F.Field in
    let k = c.args.self.now in
    let s = c.requires.sound in
    sound_with f.ops f.coding.element c.args.plan.now.circuit.now c.args.plan.now.params k (record k { is_drawn = false; sent = with_item k.sent c.args.place c.element_of.result }) c.args.room.now s refl
    (length-set k.sent.items c.args.place c.element_of.result) refl refl refl refl refl s.lists.few (λ d. absurd (let t : false ≡ true = d in cc))
