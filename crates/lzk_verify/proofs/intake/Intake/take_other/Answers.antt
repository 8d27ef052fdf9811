use Rattle.std.proofs.Common.{[], refl, sym, ap, subst, ◌∙◌, arith}
use Rattle.std.specs.Prelude.{slice_set, take, ◌++◌, ◌∷◌}
use Rattle.lzk_field.specs.Bytes.{number_from}
use Rattle.std.proofs.lemmas.List.{length_push}
use Rattle.lzk_layout.specs.Fields.{shape}
use Rattle.lzk_layout.specs.Fronts.{IsWholeField}
use Rattle.lzk_verify.specs.declared.intake.Intake.{Intake}
use Rattle.lzk_verify.proofs.FieldSteps.{earlier, newest}
use Rattle.lzk_verify.proofs.Stored.{stored_kept}
use Rattle.lzk_verify.proofs.TakingColumns.{stored_nonce, stored_element, stored_checked, stored_count, stored_digest}
use Rattle.lzk_verify.proofs.SentPlaces.{field_all, field_element, element_small}
use Rattle.lzk_verify.proofs.TakingFirst.{stored_first}
use Rattle.lzk_verify.proofs.TakingOther.{taken}
use Rattle.lzk_profile.specs.Profile.{most_digests}
use Rattle.std.proofs.Common.{◌+◌, ◌≤◌, length}
use Rattle.std.specs.Vec.{with_item}
use Rattle.std.proofs.lemmas.List.{length-set}
use Rattle.lzk_layout.specs.Parts.{HasPart}
use Rattle.lzk_verify.specs.Desk.{Rooms, IsSound}
use Rattle.lzk_verify.proofs.SoundSteps.{sound_stays}
use Rattle.lzk_verify.proofs.intake.Intake.take_other.Goals as goal

pub returns-in-Magic-clause-kept : goal.returns-in-Magic-clause-kept
returns-in-Magic-clause-kept g c = λ session public fields number h.
    let f = g.F.Field in
    let w = c.args.plan.now.circuit.now in
    let p = c.args.plan.now.params in
    let k = c.args.self.now in
    let t = taken f.ops f.coding w p session public fields k c.args.block.now c.args.width _ _ c.in-Magic.is number c.requires.whole h in
    let field = take c.args.width c.args.block.now in
    stored_kept f.ops f.coding w p session public (fields ++ field ∷ []) k []
    (stored_first f.ops f.coding w p session public fields field k k t.stored (record { public = refl; tape = λ x. refl; failing = refl; count = refl; digests = refl }) (omega (arith, t.at)) refl
    (λ x. absurd (omega (arith, x, t.at, length_push fields field))) (λ x. absurd (omega (arith, x, t.at, length_push fields field))))

pub returns-in-Id-clause-kept : goal.returns-in-Id-clause-kept
returns-in-Id-clause-kept g c = λ session public fields number h.
    let f = g.F.Field in
    let w = c.args.plan.now.circuit.now in
    let p = c.args.plan.now.params in
    let k = c.args.self.now in
    let t = taken f.ops f.coding w p session public fields k c.args.block.now c.args.width _ _ c.in-Id.is number c.requires.whole h in
    let field = take c.args.width c.args.block.now in
    stored_kept f.ops f.coding w p session public (fields ++ field ∷ []) (record k { id = c.args.block.now }) []
    (stored_first f.ops f.coding w p session public fields field k (record k { id = c.args.block.now }) t.stored (record { public = refl; tape = λ x. refl; failing = refl; count = refl; digests = refl }) (omega (arith, t.at)) refl
    (λ x. sym (newest fields field 1 t.at ∙ field_all f.coding.bytes f.coding.size c.args.width c.args.block.now (omega arith) t.whole.passes))
    (λ x. absurd (omega (arith, x, t.at, length_push fields field))))

pub returns-in-Root-clause-kept : goal.returns-in-Root-clause-kept
returns-in-Root-clause-kept g c = λ session public fields number h.
    let f = g.F.Field in
    let w = c.args.plan.now.circuit.now in
    let p = c.args.plan.now.params in
    let k = c.args.self.now in
    let t = taken f.ops f.coding w p session public fields k c.args.block.now c.args.width _ _ c.in-Root.is number c.requires.whole h in
    let field = take c.args.width c.args.block.now in
    stored_kept f.ops f.coding w p session public (fields ++ field ∷ []) (record k { root = c.args.block.now }) []
    (stored_first f.ops f.coding w p session public fields field k (record k { root = c.args.block.now }) t.stored (record { public = refl; tape = λ x. refl; failing = refl; count = refl; digests = refl }) (omega (arith, t.at)) refl
    (λ x. t.stored.id_is (omega (arith, t.at)) ∙ sym (earlier fields field 1 (omega (arith, t.at))))
    (λ x. sym (newest fields field 2 t.at ∙ field_all f.coding.bytes f.coding.size c.args.width c.args.block.now (omega arith) t.whole.passes)))

pub returns-in-Nonce-clause-kept : goal.returns-in-Nonce-clause-kept
returns-in-Nonce-clause-kept g c = λ session public fields number h.
    let f = g.F.Field in
    let w = c.args.plan.now.circuit.now in
    let p = c.args.plan.now.params in
    let k = c.args.self.now in
    let t = taken f.ops f.coding w p session public fields k c.args.block.now c.args.width _ _ c.in-Nonce.is number c.requires.whole h in
    let field = take c.args.width c.args.block.now in
    stored_kept f.ops f.coding w p session public (fields ++ field ∷ []) _ []
    (stored_nonce f.ops f.coding w p session public fields field (omega (arith, c.args.plan.now.bounded.rows)) k (record k { nonce = c.args.block.now }) t.stored (record { public = refl; is_drawn = refl; id = refl; root = refl; sent = refl; drawn = refl }) c.requires.sound.lists c.in-Nonce.field-0 t.at t.whole.has
    (sym (field_all f.coding.bytes f.coding.size c.args.width c.args.block.now (omega arith) t.whole.passes)) refl refl refl refl)

pub returns-else-i-plan-clause-kept : goal.returns-else-i-plan-clause-kept
returns-else-i-plan-clause-kept g c = λ session public fields number h.
    let f = g.F.Field in
    let w = c.args.plan.now.circuit.now in
    let p = c.args.plan.now.params in
    let k = c.args.self.now in
    let t = taken f.ops f.coding w p session public fields k c.args.block.now c.args.width _ _ c.in-Column.is number c.requires.whole h in
    let field = take c.args.width c.args.block.now in
    let j = c.in-Column.k in
    let i = c.in-Column.i in
    stored_kept f.ops f.coding w p session public (fields ++ field ∷ []) _ []
    (stored_element f.ops f.coding w p session public fields field (omega (arith, c.args.plan.now.bounded.rows)) k _ t.stored (record { public = refl; is_drawn = refl; id = refl; root = refl; sent = refl; drawn = refl }) c.requires.sound.lists j i c.element_of.result t.at t.whole.has.0 t.whole.has.1
    (c.element_of.ensures ∙ ap (λ x. f.coding.element (number_from x)) (sym (field_element f.coding.bytes f.coding.size c.args.width c.args.block.now t.whole.passes)))
    (omega (arith, t.whole.has.1)) refl refl refl refl refl refl)

pub returns-then-i-plan-clause-kept : goal.returns-then-i-plan-clause-kept
returns-then-i-plan-clause-kept g c = λ session public fields number h.
    let f = g.F.Field in
    let w = c.args.plan.now.circuit.now in
    let p = c.args.plan.now.params in
    let k = c.args.self.now in
    let t = taken f.ops f.coding w p session public fields k c.args.block.now c.args.width _ _ c.in-Column.is number c.requires.whole h in
    let field = take c.args.width c.args.block.now in
    let j = c.in-Column.k in
    let i = c.in-Column.i in
    stored_kept f.ops f.coding w p session public (fields ++ field ∷ []) _ []
    (stored_checked f.ops f.coding w p session public fields field (omega (arith, c.args.plan.now.bounded.rows)) k c.check.new.self t.stored (record { public = ap (λ (x : Intake g.row.F.Denot). x.public.items) c.check.ensures.others; is_drawn = ap (λ (x : Intake g.row.F.Denot). x.is_drawn) c.check.ensures.others; id = ap (λ (x : Intake g.row.F.Denot). x.id) c.check.ensures.others; root = ap (λ (x : Intake g.row.F.Denot). x.root) c.check.ensures.others; sent = ap (λ (x : Intake g.row.F.Denot). x.sent.items) c.check.ensures.others; drawn = ap (λ (x : Intake g.row.F.Denot). x.drawn) c.check.ensures.others }) c.requires.sound.lists j i c.element_of.result t.at t.whole.has.0 t.whole.has.1
    (c.element_of.ensures ∙ ap (λ x. f.coding.element (number_from x)) (sym (field_element f.coding.bytes f.coding.size c.args.width c.args.block.now t.whole.passes)))
    (omega arith) _ refl c.args.room.now c.requires.sound.ready c.check.ensures.leaf c.check.ensures.low_degree c.check.ensures.linear c.check.ensures.quadratic
    (ap (λ (x : Intake g.row.F.Denot). x.count) c.check.ensures.others) (ap (λ (x : Intake g.row.F.Denot). x.digests.items) c.check.ensures.others))

pub returns-in-Count-clause-kept : goal.returns-in-Count-clause-kept
returns-in-Count-clause-kept g c = λ session public fields number h.
    let f = g.F.Field in
    let w = c.args.plan.now.circuit.now in
    let p = c.args.plan.now.params in
    let k = c.args.self.now in
    let t = taken f.ops f.coding w p session public fields k c.args.block.now c.args.width _ _ c.in-Count.is number c.requires.whole h in
    let field = take c.args.width c.args.block.now in
    stored_kept f.ops f.coding w p session public (fields ++ field ∷ []) k []
    (stored_count f.ops f.coding w p session public fields field (omega (arith, c.args.plan.now.bounded.rows)) k k t.stored (record { public = refl; is_drawn = refl; id = refl; root = refl; sent = refl; drawn = refl }) c.requires.sound.lists (omega (arith, t.at)) t.at refl refl refl refl)

pub returns-in-Digest-clause-kept : goal.returns-in-Digest-clause-kept
returns-in-Digest-clause-kept g c = λ session public fields number h.
    let f = g.F.Field in
    let w = c.args.plan.now.circuit.now in
    let p = c.args.plan.now.params in
    let k = c.args.self.now in
    let t = taken f.ops f.coding w p session public fields k c.args.block.now c.args.width _ _ c.in-Digest.is number c.requires.whole h in
    let field = take c.args.width c.args.block.now in
    let i = c.in-Digest.i in
    let same = sym (field_all f.coding.bytes f.coding.size c.args.width c.args.block.now (omega arith) t.whole.passes) in
    stored_kept f.ops f.coding w p session public (fields ++ field ∷ []) _ []
    (stored_digest f.ops f.coding w p session public fields field (omega (arith, c.args.plan.now.bounded.rows)) k _ t.stored (record { public = refl; is_drawn = refl; id = refl; root = refl; sent = refl; drawn = refl }) c.requires.sound.lists (omega (arith, t.at)) i t.at t.whole.has refl refl refl (ap (λ x. slice_set k.digests.items i x) same))

pub element_of-requires-after_bounds : goal.element_of-requires-after_bounds
element_of-requires-after_bounds g c κs within =
    let e = g.F.Field.coding in
    let whole = subst (λ x. IsWholeField (shape e.bytes e.size) c.args.plan.now.params x c.args.block.now c.args.width) c.in-Column.is c.requires.whole in
    element_small e.bytes e.size c.args.width c.args.block.now whole.passes

pub index_mut-requires : goal.index_mut-requires
index_mut-requires g c =
    let has = subst (HasPart c.args.plan.now.params most_digests) c.in-Column.is c.requires.whole.has in
    let column = c.args.self.now.column in
    omega (arith, has.1, c.requires.sound.lists.column, column.ok.0)

pub index_mut-requires-in-Digest : goal.index_mut-requires-in-Digest
index_mut-requires-in-Digest g c =
    let has = subst (HasPart c.args.plan.now.params most_digests) c.in-Digest.is c.requires.whole.has in
    let digests = c.args.self.now.digests in
    omega (arith, has, c.requires.sound.lists.digests, digests.ok.0)

pub check-requires-clause-lists : goal.check-requires-clause-lists
check-requires-clause-lists g c κs within =
    let f = g.F.Field in
    let k = c.args.self.now in
    let s = c.requires.sound in
    (sound_stays f.ops f.coding.element c.args.plan.now.circuit.now c.args.plan.now.params k (record k { column = with_item k.column c.in-Column.i c.element_of.result }) c.args.room.now s refl refl refl refl refl
    (length-set k.column.items c.in-Column.i c.element_of.result) refl refl refl s.lists.few).lists

pub check-requires-clause-rooms : goal.check-requires-clause-rooms
check-requires-clause-rooms g c κs within = c.requires.sound.rooms

pub check-requires-clause-inside : goal.check-requires-clause-inside
check-requires-clause-inside g c κs within = (subst (HasPart c.args.plan.now.params most_digests) c.in-Column.is c.requires.whole.has).0

pub returns-in-Magic-clause-sound : goal.returns-in-Magic-clause-sound
returns-in-Magic-clause-sound g c = c.requires.sound

pub returns-in-Id-clause-sound : goal.returns-in-Id-clause-sound
returns-in-Id-clause-sound g c =
    let f = g.F.Field in
    let k = c.args.self.now in
    let s = c.requires.sound in
    sound_stays f.ops f.coding.element c.args.plan.now.circuit.now c.args.plan.now.params k (record k { id = c.args.block.now }) c.args.room.now s refl refl refl refl refl refl refl refl refl s.lists.few

pub returns-in-Root-clause-sound : goal.returns-in-Root-clause-sound
returns-in-Root-clause-sound g c =
    let f = g.F.Field in
    let k = c.args.self.now in
    let s = c.requires.sound in
    sound_stays f.ops f.coding.element c.args.plan.now.circuit.now c.args.plan.now.params k (record k { root = c.args.block.now }) c.args.room.now s refl refl refl refl refl refl refl refl refl s.lists.few

pub returns-in-Nonce-clause-sound : goal.returns-in-Nonce-clause-sound
returns-in-Nonce-clause-sound g c =
    let f = g.F.Field in
    let k = c.args.self.now in
    let s = c.requires.sound in
    sound_stays f.ops f.coding.element c.args.plan.now.circuit.now c.args.plan.now.params k (record k { nonce = c.args.block.now }) c.args.room.now s refl refl refl refl refl refl refl refl refl s.lists.few

pub returns-then-i-plan-clause-sound : goal.returns-then-i-plan-clause-sound
returns-then-i-plan-clause-sound g c =
    let f = g.F.Field in
    let k = c.args.self.now in
    let s = c.requires.sound in
    let new = c.check.new.self in
    let others = c.check.ensures.others in
    subst (λ (r : Rooms g.row.F.Denot). IsSound f.ops f.coding.element c.args.plan.now.circuit.now c.args.plan.now.params new r) (sym c.check.ensures.room)
    (sound_stays f.ops f.coding.element c.args.plan.now.circuit.now c.args.plan.now.params k new c.args.room.now s
    (ap (λ (x : Intake g.row.F.Denot). x.public.items) others) (ap (λ (x : Intake g.row.F.Denot). x.is_drawn) others) (ap (λ (x : Intake g.row.F.Denot). x.sent.items) others)
    (ap (λ (x : Intake g.row.F.Denot). x.drawn) others) (ap (λ (x : Intake g.row.F.Denot). x.wanted) others)
    (ap (λ (x : Intake g.row.F.Denot). length x.column.items) others ∙ length-set k.column.items c.in-Column.i c.element_of.result)
    (ap length c.check.ensures.leaf ∙ length-set k.leaves.items c.in-Column.k _) c.check.ensures.rows
    (ap (λ (x : Intake g.row.F.Denot). length x.digests.items) others) (subst (λ n. n ≤ most_digests) (sym (ap (λ (x : Intake g.row.F.Denot). x.count) others)) s.lists.few))

pub returns-else-i-plan-clause-sound : goal.returns-else-i-plan-clause-sound
returns-else-i-plan-clause-sound g c =
    let f = g.F.Field in
    let k = c.args.self.now in
    let s = c.requires.sound in
    sound_stays f.ops f.coding.element c.args.plan.now.circuit.now c.args.plan.now.params k (record k { column = with_item k.column c.in-Column.i c.element_of.result }) c.args.room.now s refl refl refl refl refl
    (length-set k.column.items c.in-Column.i c.element_of.result) refl refl refl s.lists.few

pub returns-in-Count-clause-sound : goal.returns-in-Count-clause-sound
returns-in-Count-clause-sound g c = c.requires.sound

pub returns-in-Digest-clause-sound : goal.returns-in-Digest-clause-sound
returns-in-Digest-clause-sound g c =
    let f = g.F.Field in
    let k = c.args.self.now in
    let s = c.requires.sound in
    let i = c.in-Digest.i in
    let has = subst (HasPart c.args.plan.now.params most_digests) c.in-Digest.is c.requires.whole.has in
    sound_stays f.ops f.coding.element c.args.plan.now.circuit.now c.args.plan.now.params k (record k { count = i + 1; digests = with_item k.digests i c.args.block.now }) c.args.room.now s refl refl refl refl refl refl refl refl
    (length-set k.digests.items i c.args.block.now) (omega (arith, has))
