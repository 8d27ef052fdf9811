use Rattle.std.proofs.Common.{refl, List, length, ap, subst, ◌∙◌}
use Rattle.lzk_accept.specs.Checks.{combined_row_of, wanted_of}
use Rattle.lzk_verify.specs.Desk.{AreWeightedRows, weighted_answers}
use Rattle.lzk_verify.specs.Kept.{messages_in, whole_transcript}
use Rattle.lzk_verify.proofs.intake.Intake.draw.Goals as goal

pub invariant_of-sent : goal.invariant_of-sent
invariant_of-sent g c = record { all = ap length c.deref.ensures.value ∙ c.requires.sound.lists.sent }

pub draw-requires-clause-room : goal.draw-requires-clause-room
draw-requires-clause-room g c κs within = let s = c.requires.sound in record { script = s.script; challenges = s.lists.challenges; columns = s.lists.columns }

pub prepare-self-requires-clause-public : goal.prepare-self-requires-clause-public
prepare-self-requires-clause-public g c κs within = ap length c.deref-2.ensures.value ∙ c.requires.sound.public

pub prepare-self-requires-clause-drawn : goal.prepare-self-requires-clause-drawn
prepare-self-requires-clause-drawn g c κs within = c.draw.ensures.room

pub prepare-self-requires-clause-rooms : goal.prepare-self-requires-clause-rooms
prepare-self-requires-clause-rooms g c κs within = c.requires.sound.rooms

pub prepare-self-requires-clause-forms : goal.prepare-self-requires-clause-forms
prepare-self-requires-clause-forms g c κs within = c.requires.sound.forms

pub prepare-self-requires-clause-factors : goal.prepare-self-requires-clause-factors
prepare-self-requires-clause-factors g c κs within = c.requires.sound.factors

pub returns-clause-sound : goal.returns-clause-sound
returns-clause-sound g c =
    let f = g.F.Field in
    let w = c.args.plan.now.circuit.now in
    let p = c.args.plan.now.params in
    let s = c.requires.sound in
    let d = c.draw.new.self in
    let room = c.draw.ensures.room in
    let prepared = c.prepare-self.ensures in
    record {
      public = s.public;
      script = room.script;
      lists = record {
        sent = s.lists.sent;
        challenges = room.challenges;
        columns = room.columns;
        opened = c.draw.ensures.opened;
        column = s.lists.column;
        leaves = s.lists.leaves;
        rows = s.lists.rows;
        digests = s.lists.digests;
        few = s.lists.few;
      };
      forms = prepared.forms;
      factors = prepared.factors;
      rooms = prepared.rooms;
      ready = λ drawn. record {
        rows = subst (λ (z : List g.row.F.Denot × List g.row.F.Denot). AreWeightedRows f.ops f.coding.element p c.prepare-self.new.self.combined (combined_row_of f.ops f.coding.element w z.0 d.script (messages_in p z.1) d.challenges))
            (λ i. (c.deref-2.ensures.value i, c.deref.ensures.value i)) prepared.rows;
        wanted = prepared.wanted ∙ (λ i. wanted_of f.ops f.coding.element w (c.deref-2.ensures.value i) d.script (messages_in p (c.deref.ensures.value i)) d.challenges);
        answers = prepared.answers ∙ ap (weighted_answers f.ops f.coding.element p) c.deref.ensures.value;
      };
    }

pub returns-clause-others : goal.returns-clause-others
returns-clause-others g c = refl

pub returns-clause-given : goal.returns-clause-given
returns-clause-given g c =
    let f = g.F.Field in
    c.draw.ensures.drawn ∙ ap (whole_transcript f.ops f.coding c.args.plan.now.circuit.now c.args.plan.now.params c.args.self.now.tape c.args.self.now.root) c.deref.ensures.value
