use Rattle.std.proofs.Common.{◌≡◌, length, ap, sym, subst, ◌∙◌, arith}
use Rattle.std.specs.Vec.{with_items}
use Rattle.std.proofs.lemmas.List.{with_items_is}
use Rattle.lzk_profile.specs.Profile.{opened_count}
use Rattle.lzk_merkle.specs.Nodes.{AreOpened}
use Rattle.lzk_transcript.specs.Tape.{TapeState}
use Rattle.lzk_transcript.specs.Columns.{opened, after_draws}
use Rattle.lzk_layout.specs.declared.params.Params.{Params}
use Rattle.lzk_sumcheck.specs.Draws.{with_array}
use Rattle.lzk_sumcheck.specs.Script as sumcheck
use Rattle.lzk_accept.specs.Challenges as accept
use Rattle.lzk_accept.specs.Challenges.{Transcript, challenges, challenge_count}
use Rattle.lzk_verify.specs.Kept.{ldt_in, dot_in, head_in, tail_in, whole_transcript}
use Rattle.lzk_verify.proofs.drawing.Drawn.draw.Goals as goal

pub replay-requires-clause-messages : goal.replay-requires-clause-messages
replay-requires-clause-messages g c κs within = c.messages_of.ensures.length ∙ ap (λ (p : Params). p.nsum) c.args.sent.now.plan.now.are

pub replay-requires-clause-shape : goal.replay-requires-clause-shape
replay-requires-clause-shape g c κs within = subst (λ (t : Transcript g.row.F.Denot). sumcheck.HasShape c.args.sent.now.plan.now.circuit.now t.script) (sym c.self.view_is) c.requires.room.script

pub draw_challenges-requires-clause-shape : goal.draw_challenges-requires-clause-shape
draw_challenges-requires-clause-shape g c κs within = subst (λ (t : Transcript g.row.F.Denot). accept.HasShape c.args.sent.now.plan.now.params t.challenges) (sym c.self.view_is) c.requires.room.challenges

pub draw_columns-requires-clause-room : goal.draw_columns-requires-clause-room
draw_columns-requires-clause-room g c κs within = ap length c.deref_mut.ensures.value ∙ ap (λ (t : Transcript g.row.F.Denot). length t.columns) c.self.view_is ∙ c.requires.room.columns

pub returns-clause-drawn : goal.returns-clause-drawn
unfolding whole_transcript
returns-clause-drawn g c =
    let o = g.F.Field.ops in
    let e = g.F.Field.coding in
    let w = c.args.sent.now.plan.now.circuit.now in
    let p = c.args.sent.now.plan.now.params in
    let all = c.args.sent.now.elements.now in
    let columns = c.self.inside.columns in
    let same : (with_items columns c.draw_columns.new.columns).items ≡ c.draw_columns.new.columns =
    with_items_is columns c.draw_columns.new.columns
    (omega (arith, c.draw_columns.ensures.room, ap (λ (t : Transcript g.row.F.Denot). length t.columns) c.self.view_is, c.requires.room.columns, columns.ok.0)) in
    let bytes = c.bytes.ensures in
    let messages = c.messages_of.ensures.value in
    let behind = c.replay.ensures.tape ∙ (λ i. sumcheck.after_script o e (messages i) w (bytes i)) in
    let drawn = c.draw_challenges.ensures.tape ∙ ap (after_draws (challenge_count p)) behind in
    let opened_are = c.draw_columns.ensures.columns ∙ ap (λ (t : TapeState). opened p.mcol opened_count (with_array e (tail_in p all) (with_array e (head_in p all) (with_array e (dot_in p all) (with_array e (ldt_in p all) t))))) drawn in
    λ i. record {
      script = (c.replay.ensures.script ∙ (λ j. sumcheck.script o e (messages j) w (bytes j))) i;
      challenges = (c.draw_challenges.ensures.challenges ∙ ap (challenges e p) behind) i;
      columns = (same ∙ opened_are) i;
    }

pub returns-clause-room : goal.returns-clause-room
returns-clause-room g c =
    let columns = c.self.inside.columns in
    record {
      script = c.replay.ensures.shape;
      challenges = c.draw_challenges.ensures.shape;
      columns = ap length (with_items_is columns c.draw_columns.new.columns
          (omega (arith, c.draw_columns.ensures.room, ap (λ (t : Transcript g.row.F.Denot). length t.columns) c.self.view_is, c.requires.room.columns, columns.ok.0)))
          ∙ c.draw_columns.ensures.room;
    }

pub returns-clause-opened : goal.returns-clause-opened
returns-clause-opened g c =
    let columns = c.self.inside.columns in
    subst (AreOpened c.args.sent.now.plan.now.params.mcol) (sym (with_items_is columns c.draw_columns.new.columns
    (omega (arith, c.draw_columns.ensures.room, ap (λ (t : Transcript g.row.F.Denot). length t.columns) c.self.view_is, c.requires.room.columns, columns.ok.0)))) c.draw_columns.ensures.opened
