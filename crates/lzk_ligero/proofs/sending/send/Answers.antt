use Rattle.std.proofs.Common.{◌≡◌, length, refl, sym, ap, ◌∙◌, subst}
use Rattle.lzk_transcript.specs.Columns.{after_draws}
use Rattle.lzk_sumcheck.specs.Messages.{AreMessages}
use Rattle.lzk_sumcheck.specs.Script as sumcheck
use Rattle.lzk_sumcheck.proofs.Filled.{refill_whole}
use Rattle.lzk_accept.specs.Challenges.{challenges, challenge_count}
use Rattle.lzk_ligero.proofs.sending.send.Goals as goal

pub invariant_of-on : goal.invariant_of-on
invariant_of-on g c = record { widths = c.requires.values; count = c.requires.pads }

pub prove_assigned-requires-clause-room : goal.prove_assigned-requires-clause-room
prove_assigned-requires-clause-room g c κs within = c.requires.room

pub prove_assigned-requires-clause-messages : goal.prove_assigned-requires-clause-messages
prove_assigned-requires-clause-messages g c κs within =
    ap length c.as_mut_slice.ensures.value ∙ c.requires.sent.lengths.messages ∙ ap (λ p. p.nsum) c.args.plan.now.are

pub prove_assigned-requires-clause-shape : goal.prove_assigned-requires-clause-shape
prove_assigned-requires-clause-shape g c κs within = c.requires.sent.script

pub draw_challenges-requires-clause-shape : goal.draw_challenges-requires-clause-shape
draw_challenges-requires-clause-shape g c κs within = c.requires.sent.challenges

pub returns-clause-sent : goal.returns-clause-sent
returns-clause-sent g c =
    let sent = c.requires.sent in
    let old = c.args.sent.now.proof.messages in
    let size = c.prove_assigned.auto.messages ∙ ap length c.as_mut_slice.ensures.value in
    record {
      id = sent.id;
      lengths = record {
        messages = ap length (refill_whole (length old) old c.prove_assigned.new.messages size) ∙ size ∙ sent.lengths.messages;
        ldt = sent.lengths.ldt;
        dot = sent.lengths.dot;
        quad_head = sent.lengths.quad_head;
        quad_tail = sent.lengths.quad_tail;
        nonces = sent.lengths.nonces;
        columns = sent.lengths.columns;
      };
      path = sent.path;
      script = c.prove_assigned.ensures.shape;
      challenges = c.draw_challenges.ensures.shape;
      columns = sent.columns;
    }

pub returns-clause-id : goal.returns-clause-id
returns-clause-id g c = refl

pub returns-clause-root : goal.returns-clause-root
returns-clause-root g c = refl

pub returns-clause-messages : goal.returns-clause-messages
returns-clause-messages g c =
    let f = g.F.Field in
    let old = c.args.sent.now.proof.messages in
    let new = c.prove_assigned.new.messages in
    let whole = refill_whole (length old) old new (c.prove_assigned.auto.messages ∙ ap length c.as_mut_slice.ensures.value) in
    subst (AreMessages f.ops f.coding c.args.plan.now.circuit.now c.args.values.now.wires c.args.pads.now c.args.tape.now) (sym whole) c.prove_assigned.ensures.messages

pub returns-clause-script : goal.returns-clause-script
returns-clause-script g c =
    let f = g.F.Field in
    let old = c.args.sent.now.proof.messages in
    let new = c.prove_assigned.new.messages in
    let whole = refill_whole (length old) old new (c.prove_assigned.auto.messages ∙ ap length c.as_mut_slice.ensures.value) in
    subst (λ ms. c.prove_assigned.new.script ≡ sumcheck.script f.ops f.coding ms c.args.plan.now.circuit.now c.args.tape.now) (sym whole) c.prove_assigned.ensures.script

pub returns-clause-challenges : goal.returns-clause-challenges
returns-clause-challenges g c =
    let f = g.F.Field in
    let p = c.args.plan.now.params in
    let old = c.args.sent.now.proof.messages in
    let new = c.prove_assigned.new.messages in
    let whole = refill_whole (length old) old new (c.prove_assigned.auto.messages ∙ ap length c.as_mut_slice.ensures.value) in
    let after = subst (λ ms. c.prove_assigned.new.tape ≡ sumcheck.after_script f.ops f.coding ms c.args.plan.now.circuit.now c.args.tape.now) (sym whole) c.prove_assigned.ensures.tape in
    subst (λ tape. c.draw_challenges.new.out ≡ challenges f.coding p tape) after c.draw_challenges.ensures.challenges

pub returns-clause-tape : goal.returns-clause-tape
returns-clause-tape g c =
    let f = g.F.Field in
    let p = c.args.plan.now.params in
    let old = c.args.sent.now.proof.messages in
    let new = c.prove_assigned.new.messages in
    let whole = refill_whole (length old) old new (c.prove_assigned.auto.messages ∙ ap length c.as_mut_slice.ensures.value) in
    let after = subst (λ ms. c.prove_assigned.new.tape ≡ sumcheck.after_script f.ops f.coding ms c.args.plan.now.circuit.now c.args.tape.now) (sym whole) c.prove_assigned.ensures.tape in
    subst (λ tape. c.draw_challenges.new.tape ≡ after_draws (challenge_count p) tape) after c.draw_challenges.ensures.tape

pub returns-clause-room : goal.returns-clause-room
returns-clause-room g c = c.prove_assigned.ensures.room

pub returns-clause-bounds : goal.returns-clause-bounds
returns-clause-bounds g c = c.prove_assigned.ensures.bounds
