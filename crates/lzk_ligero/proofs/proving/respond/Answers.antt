use Rattle.std.proofs.Common.{◌≡◌, ◌*◌, length, refl, sym, ap, ◌∙◌, arith, subst}
use Rattle.lzk_sumcheck.specs.Messages.{AreMessages}
use Rattle.lzk_sumcheck.specs.Opening.{opening}
use Rattle.lzk_ligero_answers.specs.Rows.{IsTableOf}
use Rattle.lzk_ligero_proof.specs.Answered.{AreSent, answers_of}
use Rattle.lzk_ligero.specs.Changes.{change_of}
use Rattle.lzk_ligero.proofs.Drawn.{drawn_is}
use Rattle.lzk_ligero.proofs.proving.respond.Goals as goal

pub send-requires-clause-values : goal.send-requires-clause-values
send-requires-clause-values g c κs within = c.requires.values

pub send-requires-clause-pads : goal.send-requires-clause-pads
send-requires-clause-pads g c κs within = ap length c.pads-pads.ensures.pads ∙ c.requires.table.pads

pub send-requires-clause-room : goal.send-requires-clause-room
send-requires-clause-room g c κs within = c.requires.room.rounds

pub send-requires-clause-sent : goal.send-requires-clause-sent
send-requires-clause-sent g c κs within = c.requires.sent

pub invariant_of-asked : goal.invariant_of-asked
invariant_of-asked g c =
    let given = c.args.given.now in
    record {
      publics = given.publics;
      table_fits = c.rows.ensures.size ∙ ap (λ p. p.nrow * p.ncol) (c.requires.table.params ∙ sym given.plan.now.are);
      script_fits = c.send.ensures.sent.script;
      challenges_fit = c.send.ensures.sent.challenges;
    }

pub answer-requires-clause-reach : goal.answer-requires-clause-reach
answer-requires-clause-reach g c κs within = c.requires.reach

pub answer-requires-clause-room : goal.answer-requires-clause-room
answer-requires-clause-room g c κs within =
    let room = c.requires.room in
    record {
      rounds = c.send.ensures.room;
      forms = room.forms;
      factored = room.factored;
      sums = room.sums;
      values = room.values;
    }

pub answer-requires-clause-bounds : goal.answer-requires-clause-bounds
answer-requires-clause-bounds g c κs within = c.send.ensures.bounds

pub answer-requires-clause-lengths : goal.answer-requires-clause-lengths
answer-requires-clause-lengths g c κs within = c.send.ensures.sent.lengths

pub make_change-requires-clause-change : goal.make_change-requires-clause-change
make_change-requires-clause-change g c κs within = c.requires.change

pub make_change-requires-clause-lengths : goal.make_change-requires-clause-lengths
make_change-requires-clause-lengths g c κs within = c.answer.ensures.lengths

pub returns-clause-room : goal.returns-clause-room
returns-clause-room g c = c.answer.ensures.room

pub returns-clause-sent : goal.returns-clause-sent
returns-clause-sent g c =
    let sent = c.send.ensures.sent in
    record {
      id = c.make_change.ensures.id ∙ c.answer.ensures.id ∙ sent.id;
      lengths = c.make_change.ensures.lengths;
      path = omega (arith, sent.path, ap (λ path. path.room) (c.make_change.ensures.path ∙ c.answer.ensures.path));
      script = sent.script;
      challenges = sent.challenges;
      columns = c.draw_columns.ensures.room;
    }

pub returns-clause-bytes : goal.returns-clause-bytes
returns-clause-bytes g c = refl

pub returns-clause-root : goal.returns-clause-root
returns-clause-root g c = c.make_change.ensures.root ∙ c.answer.ensures.root ∙ c.send.ensures.root

pub returns-clause-messages : goal.returns-clause-messages
returns-clause-messages g c =
    let f = g.F.Field in
    let given = c.args.given.now in
    let e = f.coding in
    let w = given.plan.now.circuit.now in
    let wires = c.args.values.now.wires in
    let old = c.args.answering.now.sent.proof in
    let new = c.make_change.new.proof in
    let id : new.id ≡ old.id = c.make_change.ensures.id ∙ c.answer.ensures.id ∙ c.send.ensures.id in
    let root : new.root ≡ old.root = c.make_change.ensures.root ∙ c.answer.ensures.root ∙ c.send.ensures.root in
    let tape : c.open_tape-tape.result ≡ opening e given.session.now new.id given.public.now new.root =
    subst (λ root. c.open_tape-tape.result ≡ opening e given.session.now new.id given.public.now root) (sym root)
    (subst (λ id. c.open_tape-tape.result ≡ opening e given.session.now id given.public.now old.root) (sym id) c.open_tape-tape.ensures) in
    let with_pads = subst (λ pads. AreMessages f.ops e w wires pads c.open_tape-tape.result c.send.new.sent.proof.messages) c.pads-pads.ensures.pads c.send.ensures.messages in
    let with_tape = subst (λ tape. AreMessages f.ops e w wires c.args.tableau.now.pads tape c.send.new.sent.proof.messages) tape with_pads in
    subst (AreMessages f.ops e w wires c.args.tableau.now.pads (opening e given.session.now new.id given.public.now new.root)) (sym (c.make_change.ensures.messages ∙ c.answer.ensures.messages)) with_tape

pub returns-clause-opened : goal.returns-clause-opened
returns-clause-opened g c = c.draw_columns.ensures.opened

pub returns-clause-drawn : goal.returns-clause-drawn
returns-clause-drawn g c =
    let f = g.F.Field in
    let e = f.coding in
    let id : c.make_change.new.proof.id ≡ c.args.answering.now.sent.proof.id = c.make_change.ensures.id ∙ c.answer.ensures.id ∙ c.send.ensures.id in
    let root : c.make_change.new.proof.root ≡ c.args.answering.now.sent.proof.root = c.make_change.ensures.root ∙ c.answer.ensures.root ∙ c.send.ensures.root in
    let starts : c.open_tape-tape.result ≡ opening e c.args.given.now.session.now c.make_change.new.proof.id c.args.given.now.public.now c.make_change.new.proof.root =
    subst (λ root. c.open_tape-tape.result ≡ opening e c.args.given.now.session.now c.make_change.new.proof.id c.args.given.now.public.now root) (sym root)
    (subst (λ id. c.open_tape-tape.result ≡ opening e c.args.given.now.session.now id c.args.given.now.public.now c.args.answering.now.sent.proof.root) (sym id) c.open_tape-tape.ensures) in
    drawn_is f.ops e c.args.given.now.plan.now.circuit.now c.args.given.now.session.now c.args.given.now.public.now c.args.given.now.plan.now.params c.make_change.new.proof c.send.new.sent.proof.messages c.send.new.sent.script c.send.new.sent.challenges
    c.draw_columns.new.columns _ _ c.args.given.now.plan.now.are starts (c.make_change.ensures.messages ∙ c.answer.ensures.messages) c.send.ensures.script c.send.ensures.challenges c.send.ensures.tape c.draw_columns.ensures.columns

pub returns-clause-answers : goal.returns-clause-answers
returns-clause-answers g c = λ rows count table.
    let f = g.F.Field in
    let p = c.args.given.now.plan.now.params in
    let made = c.answer.ensures.answers rows count (subst (λ xs. IsTableOf f.ops f.coding.element p.ncol rows xs) (sym c.rows.ensures.rows) table) in
    subst (λ sent. AreSent p (change_of f.ops c.args.change (answers_of f.ops f.coding.element c.args.given.now.plan.now.circuit.now p c.args.given.now.public.now c.send.new.sent.script sent c.send.new.sent.challenges rows)) c.make_change.new.proof)
    (sym c.make_change.ensures.messages)
    (c.make_change.ensures.answers _ made)
