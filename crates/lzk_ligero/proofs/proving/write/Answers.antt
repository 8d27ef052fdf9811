use Rattle.lzk_profile.specs.Profile.{most_digests}
use Rattle.std.specs.Prelude.{◌<◌, ◌*◌, Vec, map, slice_index, take}
use Rattle.std.proofs.Common.{◌≡◌, length, refl, sym, ap, ◌∙◌, arith, subst}
use Rattle.lzk_circuit.specs.Wires.{all_values, inputs_of}
use Rattle.lzk_layout.specs.Sizes.{params_of, proof_length}
use Rattle.lzk_layout.specs.Proofs.{ProofBytes}
use Rattle.lzk_merkle.specs.Nodes.{tree_node, path_nodes}
use Rattle.lzk_sumcheck.proofs.Filled.{refill_whole}
use Rattle.lzk_sumcheck.specs.Messages.{AreMessages}
use Rattle.lzk_sumcheck.specs.Opening.{opening}
use Rattle.lzk_ligero_answers.specs.Rows.{IsTableOf}
use Rattle.lzk_ligero_tableau.specs.Filled.{AreReaching}
use Rattle.lzk_ligero_tableau.specs.Tableau.{tableau}
use Rattle.lzk_ligero_proof.specs.Answered.{AreSent, answers_of}
use Rattle.lzk_ligero_proof.specs.Proving.{words_of}
use Rattle.lzk_ligero.specs.Changes.{change_of, IsChangeOf}
use Rattle.lzk_ligero_steps.specs.Rooms.{IsRoomFor, IsSentFor, coefficient_reach}
use Rattle.lzk_ligero.proofs.Assembled.{assembled, transcript_of}
use Rattle.lzk_ligero.proofs.TableLaws.{count_rows, table_of}
use Rattle.lzk_ligero.proofs.proving.write.Goals as goal

pub commit-sent-requires-clause-made : goal.commit-sent-requires-clause-made
commit-sent-requires-clause-made g c κs within = c.requires.parts.tableau

pub commit-sent-requires-clause-reaching : goal.commit-sent-requires-clause-reaching
commit-sent-requires-clause-reaching g c κs within =
    let old = c.requires.parts in
    let parts = c.args.parts.now in
    let x = parts.extenders in
    let reach = g.X.RowExtend.reach in
    let rooms = g.X.RowExtend.rooms in
    subst (λ p. AreReaching p (reach x.short) (reach x.long) (rooms x.short) (rooms x.long) parts.committed.tableau.room) old.params old.rows

pub commit-sent-requires-clause-leaves : goal.commit-sent-requires-clause-leaves
commit-sent-requires-clause-leaves g c κs within = let old = c.requires.parts in old.leaves ∙ ap (λ p. p.mcol) old.params

pub respond-requires-clause-values : goal.respond-requires-clause-values
respond-requires-clause-values g c κs within = c.requires.parts.values

pub respond-requires-clause-table : goal.respond-requires-clause-table
respond-requires-clause-table g c κs within = c.commit-sent.ensures.made

pub open_nonces-requires-clause-below : goal.open_nonces-requires-clause-below
open_nonces-requires-clause-below g c κs within = c.respond.ensures.opened.below

pub open_nonces-requires-clause-room : goal.open_nonces-requires-clause-room
open_nonces-requires-clause-room g c κs within = let sent = c.respond.ensures.sent in sent.lengths.nonces ∙ sym sent.columns

pub open_columns-requires-clause-below : goal.open_columns-requires-clause-below
open_columns-requires-clause-below g c κs within k h =
    let params = c.args.given.now.plan.now.are ∙ sym c.commit-sent.ensures.made.params in
    subst (λ p. slice_index c.respond.new.answering.sent.columns k < p.mcol) params (c.respond.ensures.opened.below k h)

pub open_columns-requires-clause-room : goal.open_columns-requires-clause-room
open_columns-requires-clause-room g c κs within =
    let sent = c.respond.ensures.sent in
    let plan = c.args.given.now.plan.now in
    let params = plan.are ∙ sym c.commit-sent.ensures.made.params in
    sent.lengths.columns ∙ ap (λ n. n * plan.params.nrow) (sym sent.columns) ∙ ap (λ p. length c.respond.new.answering.sent.columns * p.nrow) params

pub invariant_of-opened : goal.invariant_of-opened
invariant_of-opened g c =
    let plan = c.args.given.now.plan.now in
    let b = plan.bounded in
    record {
      built = c.commit-sent.ensures.built;
      leaves = c.commit-sent.ensures.count ∙ sym (ap (λ p. p.mcol) plan.are);
      few = omega (arith, b.mcol, b.block, b.wr);
      opened = c.respond.ensures.opened;
      count = c.respond.ensures.sent.columns;
    }

pub open_path-requires : goal.open_path-requires
open_path-requires g c = c.respond.ensures.sent.path

pub write_file-requires-clause-lengths : goal.write_file-requires-clause-lengths
write_file-requires-clause-lengths g c κs within =
    let sent = c.respond.ensures.sent in
    let plan = c.args.given.now.plan.now in
    let params = plan.are ∙ sym c.commit-sent.ensures.made.params in
    record {
      messages = sent.lengths.messages;
      ldt = sent.lengths.ldt;
      dot = sent.lengths.dot;
      quad_head = sent.lengths.quad_head;
      quad_tail = sent.lengths.quad_tail;
      nonces = c.open_nonces.ensures.room ∙ sent.columns;
      columns = c.open_columns.ensures.room ∙ ap (λ p. length c.respond.new.answering.sent.columns * p.nrow) (sym params) ∙ ap (λ n. n * plan.params.nrow) sent.columns;
    }

pub write_file-requires-clause-few : goal.write_file-requires-clause-few
write_file-requires-clause-few g c κs within = c.open_path.ensures.few

pub returns-clause-inside : goal.returns-clause-inside
returns-clause-inside g c =
    let bytes = c.respond.new.answering.bytes in
    let whole = refill_whole bytes.len bytes.items c.write_file.new.bytes (omega (arith, c.write_file.ensures.room, c.deref_mut.ensures.len)) in
    omega (arith, c.write_file.ensures.inside, ap length whole)

pub respond-requires-clause-reach : goal.respond-requires-clause-reach
respond-requires-clause-reach g c κs within =
    let old = c.requires.parts in
    let plan = c.args.given.now.plan.now in
    subst (λ p. g.X.RowExtend.reach c.args.parts.now.extenders.coefficients ≡ coefficient_reach p) (old.params ∙ sym plan.are) old.coefficients

pub respond-requires-clause-change : goal.respond-requires-clause-change
respond-requires-clause-change g c κs within =
    subst (λ p. IsChangeOf p c.args.change) (sym c.args.given.now.plan.now.are) c.requires.change

pub respond-requires-clause-room : goal.respond-requires-clause-room
respond-requires-clause-room g c κs within =
    let old = c.requires.parts in
    let plan = c.args.given.now.plan.now in
    subst (λ p. IsRoomFor g.F.Field.ops plan.circuit.now p (g.X.RowExtend.rooms c.args.parts.now.extenders.coefficients) c.args.parts.now.answering.room) (old.params ∙ sym plan.are) old.room

pub respond-requires-clause-sent : goal.respond-requires-clause-sent
respond-requires-clause-sent g c κs within =
    let old = c.requires.parts in
    let plan = c.args.given.now.plan.now in
    let sent = subst (λ p. IsSentFor g.F.Field.coding plan.circuit.now p c.args.parts.now.answering.sent) (old.params ∙ sym plan.are) old.sent in
    record {
      id = sent.id;
      lengths = record {
        messages = sent.lengths.messages;
        ldt = sent.lengths.ldt;
        dot = sent.lengths.dot;
        quad_head = sent.lengths.quad_head;
        quad_tail = sent.lengths.quad_tail;
        nonces = sent.lengths.nonces;
        columns = sent.lengths.columns;
      };
      path = sent.path;
      script = sent.script;
      challenges = sent.challenges;
      columns = sent.columns;
    }

pub write_file-requires-clause-room : goal.write_file-requires-clause-room
write_file-requires-clause-room g c κs within =
    let old = c.requires.parts in
    let plan = c.args.given.now.plan.now in
    let f = g.F.Field in
    ap length c.deref_mut.ensures.value ∙ ap (λ (b : Vec _ _). length b.items) c.respond.ensures.bytes ∙ old.bytes
    ∙ ap (λ p. proof_length f.coding.bytes p most_digests) (old.params ∙ sym plan.are)

pub returns-clause-parts : goal.returns-clause-parts
returns-clause-parts g c =
    let old = c.requires.parts in
    let x = c.args.parts.now.extenders in
    let reach = g.X.RowExtend.reach in
    let rooms = g.X.RowExtend.rooms in
    let f = g.F.Field in
    let plan = c.args.given.now.plan.now in
    let w = plan.circuit.now in
    let same : plan.params ≡ c.args.parts.now.params = plan.are ∙ sym old.params in
    let sent = subst (λ p. IsSentFor f.coding w p c.respond.new.answering.sent) same c.respond.ensures.sent in
    let bytes = c.respond.new.answering.bytes in
    let whole = refill_whole bytes.len bytes.items c.write_file.new.bytes (omega (arith, c.write_file.ensures.room, c.deref_mut.ensures.len)) in
    record {
      params = old.params;
      valid = old.valid;
      bounded = old.bounded;
      values = old.values;
      checks = old.checks;
      rows = subst (AreReaching c.args.parts.now.params (reach x.short) (reach x.long) (rooms x.short) (rooms x.long)) (sym c.commit-sent.ensures.room) old.rows;
      coefficients = old.coefficients;
      tableau = c.commit-sent.ensures.made;
      leaves = c.commit-sent.ensures.count ∙ sym (λ i. (old.params i).mcol);
      room = subst (λ p. IsRoomFor f.ops w p (rooms x.coefficients) c.respond.new.answering.room) same c.respond.ensures.room;
      sent = record {
        id = sent.id;
        lengths = record {
          messages = sent.lengths.messages;
          ldt = sent.lengths.ldt;
          dot = sent.lengths.dot;
          quad_head = sent.lengths.quad_head;
          quad_tail = sent.lengths.quad_tail;
          nonces = c.open_nonces.ensures.room ∙ sent.columns;
          columns = c.open_columns.ensures.room ∙ ap (λ p. length c.respond.new.answering.sent.columns * p.nrow) c.commit-sent.ensures.made.params
              ∙ ap (λ p. length c.respond.new.answering.sent.columns * p.nrow) (sym old.params) ∙ ap (λ n. n * c.args.parts.now.params.nrow) sent.columns;
        };
        path = omega (arith, sent.path, c.open_path.ensures.room);
        script = sent.script;
        challenges = sent.challenges;
        columns = sent.columns;
      };
      bytes = ap length whole ∙ c.write_file.ensures.room ∙ ap length c.deref_mut.ensures.value ∙ ap (λ (b : Vec _ _). length b.items) c.respond.ensures.bytes ∙ old.bytes;
    }

pub returns-clause-file : goal.returns-clause-file
returns-clause-file g c =
    let f = g.F.Field in
    let o = f.ops in
    let e = f.coding in
    let w = c.args.given.now.plan.now.circuit.now in
    let session = c.args.given.now.session.now in
    let public = c.args.given.now.public.now in
    let private = c.args.given.now.private.now in
    let word = words_of (g.W.Words.at c.args.given.now.words.now) in
    let is = c.args.given.now.plan.now.are in
    let table = c.commit-sent.new.tableau in
    let sent = c.respond.new.answering.sent in
    let proof = record sent.proof { nonces = c.open_nonces.new.nonces; columns = c.open_columns.new.out; path = c.open_path.new.path } in
    let rows = tableau o e w private word in
    let tape = opening e session proof.id public proof.root in
    let with_values = subst (λ values. AreMessages o e w values table.pads tape proof.messages) c.requires.values c.respond.ensures.messages in
    let with_pads = subst (λ pads. AreMessages o e w (all_values o w.layers (inputs_of o public private)) pads tape proof.messages) c.commit-sent.ensures.pads with_values in
    let drawn = c.respond.ensures.drawn ∙ transcript_of o e w session proof.id public sent.proof proof refl refl refl refl refl refl in
    let rows_are = table_of o e.element (params_of w).ncol rows table.rows c.commit-sent.ensures.rows in
    let count = count_rows o e w private word in
    let answers = c.respond.ensures.answers rows (count ∙ sym (λ i. (is i).nrow)) (subst (λ p. IsTableOf o e.element p.ncol rows table.rows) (sym is) rows_are) in
    let change = change_of o c.args.change in
    let bytes = c.respond.new.answering.bytes in
    let whole = refill_whole bytes.len bytes.items c.write_file.new.bytes (omega (arith, c.write_file.ensures.room, c.deref_mut.ensures.len)) in
    let a = subst (λ p. AreSent p (change (answers_of o e.element w p public sent.script sent.proof.messages sent.challenges rows)) sent.proof) is answers in
    record {
      proof = proof;
      is = assembled o e w session public private word change proof (record { script = sent.script; challenges = sent.challenges; columns = sent.columns })
          c.respond.ensures.sent.id
          (c.respond.ensures.root ∙ c.commit-sent.ensures.root)
          with_pads
          drawn
          (record { low_degree = a.low_degree; linear = a.linear; quad_head = a.quad_head; quad_tail = a.quad_tail })
          c.open_nonces.ensures.nonces
          (c.open_columns.ensures.columns w private word c.commit-sent.ensures.made.params c.commit-sent.ensures.rows)
          (subst (λ leaves. c.open_path.new.path.digests ≡ map (tree_node (params_of w).mcol leaves) (path_nodes (params_of w).mcol sent.columns)) c.commit-sent.ensures.leaves
          (subst (λ p. c.open_path.new.path.digests ≡ map (tree_node p.mcol c.commit-sent.new.tree.leaves) (path_nodes p.mcol sent.columns)) is c.open_path.ensures.digests));
      written = subst (λ xs. ProofBytes e.bytes e.number (params_of w) proof (take c.write_file.result xs)) (sym whole)
          (subst (λ p. ProofBytes e.bytes e.number p proof (take c.write_file.result c.write_file.new.bytes)) is c.write_file.ensures.file);
    }
