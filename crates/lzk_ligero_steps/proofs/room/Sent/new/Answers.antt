use Rattle.std.proofs.Common.{◌≡◌, ap, arith, refl}
use Rattle.lzk_layout.specs.Proofs.{HasLengths, zero_proof}
use Rattle.lzk_sumcheck.specs.Script as sumcheck
use Rattle.lzk_accept.specs.Challenges as accept
use Rattle.lzk_ligero_steps.proofs.Together.{made, first_made, second_made}
use Rattle.lzk_ligero_steps.proofs.room.Sent.new.Goals as goal

pub returns : goal.returns
returns g c =
    let circuit = c.args.plan.now.circuit.now in
    let p = c.args.plan.now.params in
    let drawn = c.in_ok-script.ensures.first in
    let zeros = made c.new-3.result _ (λ proof. proof ≡ zero_proof g.F.Field.ops p) c.in_ok-script.ensures.second c.new-3.ensures.zeros in
    let lengths = made c.new-3.result _ (HasLengths p) c.in_ok-script.ensures.second c.new-3.ensures.lengths in
    record {
      id = c.requires.id;
      lengths = record {
        messages = lengths.messages;
        ldt = lengths.ldt;
        dot = lengths.dot;
        quad_head = lengths.quad_head;
        quad_tail = lengths.quad_tail;
        nonces = lengths.nonces;
        columns = lengths.columns;
      };
      path = omega (arith, ap (λ proof. proof.path.room) zeros);
      script = first_made c.both-drawn.result _ drawn c.new.result (sumcheck.HasShape circuit) c.both-drawn.ensures.first c.new.ensures.shape;
      challenges = second_made c.both-drawn.result _ drawn c.new-2.result (accept.HasShape p) c.both-drawn.ensures.second c.new-2.ensures.shape;
      columns = refl;
    }
