use Rattle.std.specs.Prelude.{replicate}
use Rattle.std.proofs.Common.{◌≡◌, Ok, ap, ◌∙◌, arith, length}
use Rattle.std.proofs.lemmas.List.{length-replicate}
use Rattle.lzk_accept.specs.Factored.{HasRoomFor}
use Rattle.lzk_accept.specs.Kept.{AreFormsOf}
use Rattle.lzk_sumcheck_rounds.specs.Room.{IsRoomOf}
use Rattle.lzk_ligero_steps.proofs.Together.{made, first_made, second_made}
use Rattle.lzk_ligero_steps.proofs.room.Room.new.Goals as goal

pub returns : goal.returns
returns g c =
    let o = g.F.Field.ops in
    let circuit = c.args.plan.now.circuit.now in
    let len = c.in-Some.len in
    let points = c.args.plan.now.params.dblock in
    let elements = c.in_ok-sums.ensures.first in
    let tables = c.in_ok-sums.ensures.second in
    let lines = made c.both-tables.result _ (λ m. c.both-lines.result ≡ Ok m.1) tables c.both-tables.ensures.second in
    let sums = first_made c.both-elements.result _ elements c.zeros.result (λ xs. xs ≡ replicate len o.zero) c.both-elements.ensures.first c.zeros.ensures in
    let values = second_made c.both-elements.result _ elements c.zeros-2.result (λ xs. xs ≡ replicate points o.zero) c.both-elements.ensures.second c.zeros-2.ensures in
    record {
      rounds = second_made c.both-lines.result _ lines c.new-2.result (IsRoomOf circuit) c.both-lines.ensures.second c.new-2.ensures.made;
      forms = first_made c.both-lines.result _ lines c.new.result (AreFormsOf o circuit) c.both-lines.ensures.first c.new.ensures.made;
      factored = first_made c.both-tables.result _ tables c.new-3.result (HasRoomFor circuit) c.both-tables.ensures.first c.new-3.ensures.room;
      sums = omega (arith, ap length sums ∙ length-replicate len o.zero, c.in-Some.ensures);
      values = ap length values ∙ length-replicate points o.zero;
    }
