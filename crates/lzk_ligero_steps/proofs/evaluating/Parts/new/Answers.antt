use Rattle.std.proofs.Common.{arith, subst}
use Rattle.lzk_circuit.specs.Checks.{HasRoom}
use Rattle.lzk_ligero_steps.specs.Parts.{IsAnsweringFor, IsCommittedFor}
use Rattle.lzk_ligero_steps.specs.Rooms.{IsRoomFor}
use Rattle.lzk_ligero_steps.proofs.Together.{made, first_made, second_made}
use Rattle.lzk_ligero_steps.proofs.evaluating.Parts.new.Goals as goal

pub returns : goal.returns
returns g c =
    let f = g.F.Field in
    let circuit = c.args.circuit.now in
    let p = c.of-params.result in
    let params = c.of-params.ensures in
    let extenders = c.in_ok-extenders.ensures in
    let rows = c.in_ok-values.ensures.first in
    let values = first_made c.both-rows.result _ rows c.new.result (HasRoom f.coding.number circuit) c.both-rows.ensures.first c.new.ensures.room in
    let committed = second_made c.both-rows.result _ rows c.new-2.result (IsCommittedFor circuit p c.larger-room.result) c.both-rows.ensures.second c.new-2.ensures in
    let answering = made c.new-lines.result _ (IsAnsweringFor f.ops f.coding circuit p c.room_len-coefficient_room.result) c.in_ok-values.ensures.second c.new-lines.ensures in
    record {
      params = params.params;
      valid = params.valid;
      bounded = params.bounds;
      values = values.0;
      checks = values.1;
      rows = record {
        short_reach = extenders.short;
        long_reach = extenders.long;
        short_room = omega (arith, c.room_len.ensures.rooms, c.larger-room.ensures.first, committed.room);
        long_room = omega (arith, c.room_len-2.ensures.rooms, c.larger-room.ensures.second, committed.room);
      };
      coefficients = extenders.coefficients;
      tableau = committed.tableau;
      leaves = committed.leaves;
      room = subst (λ n. IsRoomFor f.ops circuit p n c.in_ok-values.answering.room) c.room_len-coefficient_room.ensures.rooms answering.room;
      sent = answering.sent;
      bytes = answering.bytes;
    }
