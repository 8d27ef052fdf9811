use Rattle.lzk_profile.specs.Profile.{most_digests}
use Rattle.std.proofs.Common.{◌≡◌, length}
use Rattle.lzk_layout.specs.Sizes.{proof_length}
use Rattle.lzk_ligero_steps.specs.Rooms.{IsRoomFor, IsSentFor}
use Rattle.lzk_ligero_steps.proofs.Together.{made, first_made, second_made}
use Rattle.lzk_ligero_steps.proofs.parts.Answering.new.Goals as goal

pub new-requires-clause-id : goal.new-requires-clause-id
new-requires-clause-id g c κs within = c.requires.id

pub returns : goal.returns
returns g c =
    let f = g.F.Field in
    let circuit = c.args.plan.now.circuit.now in
    let p = c.args.plan.now.params in
    let listed = c.in_ok-bytes.ensures.first in
    record {
      room = made c.new-2.result _ (IsRoomFor f.ops circuit p c.args.room) c.in_ok-bytes.ensures.second c.new-2.ensures;
      sent = second_made c.both-listed.result _ listed c.new.result (IsSentFor f.coding circuit p) c.both-listed.ensures.second c.new.ensures;
      bytes = first_made c.both-listed.result _ listed c.file_room.result (λ bytes. length bytes.items ≡ proof_length f.coding.bytes p most_digests) c.both-listed.ensures.first c.file_room.ensures;
    }
