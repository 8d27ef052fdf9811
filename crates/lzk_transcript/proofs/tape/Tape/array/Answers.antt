use Rattle.std.proofs.Common.{◌≡◌, length, map}
use Rattle.std.proofs.lemmas.List.{length-map}
use Rattle.lzk_transcript.proofs.Entries.{counted, block_appended}
use Rattle.lzk_transcript.proofs.tape.Tape.array.Goals as goal

pub loop-rest-init : goal.loop-rest-init
loop-rest-init g c =
    let numbers = map g.F.Field.coding.number c.args.es.now in
    let count : length numbers ≡ length c.args.es.now = length-map c.args.es.now g.F.Field.coding.number in
    counted g.F.Field.coding.bytes numbers (length c.args.es.now) c.args.self.now c.append_count.new.self count c.append_count.ensures

pub loop-rest-preserved : goal.loop-rest-preserved
loop-rest-preserved g c =
    block_appended g.F.Field.coding.number g.F.Field.coding.bytes c.min.result c.loop-rest.rest.now c.split_at.result.0.now c.split_at.result.1.now _
    c.loop-rest.self c.append_elements.new.self c.split_at.ensures.front c.split_at.ensures.back c.append_elements.ensures c.loop-rest.invariant
