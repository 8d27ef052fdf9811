use Rattle.std.proofs.Common.{◌+◌, ◌-◌, length, sym, refl, ◌∙◌, arith, rules}
use Rattle.std.proofs.Math.ListN.{set}
use Rattle.lzk_transcript.proofs.PutIn.{inserted}
use Rattle.lzk_transcript.proofs.columns.insert.Goals as goal

pub returns : goal.returns
returns c =
    let last = length c.args.columns.now - 1 in
    let place = c.passed-place.result in
    let number = c.args.left + place in
    let room = length (set c.args.columns.now last number) - place in
    inserted c.args.columns.now c.rotate_right.new.self number place room last (omega arith) (search rules) refl c.rotate_right.ensures.after
    ∙ sym c.passed-place.ensures.place
