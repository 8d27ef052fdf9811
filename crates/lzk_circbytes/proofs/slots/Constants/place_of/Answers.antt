use Rattle.std.proofs.Common.{slice_index_or}
use Rattle.lzk_circbytes.proofs.Written.{place_at, place_is, place_there}
use Rattle.lzk_circbytes.proofs.slots.Constants.place_of.Goals as goal

pub returns-then-self-k : goal.returns-then-self-k
returns-then-self-k c =
    place_at c.args.self.now.numbers.now c.args.n (slice_index_or c.args.self.now.places.now c.slot_among-slot.result 0) c.args.self.now.rising c.requires.found c.if-k-self.true c.if-self-k.true

pub unreachable-requires : goal.unreachable-requires
unreachable-requires c = place_there c.args.self.now.numbers.now c.args.n c.in-Err.field-0 c.args.self.now.rising c.requires.found c.in-Err.ensures.position

pub returns : goal.returns
returns c = place_is c.args.self.now.numbers.now c.args.n c.in-Ok.k c.args.self.now.rising c.requires.found c.in-Ok.ensures.position
