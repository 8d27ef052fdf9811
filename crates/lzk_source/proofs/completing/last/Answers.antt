use Rattle.std.proofs.Common.{vec_len}
use Rattle.lzk_source.proofs.Completion.{popped, none_popped}
use Rattle.lzk_source.proofs.Popped.{popped_none}
use Rattle.lzk_source.proofs.completing.last.Goals as goal

pub returns-in-Some : goal.returns-in-Some
returns-in-Some c = λ before e h. popped c.args.ended.now.items c.pop.new.self.items c.in-Some.expr before e c.in-Some.ensures.items h

pub returns-in-None : goal.returns-in-None
returns-in-None c = λ before e h.
    let old = c.args.ended.now in
    absurd (none_popped old.items before e (popped_none (vec_len old) old.items c.pop.new.self.items c.in-None.ensures.cases.0 c.in-None.ensures.rest c.in-None.ensures.items) h)
