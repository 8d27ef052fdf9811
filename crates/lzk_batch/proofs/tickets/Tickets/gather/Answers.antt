use Rattle.std.proofs.Common.{rules}
use Rattle.lzk_batch.proofs.Dealing.{gathered_one, gathered_more, gathered_of, gathered_whole, gathered_all}
use Rattle.lzk_batch.proofs.tickets.Tickets.gather.Goals as goal

pub loop-pass-init : goal.loop-pass-init
loop-pass-init c = gathered_one c.args.self c.args.passes.items c.pop.new.self.items c.in-Some.all c.in-Some.ensures.items c.requires.all

pub join_in-requires : goal.join_in-requires
join_in-requires c = record { of = (c.loop-pass.invariant.one_of, gathered_of c.args.self c.args.passes.items c.loop-pass.passes.items c.pop-in-loop-pass.new.self.items c.loop-pass.all c.in-Some-pop.pass c.in-Some-pop.ensures.items c.loop-pass.invariant) }

pub loop-pass-preserved : goal.loop-pass-preserved
loop-pass-preserved c = gathered_more c.args.self c.args.passes.items c.loop-pass.passes.items c.pop-in-loop-pass.new.self.items c.loop-pass.all c.in-Some-pop.pass c.join_in.new.self c.in-Some-pop.ensures.items c.join_in.ensures.both c.loop-pass.invariant

pub close-requires-clause-of : goal.close-requires-clause-of
close-requires-clause-of c = c.loop-pass.invariant.one_of

pub close-requires-clause-whole : goal.close-requires-clause-whole
close-requires-clause-whole c = gathered_whole c.args.self c.args.passes.items c.loop-pass.passes.items c.loop-pass.all (search rules) c.loop-pass.invariant

pub returns-clause-once : goal.returns-clause-once
returns-clause-once c = gathered_all c.args.self c.args.passes.items c.loop-pass.passes.items c.loop-pass.all c.close.result (search rules) c.loop-pass.invariant c.close.ensures
