use Rattle.std.proofs.Common.{◌<◌, refl, length, arith}
use Rattle.lzk_sumcheck.specs.Script.{after_rounds}
use Rattle.lzk_sumcheck.proofs.RoundLaws.{more_rounds}
use Rattle.lzk_sumcheck.proofs.draws.replay_rounds.Goals as goal

pub loop-j-init : goal.loop-j-init
unfolding after_rounds
loop-j-init g c = record { tape = refl; ra = λ k h. absurd (omega arith); rb = λ k h. absurd (omega arith) }

pub loop-j-preserved : goal.loop-j-preserved
loop-j-preserved g c =
    let f = g.F.Field in
    let l = c.loop-j in
    let first = c.replay_round in
    let second = c.replay_round-in-loop-j in
    let wa : l.j < length l.ra = omega arith in
    let wb : l.j < length l.rb = omega arith in
    more_rounds f.ops f.coding c.args.messages.now c.args.i c.args.tape.now l.j l.tape first.new.tape second.new.tape l.ra l.rb
    first.result second.result l.invariant wa wb first.ensures.challenge first.ensures.after second.ensures.challenge second.ensures.after
