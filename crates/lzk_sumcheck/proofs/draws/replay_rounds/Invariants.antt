use Rattle.lzk_sumcheck.proofs.RoundLaws.{AreRounds}
use Rattle.lzk_sumcheck.proofs.draws.replay_rounds.Given as goal

abbrev pub invariant-loop-j : goal.invariant-loop-j
invariant-loop-j g l =
    let f = g.F.Field in
    AreRounds f.ops f.coding l.messages l.i l.fn.tape l.j l.tape l.ra l.rb
