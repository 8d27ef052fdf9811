use Rattle.std.proofs.Common.{◌≡◌}
use Rattle.lzk_transcript.specs.Columns.{after_draws, draw_at}
use Rattle.lzk_sumcheck.proofs.Filled.{IsFilled}
use Rattle.lzk_sumcheck.proofs.draws.draw_all.Given as goal

abbrev pub invariant-loop-i : goal.invariant-loop-i
invariant-loop-i g l = record {
  tape : l.tape ≡ after_draws l.i l.fn.tape;
  out : IsFilled g.F.Field.ops.zero (λ k. g.F.Field.coding.element (draw_at k l.fn.tape)) l.i l.out;
}
