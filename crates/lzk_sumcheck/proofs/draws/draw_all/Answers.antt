use Rattle.std.proofs.Common.{◌≡◌, ◌<◌, refl, ap, ◌∙◌, length, arith}
use Rattle.lzk_transcript.specs.Tape.{drawn}
use Rattle.lzk_transcript.specs.Columns.{after_draws, draw_at}
use Rattle.lzk_sumcheck.proofs.Filled.{filled_more, filled_whole}
use Rattle.lzk_sumcheck.proofs.RoundLaws.{draws_more}
use Rattle.lzk_sumcheck.proofs.draws.draw_all.Goals as goal

pub loop-i-init : goal.loop-i-init
unfolding after_draws
loop-i-init g c = record { tape = refl; out = λ k h. absurd (omega arith) }

pub loop-i-preserved : goal.loop-i-preserved
loop-i-preserved g c =
    let f = g.F.Field in
    let within : c.loop-i.i < length c.loop-i.out = omega arith in
    record {
      tape = c.draw.ensures.after ∙ draws_more c.loop-i.i c.args.tape.now c.loop-i.tape c.loop-i.invariant.tape;
      out = filled_more f.ops.zero (λ k. f.coding.element (draw_at k c.args.tape.now)) c.loop-i.i c.loop-i.out c.draw.result within
          (c.draw.ensures.value ∙ ap (λ t. f.coding.element (drawn t)) c.loop-i.invariant.tape) c.loop-i.invariant.out;
    }

pub returns-clause-drawn : goal.returns-clause-drawn
returns-clause-drawn g c =
    let f = g.F.Field in
    let all : c.loop-i.i ≡ length c.args.out.now = omega arith in
    filled_whole f.ops.zero (λ k. f.coding.element (draw_at k c.args.tape.now)) (length c.args.out.now) c.loop-i.out (omega arith)
    (λ k h. c.loop-i.invariant.out k (omega arith))
