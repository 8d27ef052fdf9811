use Rattle.std.proofs.Common.{◌==◌}
use Rattle.lzk_expr.proofs.Runs.{same_byte, other_byte, place_here, place_none, len_behind}
use Rattle.lzk_expr.proofs.words.byte_at.Goals as goal

pub returns-then-line-i : goal.returns-then-line-i
returns-then-line-i c = place_here (λ b. b == c.args.byte) c.args.line.now c.loop-i.i c.loop-i.invariant c.loop-i-test.true (same_byte _ _ c.if-line-i.true)

pub loop-i-preserved : goal.loop-i-preserved
loop-i-preserved c = len_behind (λ b. b == c.args.byte) c.args.line.now c.loop-i.i c.loop-i.invariant c.loop-i-test.true (other_byte _ _ c.if-line-i.false)

pub returns : goal.returns
returns c = place_none (λ b. b == c.args.byte) c.args.line.now c.loop-i.i c.loop-i.invariant c.loop-i-test.false
