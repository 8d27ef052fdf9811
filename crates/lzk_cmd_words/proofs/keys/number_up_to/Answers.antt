use Rattle.std.proofs.Common.{arith}
use Rattle.lzk_cmd_words.proofs.Digits.{exceeds}
use Rattle.lzk_cmd_words.proofs.keys.number_up_to.Goals as goal

pub returns-then-number-from : goal.returns-then-number-from
returns-then-number-from c =
    exceeds c.args.most c.loop-i.number c.loop-i.i c.args.text.now (omega (arith, c.loop-i-test.true)) (omega (arith, c.if-number-from.true, c.saturating_sub.ensures)) c.loop-i.invariant.rest
