use Rattle.std.proofs.Common.{arith}
use Rattle.lzk_policy_circuit.proofs.Answering.{ok_map}
use Rattle.lzk_policy_circuit.proofs.TextClaims.{short_is, long_is}
use Rattle.lzk_policy_circuit.proofs.texts.assert_one_of.Goals as goal

pub returns-then-size-le7 : goal.returns-then-size-le7
returns-then-size-le7 c =
    ok_map c.assert_short.result _ _ c.assert_short.ensures (λ x d.
    short_is c.args.size c.args.s.now c.assert_short.new.s c.args.at c.args.texts.now c.requires.count (omega arith) d)

pub returns : goal.returns
returns c =
    ok_map c.assert_long.result _ _ c.assert_long.ensures (λ x d.
    long_is c.args.size c.args.s.now c.assert_long.new.s c.args.at c.args.texts.now c.requires.count (omega arith) c.requires.few d)
