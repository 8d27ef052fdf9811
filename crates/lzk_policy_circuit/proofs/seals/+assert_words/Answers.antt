use Rattle.std.proofs.Common.{◌+◌, ◌-◌, ◌*◌, ◌<◌, refl, arith}
use Rattle.lzk_policy_circuit.proofs.SealClaims.{words_more}
use Rattle.lzk_policy_circuit.proofs.seals.+assert_words.Goals as goal

pub returns : goal.returns
returns t c =
    let n = c.args.count in
    let some : 0 < n = omega arith in
    words_more n c.args.s.now c.assert_words.new.s c.assert_own.new.s c.args.at c.args.from (c.args.at + 32 * (n - 1)) (c.args.from + (n - 1)) some refl refl
    c.in_ok-assert_words.ensures c.in_ok-assert_own.ensures
