use Rattle.std.proofs.Common.{arith}
use Rattle.lzk_expr.proofs.Values.{grows}
use Rattle.lzk_expr.proofs.digits.with_digit.Goals as goal

pub returns-in_default : goal.returns-in_default
returns-in_default c = λ n held.
    let large = rw c.in_default.is at held in
    omega (arith, large, grows n c.args.base.number c.args.d c.args.base.some)
