use Rattle.std.proofs.Common.{arith}
use Rattle.lzk_expr.proofs.CodeReading.{end_without_field, end_without_assert, end_with_source}
use Rattle.lzk_expr.proofs.reading.ended.Goals as goal

pub returns-in_default : goal.returns-in_default
returns-in_default c = λ text taken. end_without_field text c.args.last c.args.coder.now taken c.in_default.is

pub returns-then-coder-eq0 : goal.returns-then-coder-eq0
returns-then-coder-eq0 c = λ text taken. end_without_assert text c.args.last c.args.coder.now taken c.in-Some.field c.in-Some.is c.if-coder-eq0.true

pub returns : goal.returns
returns c = λ text taken. end_with_source text c.args.last c.args.coder.now taken c.in-Some.field c.in-Some.is (omega (arith, c.if-coder-eq0.false))
