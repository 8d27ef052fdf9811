use Rattle.std.proofs.Common.{◌∙◌, arith, refl}
use Rattle.lzk_expr.proofs.Values.{stop_at, value_more, value_is, value_large}
use Rattle.lzk_expr.proofs.digits.value.Goals as goal

pub loop-c-init : goal.loop-c-init
loop-c-init c = record { number = 0; held = refl; read = refl }

pub returns-then-d-base : goal.returns-then-d-base
returns-then-d-base c = c.loop-c.invariant.read ∙ stop_at c.args.base.number c.loop-c.invariant.number c.loop-c.c-index c.args.digits.now c.loop-c-test.true (omega (arith, c.if-d-base.true, c.digit-d.ensures))

pub loop-c-preserved : goal.loop-c-preserved
loop-c-preserved c = value_more c.args.base.number c.loop-c.c-index c.digit-d.result c.args.digits.now c.loop-c.have c.with_digit-have.result c.loop-c-test.true c.digit-d.ensures c.if-d-base.false c.with_digit-have.ensures c.loop-c.invariant

pub returns-in-Some : goal.returns-in-Some
returns-in-Some c = value_is c.args.base.number c.loop-c.c-index c.in-Some.n c.args.digits.now c.loop-c.have c.loop-c-test.false c.in-Some.is c.loop-c.invariant

pub returns-in-None : goal.returns-in-None
returns-in-None c = value_large c.args.base.number c.loop-c.c-index c.args.digits.now c.loop-c.have c.loop-c-test.false c.in-None.is c.loop-c.invariant
