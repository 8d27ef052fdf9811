use Rattle.std.proofs.Common.{◌∙◌, ◌+◌, ◌*◌, ℕ, arith, sym, ap, drop}
use Rattle.lzk_expr.specs.Texts.{value_in}
use Rattle.lzk_expr.proofs.Values.{value_at, stop_at, end_at}
use Rattle.lzk_expr.proofs.ShortNumbers.{digit_more, digit_fits}
use Rattle.lzk_expr.proofs.digits.short_value.Goals as goal

pub returns-then-d-base : goal.returns-then-d-base
returns-then-d-base c = c.loop-c.invariant.read ∙ stop_at c.args.base.number c.loop-c.have c.loop-c.c-index c.args.digits.now c.loop-c-test.true (omega (arith, c.if-d-base.true, c.digit-d.ensures))

pub overflow_mul-have : goal.overflow_mul-have
overflow_mul-have c = omega (arith, digit_fits c.args.base.number c.loop-c.have c.digit-d.result c.loop-c.c-index c.args.base.few c.if-d-base.false c.loop-c.invariant.bound (omega (arith, c.requires, c.loop-c-test.true)))

pub overflow_add-have : goal.overflow_add-have
overflow_add-have c = omega (arith, digit_fits c.args.base.number c.loop-c.have c.digit-d.result c.loop-c.c-index c.args.base.few c.if-d-base.false c.loop-c.invariant.bound (omega (arith, c.requires, c.loop-c-test.true)))

pub loop-c-preserved : goal.loop-c-preserved
loop-c-preserved c =
    let base : ℕ = c.args.base.number in
    record {
      read = c.loop-c.invariant.read ∙ value_at base c.loop-c.have c.loop-c.c-index c.args.digits.now c.loop-c-test.true (omega (arith, c.if-d-base.false, c.digit-d.ensures)) ∙ ap (λ d. value_in base (c.loop-c.have * base + d) (drop (c.loop-c.c-index + 1) c.args.digits.now)) (sym c.digit-d.ensures);
      bound = digit_more base c.loop-c.have c.digit-d.result c.loop-c.c-index c.args.base.few c.if-d-base.false c.loop-c.invariant.bound;
    }

pub returns : goal.returns
returns c = c.loop-c.invariant.read ∙ end_at c.args.base.number c.loop-c.have c.loop-c.c-index c.args.digits.now c.loop-c-test.false
