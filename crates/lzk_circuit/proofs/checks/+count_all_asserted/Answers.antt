use Rattle.std.proofs.Common.{◌∙◌, length, ap, sym, arith}
use Rattle.lzk_circuit.specs.Checks.{assertion_wires, assertion_count}
use Rattle.lzk_circuit.proofs.DepthLaws.{nothing}
use Rattle.lzk_circuit.proofs.checks.+count_all_asserted.Goals as goal

pub returns-in_default : goal.returns-in_default
returns-in_default g t c = sym (ap (assertion_count g.F.Field.coding.number) (nothing c.args.layers.now c.in_default.ensures.cases))

pub overflow_cast-result : goal.overflow_cast-result
overflow_cast-result g t c =
    omega (arith, c.requires, ap (assertion_count g.F.Field.coding.number) c.in-Some.ensures.cases.0, c.count_asserted.ensures.count ∙ ap (λ ts. length (assertion_wires g.F.Field.coding.number ts)) c.as_slice.ensures)

pub count_all_asserted-requires-after_bounds : goal.count_all_asserted-requires-after_bounds
count_all_asserted-requires-after_bounds g t c κs within = omega (arith, c.requires, ap (assertion_count g.F.Field.coding.number) c.in-Some.ensures.cases.0)

pub overflow_add-result : goal.overflow_add-result
overflow_add-result g t c =
    omega (arith, c.requires, ap (assertion_count g.F.Field.coding.number) c.in-Some.ensures.cases.0, c.count_asserted.ensures.count ∙ ap (λ ts. length (assertion_wires g.F.Field.coding.number ts)) c.as_slice.ensures, c.count_all_asserted.ensures)

pub returns : goal.returns
returns g t c =
    omega (arith, ap (assertion_count g.F.Field.coding.number) c.in-Some.ensures.cases.0, c.count_asserted.ensures.count ∙ ap (λ ts. length (assertion_wires g.F.Field.coding.number ts)) c.as_slice.ensures, c.count_all_asserted.ensures)
