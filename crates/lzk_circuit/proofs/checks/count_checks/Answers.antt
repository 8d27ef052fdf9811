use Rattle.std.proofs.Common.{ap, sym, arith}
use Rattle.lzk_circuit.specs.Checks.{check_count}
use Rattle.lzk_circuit.proofs.DepthLaws.{nothing}
use Rattle.lzk_circuit.proofs.checks.count_checks.Goals as goal

pub returns-in_default : goal.returns-in_default
returns-in_default g c = sym (ap (check_count g.F.Field.coding.number) (nothing c.args.layers.now c.in_default.ensures.cases))

pub count_all_asserted-requires-after_bounds : goal.count_all_asserted-requires-after_bounds
count_all_asserted-requires-after_bounds g c κs within = omega (arith, c.requires, ap (check_count g.F.Field.coding.number) c.in-Some.ensures.cases.0)

pub overflow_add-result : goal.overflow_add-result
overflow_add-result g c = omega (arith, c.requires, ap (check_count g.F.Field.coding.number) c.in-Some.ensures.cases.0, c.count_all_asserted.ensures)

pub returns : goal.returns
returns g c = omega (arith, ap (check_count g.F.Field.coding.number) c.in-Some.ensures.cases.0, c.count_all_asserted.ensures)
