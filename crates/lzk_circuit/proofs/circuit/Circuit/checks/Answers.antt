use Rattle.std.proofs.Common.{◌≤◌, ◌+◌, subst, sym}
use Rattle.lzk_circuit.specs.Checks.{check_count}
use Rattle.lzk_circuit.specs.Limits.{most_wires, most_total}
use Rattle.lzk_circuit.proofs.CheckLaws.{few-checks}
use Rattle.lzk_circuit.proofs.circuit.Circuit.checks.Goals as goal

pub count_checks-requires-after_bounds : goal.count_checks-requires-after_bounds
count_checks-requires-after_bounds g c κs within =
    let number = g.F.Field.coding.number in
    subst (λ ls. check_count number ls ≤ most_wires + most_total) (sym c.layers.ensures.layers) (few-checks g.F.Field.ops number c.args.self.now c.layers.ensures.valid)
