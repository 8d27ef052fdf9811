use Rattle.std.proofs.Common.{◌∙◌, ap, sym, arith, ◌-◌, ◌^◌, ◌+◌, min, max}
use Rattle.lzk_level.specs.Bounds.{gate_depth, gate_weight}
use Rattle.lzk_level.specs.FlatGates.{gate_of}
use Rattle.lzk_circuit_reduce.specs.Renumbering.{at}
use Rattle.lzk_level.proofs.measure.gate_sizes.Goals as goal

pub overflow_add-result : goal.overflow_add-result
overflow_add-result g c = omega (arith, c.larger.ensures, c.of_node-left.ensures, c.of_node-right.ensures, c.requires.low c.in-Mul.x, c.requires.low c.in-Mul.y)

pub returns-in-Constant-clause-depth : goal.returns-in-Constant-clause-depth
returns-in-Constant-clause-depth g c = ap (λ q. gate_depth c.args.depths.now (gate_of q)) (sym c.in-Constant.is)

pub returns-in-Constant-clause-weight : goal.returns-in-Constant-clause-weight
returns-in-Constant-clause-weight g c = ap (λ q. min (2 ^ 64 - 1) (gate_weight c.args.weights.now (gate_of q))) (sym c.in-Constant.is)

pub returns-in-Combine-clause-depth : goal.returns-in-Combine-clause-depth
returns-in-Combine-clause-depth g c = c.parts_sizes.ensures.depth ∙ ap (λ q. gate_depth c.args.depths.now (gate_of q)) (sym c.in-Combine.is)

pub returns-in-Combine-clause-weight : goal.returns-in-Combine-clause-weight
returns-in-Combine-clause-weight g c = c.parts_sizes.ensures.weight ∙ ap (λ q. min (2 ^ 64 - 1) (gate_weight c.args.weights.now (gate_of q))) (sym c.in-Combine.is)

pub returns-in-Mul-clause-depth : goal.returns-in-Mul-clause-depth
returns-in-Mul-clause-depth g c = ap (λ n. 1 + n) (c.larger.ensures ∙ ap (λ n. max n c.of_node-right.result) c.of_node-left.ensures ∙ ap (λ n. max (at c.args.depths.now c.in-Mul.x) n) c.of_node-right.ensures) ∙ ap (λ q. gate_depth c.args.depths.now (gate_of q)) (sym c.in-Mul.is)

pub returns-in-Mul-clause-weight : goal.returns-in-Mul-clause-weight
returns-in-Mul-clause-weight g c = ap (λ q. min (2 ^ 64 - 1) (gate_weight c.args.weights.now (gate_of q))) (sym c.in-Mul.is)
