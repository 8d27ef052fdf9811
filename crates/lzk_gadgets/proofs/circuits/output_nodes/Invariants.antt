use Rattle.lzk_goldilocks.specs.Elements.{ops}
use Rattle.lzk_circuit.specs.Valid.{input_width}
use Rattle.lzk_gadgets.proofs.NodeLaws.{Standing}
use Rattle.lzk_gadgets.proofs.circuits.output_nodes.Given as goal

abbrev pub invariant-loop-l : goal.invariant-loop-l
invariant-loop-l l = Standing ops l.fn.s l.s (input_width l.circuit) l.circuit.layers l.fn.inputs.items l.l l.nodes.items
