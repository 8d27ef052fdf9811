use Rattle.lzk_goldilocks.specs.Elements.{ops, ring}
use Rattle.lzk_gadgets.proofs.NodeLaws.{Summing}
use Rattle.lzk_gadgets.proofs.layers.layer_nodes.Given as goal

abbrev pub invariant-loop-i : goal.invariant-loop-i
invariant-loop-i l = Summing ops ring l.fn.s l.s l.layer.terms l.below l.layer.wires l.i l.sums.items
