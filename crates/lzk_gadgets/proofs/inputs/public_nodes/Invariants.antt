use Rattle.lzk_goldilocks.specs.Elements.{ops}
use Rattle.lzk_gadgets.proofs.InputLaws.{Gathered}
use Rattle.lzk_gadgets.proofs.inputs.public_nodes.Given as goal

abbrev pub invariant-loop-k : goal.invariant-loop-k
invariant-loop-k l = Gathered ops l.s (λ p q. p) l.start l.k l.nodes.items
