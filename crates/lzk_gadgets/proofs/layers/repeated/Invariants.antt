use Rattle.std.proofs.Common.{◌≡◌, replicate}
use Rattle.lzk_gadgets.proofs.layers.repeated.Given as goal

abbrev pub invariant-loop-k : goal.invariant-loop-k
invariant-loop-k l = l.nodes.items ≡ replicate l._k l.node
