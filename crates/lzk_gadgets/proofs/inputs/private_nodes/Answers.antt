use Rattle.std.proofs.Common.{arith}
use Rattle.lzk_goldilocks.specs.Elements.{ops}
use Rattle.lzk_gadgets.proofs.InputLaws.{gathered-starts, gathered-adds}
use Rattle.lzk_gadgets.proofs.inputs.private_nodes.Goals as goal

pub loop-k-init : goal.loop-k-init
loop-k-init c = gathered-starts ops c.args.s.now (λ p q. q) c.args.start c.in_ok-nodes.nodes.items c.in_ok-nodes.ensures.items

pub loop-k-preserved : goal.loop-k-preserved
loop-k-preserved c =
    gathered-adds ops c.args.s.now (λ p q. q) c.args.start c.loop-k.k c.loop-k.nodes.items c.push.new.self.items c.private-node.result c.in_ok-push.ensures.items c.private-node.ensures.node c.private-node.ensures.value c.loop-k.invariant

pub returns-clause-count : goal.returns-clause-count
returns-clause-count c = let h = c.loop-k.invariant in omega (arith, h.count, c.loop-k-test.false, c.loop-k.auto.k-end)

pub returns-clause-nodes : goal.returns-clause-nodes
returns-clause-nodes c = let h = c.loop-k.invariant in h.there

pub returns-clause-each : goal.returns-clause-each
returns-clause-each c p q a k l = let h = c.loop-k.invariant in h.each p q a k (omega (arith, l, c.loop-k-test.false))
