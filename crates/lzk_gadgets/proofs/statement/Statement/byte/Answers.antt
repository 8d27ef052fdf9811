use Rattle.std.proofs.Common.{◌∙◌, ap}
use Rattle.lzk_goldilocks.specs.Elements.{ops}
use Rattle.lzk_level.specs.Nodes.{node_count}
use Rattle.lzk_gadgets.specs.Claims.{value}
use Rattle.lzk_gadgets.specs.Spelled.{worth}
use Rattle.lzk_gadgets.proofs.TextLaws.{eight_are, turned, eight_nodes}
use Rattle.lzk_gadgets.proofs.statement.Statement.byte.Goals as goal

pub worth-requires : goal.worth-requires
worth-requires c =
    let are = eight_are c.args.bits.now c.index-bits-0.result c.index-bits-1.result c.index-bits-2.result c.index-bits-3.result c.index-bits-4.result c.index-bits-5.result c.index-bits-6.result c.index-bits-7.result
    c.requires.eight c.index-bits-0.is c.index-bits-1.is c.index-bits-2.is c.index-bits-3.is c.index-bits-4.is c.index-bits-5.is c.index-bits-6.is c.index-bits-7.is in
    record { nodes = eight_nodes (node_count c.args.self.now.nodes) c.args.bits.now _ _ _ _ _ _ _ _ are c.requires.nodes }

pub returns-clause-value : goal.returns-clause-value
returns-clause-value c = λ p q a.
    c.in_ok-node.ensures.value p q a
    ∙ ap worth (turned (value ops c.args.self.now p q) c.args.bits.now _ _ _ _ _ _ _ _
    (eight_are c.args.bits.now c.index-bits-0.result c.index-bits-1.result c.index-bits-2.result c.index-bits-3.result c.index-bits-4.result c.index-bits-5.result c.index-bits-6.result c.index-bits-7.result
    c.requires.eight c.index-bits-0.is c.index-bits-1.is c.index-bits-2.is c.index-bits-3.is c.index-bits-4.is c.index-bits-5.is c.index-bits-6.is c.index-bits-7.is))
