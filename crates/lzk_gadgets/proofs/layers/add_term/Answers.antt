use Rattle.std.proofs.Common.{◌∙◌, sym, ap, subst, arith}
use Rattle.lzk_goldilocks.specs.Elements.{ops, ring}
use Rattle.lzk_level.specs.Nodes.{node_count, IsNode}
use Rattle.lzk_circuit_reduce.specs.Renumbering.{at}
use Rattle.lzk_gadgets.specs.Claims.{value}
use Rattle.lzk_gadgets.proofs.ClaimLaws.{node_at, inputs_kept, makes_then}
use Rattle.lzk_gadgets.proofs.NodeLaws.{term-sum}
use Rattle.lzk_gadgets.proofs.layers.add_term.Goals as goal

pub product-requires : goal.product-requires
product-requires c =
    let n = node_count c.args.s.now.nodes in
    let below = c.args.below.now in
    record {
      nodes = (subst (IsNode n) (sym c.node_of-a.ensures) (node_at n below c.requires.below c.args.term.a c.requires.a), subst (IsNode n) (sym c.node_of-b.ensures) (node_at n below c.requires.below c.args.term.b c.requires.b));
    }

pub weighted-requires : goal.weighted-requires
weighted-requires c =
    let more = c.in_ok-product.ensures.makes.keeps.more in
    let m = c.requires.sum.1 in
    record { nodes = (c.in_ok-product.ensures.makes.there, (c.requires.sum.0, omega (arith, more, m))) }

pub returns-clause-makes : goal.returns-clause-makes
returns-clause-makes c =
    makes_then ops 1 1 2 c.args.s.now c.product.new.self c.weighted.new.self c.in_ok-product.product c.in_ok-node.node c.in_ok-product.ensures.makes c.in_ok-node.ensures.makes (omega arith)

pub returns-clause-value : goal.returns-clause-value
returns-clause-value c p q i =
    let s = c.args.s.now in
    let t = c.product.new.self in
    let k = c.in_ok-product.ensures.makes.keeps in
    let below = c.args.below.now in
    let x = value ops s p q (at below c.args.term.a) in
    let y = value ops s p q (at below c.args.term.b) in
    term-sum ops ring c.args.term.coef x y (value ops s p q c.args.sum) c.one.result (value ops t p q c.in_ok-product.product) (value ops t p q c.args.sum) (value ops c.weighted.new.self p q c.in_ok-node.node)
    c.one.ensures
    (c.in_ok-product.ensures.value p q i ∙ ap (λ j. ops.times (value ops s p q j) (value ops s p q c.node_of-b.result)) c.node_of-a.ensures ∙ ap (λ j. ops.times x (value ops s p q j)) c.node_of-b.ensures)
    (k.same p q i c.args.sum c.requires.sum.1)
    (c.in_ok-node.ensures.value p q (inputs_kept ops 1 s t p q k i))
