use Rattle.std.proofs.Common.{◌≡◌, ◌∙◌, ◌+◌, ◌*◌, sym, ap, subst, arith, get_or, length, refl}
use Rattle.lzk_goldilocks.specs.Elements.{ops, ring}
use Rattle.lzk_level.specs.Nodes.{node_count, IsNode}
use Rattle.lzk_circuit_reduce.specs.Renumbering.{at}
use Rattle.lzk_gadgets.specs.Claims.{Yields}
use Rattle.lzk_gadgets.proofs.ClaimLaws.{node_at, nodes_more}
use Rattle.lzk_gadgets.proofs.NodeLaws.{summing-starts, summing-adds, summing-ends, placed-term}
use Rattle.lzk_gadgets.proofs.layers.layer_nodes.Goals as goal

pub loop-i-init : goal.loop-i-init
loop-i-init c =
    let layer = c.args.layer.now in
    summing-starts ops ring c.args.s.now c.constant.new.self layer.terms c.args.below.now c.in_ok-sums.sums.items layer.wires c.in_ok-zero.zero c.requires.terms c.in_ok-sums.ensures c.in_ok-zero.ensures.makes
    (λ p q a. c.in_ok-zero.ensures.value p q a ∙ c.zero.ensures)

pub node_of-sum-requires : goal.node_of-sum-requires
node_of-sum-requires c =
    let layer = c.args.layer.now in
    let one = placed-term layer.wires (length c.args.below.now) layer.terms c.as_slice-terms.result.now c.loop-i.i c.index-terms-i.result c.requires.terms c.as_slice-terms.ensures c.loop-i-test.true c.index-terms-i.is in
    omega (arith, one.g, c.loop-i.invariant.count, ap length c.deref.ensures.value)

pub add_term-requires-clause-a : goal.add_term-requires-clause-a
add_term-requires-clause-a c =
    let layer = c.args.layer.now in
    let one = placed-term layer.wires (length c.args.below.now) layer.terms c.as_slice-terms.result.now c.loop-i.i c.index-terms-i.result c.requires.terms c.as_slice-terms.ensures c.loop-i-test.true c.index-terms-i.is in
    omega (arith, one.a, one.b)

pub add_term-requires-clause-b : goal.add_term-requires-clause-b
add_term-requires-clause-b c =
    let layer = c.args.layer.now in
    let one = placed-term layer.wires (length c.args.below.now) layer.terms c.as_slice-terms.result.now c.loop-i.i c.index-terms-i.result c.requires.terms c.as_slice-terms.ensures c.loop-i-test.true c.index-terms-i.is in
    one.b

pub add_term-requires-clause-below : goal.add_term-requires-clause-below
add_term-requires-clause-below c =
    nodes_more (node_count c.args.s.now.nodes) (node_count c.loop-i.s.nodes) c.args.below.now c.loop-i.invariant.yields.keeps.more c.requires.nodes

pub add_term-requires-clause-sum : goal.add_term-requires-clause-sum
add_term-requires-clause-sum c =
    let layer = c.args.layer.now in
    let t = c.index-terms-i.result in
    let n = node_count c.loop-i.s.nodes in
    let one = placed-term layer.wires (length c.args.below.now) layer.terms c.as_slice-terms.result.now c.loop-i.i t c.requires.terms c.as_slice-terms.ensures c.loop-i-test.true c.index-terms-i.is in
    subst (IsNode n) (sym (c.node_of-sum.ensures ∙ ap (λ ks. at ks t.g) c.deref.ensures.value)) (node_at n c.loop-i.sums.items c.loop-i.invariant.yields.there t.g (omega (arith, one.g, c.loop-i.invariant.count)))

pub put-requires : goal.put-requires
put-requires c =
    let layer = c.args.layer.now in
    let one = placed-term layer.wires (length c.args.below.now) layer.terms c.as_slice-terms.result.now c.loop-i.i c.index-terms-i.result c.requires.terms c.as_slice-terms.ensures c.loop-i-test.true c.index-terms-i.is in
    omega (arith, one.g, c.loop-i.invariant.count)

pub loop-i-preserved : goal.loop-i-preserved
loop-i-preserved c =
    let layer = c.args.layer.now in
    let t = c.index-terms-i.result in
    let i = c.loop-i.i in
    let one = placed-term layer.wires (length c.args.below.now) layer.terms c.as_slice-terms.result.now i t c.requires.terms c.as_slice-terms.ensures c.loop-i-test.true c.index-terms-i.is in
    summing-adds ops ring c.args.s.now c.loop-i.s c.add_term.new.s layer.terms c.args.below.now c.loop-i.sums.items c.put.new.nodes.items layer.wires i c.node_of-sum.result c.in_ok-node.node t c.requires.nodes
    (omega (arith, c.loop-i-test.true, ap length c.as_slice-terms.ensures)) (c.index-terms-i.is ∙ ap (λ ts. get_or ts i t) c.as_slice-terms.ensures) one.g (omega (arith, one.a, one.b)) one.b
    (c.node_of-sum.ensures ∙ ap (λ ks. at ks t.g) c.deref.ensures.value) c.put.ensures c.in_ok-node.ensures.makes c.in_ok-node.ensures.value c.loop-i.invariant

pub returns-clause-yields : goal.returns-clause-yields
returns-clause-yields c =
    let all : c.loop-i.i ≡ length c.args.layer.now.terms = omega (arith, c.loop-i-test.false, c.loop-i.auto.i-end, ap length c.as_slice-terms.ensures) in
    subst (λ n. Yields ops (1 + 2 * n) c.args.s.now c.loop-i.s c.loop-i.sums.items) all c.loop-i.invariant.yields

pub returns-clause-count : goal.returns-clause-count
returns-clause-count c = c.loop-i.invariant.count

pub returns-clause-values : goal.returns-clause-values
returns-clause-values c p q a =
    let layer = c.args.layer.now in
    summing-ends ops ring c.args.s.now c.loop-i.s layer layer.terms c.args.below.now c.loop-i.sums.items c.loop-i.i p q (omega (arith, c.loop-i-test.false, ap length c.as_slice-terms.ensures)) refl a c.loop-i.invariant
