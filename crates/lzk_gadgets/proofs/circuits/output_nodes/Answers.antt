use Rattle.std.proofs.Common.{◌≡◌, ◌∙◌, ◌+◌, ◌-◌, sym, ap, subst, arith, length, drop, None}
use Rattle.lzk_goldilocks.specs.Elements.{ops}
use Rattle.lzk_circuit.specs.Valid.{input_width, under_of, ArePlaced}
use Rattle.lzk_circuit.specs.Wires.{layer_values, wires_of}
use Rattle.lzk_level.specs.Nodes.{node_count}
use Rattle.lzk_gadgets.specs.Claims.{AreNodes, values, Yields}
use Rattle.lzk_gadgets.specs.CircuitCounts.{layer_nodes}
use Rattle.lzk_gadgets.proofs.NodeLaws.{count-outputs, layer-of, standing-starts, standing-adds}
use Rattle.lzk_gadgets.proofs.circuits.output_nodes.Goals as goal

pub loop-l-init : goal.loop-l-init
loop-l-init c = standing-starts ops c.args.s.now (input_width c.args.circuit.now) c.depth-l.result c.args.circuit.now.layers c.args.inputs.items (omega (arith, c.depth-l.ensures.depth)) c.requires.count c.requires.nodes

pub layer_nodes-requires-clause-terms : goal.layer_nodes-requires-clause-terms
layer_nodes-requires-clause-terms c =
    let circuit = c.args.circuit.now in
    let own = c.layer-layer.result.now in
    let m = c.loop-l.l - 1 in
    let is = layer-of ops circuit m own c.depth-l.ensures.valid c.layer-layer.ensures in
    let back : m + 1 ≡ c.loop-l.l = omega (arith, c.loop-l-test.true) in
    let wide = c.loop-l.invariant.count in
    subst (λ w. ArePlaced own.wires w None own.terms) (ap (λ k. (under_of (input_width circuit) (drop k circuit.layers)).width) back ∙ sym wide ∙ sym (ap length c.deref.ensures.value)) is.placed

pub layer_nodes-requires-clause-nodes : goal.layer_nodes-requires-clause-nodes
layer_nodes-requires-clause-nodes c = subst (AreNodes (node_count c.loop-l.s.nodes)) (sym c.deref.ensures.value) c.loop-l.invariant.yields.there

pub loop-l-preserved : goal.loop-l-preserved
loop-l-preserved c =
    let circuit = c.args.circuit.now in
    let own = c.layer-layer.result.now in
    let l = c.loop-l.l in
    let m = l - 1 in
    let is = layer-of ops circuit m own c.depth-l.ensures.valid c.layer-layer.ensures in
    let found = c.in_ok-next.ensures in
    let t = c.loop-l.s in
    standing-adds ops c.args.s.now t c.layer_nodes.new.s (input_width circuit) l m circuit.layers c.args.inputs.items c.loop-l.nodes.items c.in_ok-next.next.items own (omega (arith, c.loop-l-test.true)) is
    found.yields found.count (λ p q a. found.values p q a ∙ ap (λ ks. layer_values ops own (values ops t p q ks)) c.deref.ensures.value) c.loop-l.invariant

pub returns-clause-yields : goal.returns-clause-yields
returns-clause-yields c =
    let bottom : c.loop-l.l ≡ 0 = omega (arith, c.loop-l-test.false) in
    subst (λ k. Yields ops (layer_nodes (drop k c.args.circuit.now.layers)) c.args.s.now c.loop-l.s c.loop-l.nodes.items) bottom c.loop-l.invariant.yields

pub returns-clause-count : goal.returns-clause-count
returns-clause-count c =
    let circuit = c.args.circuit.now in
    let bottom : c.loop-l.l ≡ 0 = omega (arith, c.loop-l-test.false) in
    c.loop-l.invariant.count ∙ ap (λ k. (under_of (input_width circuit) (drop k circuit.layers)).width) bottom ∙ count-outputs ops circuit

pub returns-clause-values : goal.returns-clause-values
returns-clause-values c p q a =
    let circuit = c.args.circuit.now in
    let bottom : c.loop-l.l ≡ 0 = omega (arith, c.loop-l-test.false) in
    c.loop-l.invariant.are p q a ∙ ap (λ k. wires_of ops (drop k circuit.layers) (values ops c.args.s.now p q c.args.inputs.items)) bottom
