use Rattle.std.proofs.Common.{◌≡◌, ◌∙◌, ◌∷◌, [], ◌++◌, ◌+◌, sym, ap, subst, arith, length}
use Rattle.std.proofs.lemmas.List.{length-map}
use Rattle.lzk_goldilocks.specs.Elements.{ops, number, of_number, laws}
use Rattle.lzk_goldilocks.specs.Prime.{p, element_bytes}
use Rattle.lzk_circuit.specs.Checks.{IsSatisfied}
use Rattle.lzk_circuit.specs.Wires.{wires_of}
use Rattle.lzk_level.specs.Nodes.{node_count}
use Rattle.lzk_gadgets.specs.Claims.{AreNodes, AreAllZero, Adds, value, values}
use Rattle.lzk_gadgets.proofs.ClaimLaws.{nodes_more, inputs_kept, values_kept, yields_one, yields_then}
use Rattle.lzk_gadgets.specs.CircuitCounts.{layer_nodes, output_count, most_nodes}
use Rattle.lzk_gadgets.proofs.NodeLaws.{yields_adds, zero-satisfied, few-nodes, few-outputs}
use Rattle.lzk_gadgets.proofs.circuits.assert_circuit.Goals as goal

pub output_nodes-requires-clause-count : goal.output_nodes-requires-clause-count
output_nodes-requires-clause-count c =
    omega (arith, c.requires.count, ap length (c.in_ok-extend_from_slice.ensures.items ∙ ap (λ ks. ks ++ c.args.inputs.now) (c.in_ok-push.ensures.items ∙ ap (λ ks. ks ++ c.in_ok-one.one ∷ []) c.new-below.ensures.items)))

pub output_nodes-requires-clause-nodes : goal.output_nodes-requires-clause-nodes
output_nodes-requires-clause-nodes c =
    let s = c.args.s.now in
    let t = c.constant.new.self in
    let m = c.in_ok-one.ensures.makes in
    subst (AreNodes (node_count t.nodes)) (sym (c.in_ok-extend_from_slice.ensures.items ∙ ap (λ ks. ks ++ c.args.inputs.now) (c.in_ok-push.ensures.items ∙ ap (λ ks. ks ++ c.in_ok-one.one ∷ []) c.new-below.ensures.items)))
    (m.there, nodes_more (node_count s.nodes) (node_count t.nodes) c.args.inputs.now m.keeps.more c.requires.nodes)

pub assert_zeros-requires : goal.assert_zeros-requires
assert_zeros-requires c = subst (AreNodes (node_count c.output_nodes.new.s.nodes)) (sym c.deref.ensures.value) c.in_ok-outputs.ensures.yields.there

pub returns-clause-some : goal.returns-clause-some
returns-clause-some c = (few-outputs ops c.args.circuit.now c.valid_laws.ensures).0

pub returns-clause-few : goal.returns-clause-few
returns-clause-few c = (few-outputs ops c.args.circuit.now c.valid_laws.ensures).1

pub returns-clause-adds : goal.returns-clause-adds
returns-clause-adds c =
    let s = c.args.s.now in
    let t = c.constant.new.self in
    let u = c.output_nodes.new.s in
    let circuit = c.args.circuit.now in
    let inputs = c.args.inputs.now in
    let one = c.in_ok-one.one in
    let m = c.in_ok-one.ensures.makes in
    let found = c.in_ok-outputs.ensures in
    let outputs = c.in_ok-outputs.outputs.items in
    let zeros = c.deref.result.now in
    let below : c.extend_from_slice.new.self.items ≡ one ∷ inputs =
    c.in_ok-extend_from_slice.ensures.items ∙ ap (λ ks. ks ++ inputs) (c.in_ok-push.ensures.items ∙ ap (λ ks. ks ++ one ∷ []) c.new-below.ensures.items) in
    let count : length zeros ≡ output_count circuit = ap length c.deref.ensures.value ∙ found.count in
    let y = yields_then ops 1 (layer_nodes circuit.layers) (1 + layer_nodes circuit.layers) s t u (one ∷ []) outputs (yields_one ops 1 s t one (one ∷ []) m (m.there, tt)) found.yields (omega arith) in
    subst (λ n. Adds ops most_nodes n s c.assert_zeros.new.s (λ i j. IsSatisfied ops number circuit.layers (ops.one ∷ values ops s i j inputs))) count
    (yields_adds ops (1 + layer_nodes circuit.layers) 0 most_nodes (length zeros) s u c.assert_zeros.new.s outputs
    (λ i j. AreAllZero ops (values ops u i j zeros)) (λ i j. IsSatisfied ops number circuit.layers (ops.one ∷ values ops s i j inputs)) y c.in_ok-assert_zeros.ensures (omega (arith, few-nodes ops circuit c.valid_laws.ensures))
    (λ i j a.
    let b = inputs_kept ops 1 s t i j m.keeps a in
    let first : value ops t i j one ≡ ops.one = c.in_ok-one.ensures.value i j a ∙ c.one.ensures in
    let rest : values ops t i j inputs ≡ values ops s i j inputs = values_kept ops 1 s t i j inputs m.keeps a c.requires.nodes in
    zero-satisfied ops p number of_number element_bytes laws circuit (values ops u i j zeros) (ops.one ∷ values ops s i j inputs) found.valid c.requires.version
    (omega (arith, length-map inputs (value ops s i j), c.requires.count))
    (ap (values ops u i j) c.deref.ensures.value ∙ found.values i j b ∙ ap (λ ks. wires_of ops circuit.layers (values ops t i j ks)) below
    ∙ ap (λ x. wires_of ops circuit.layers (x ∷ values ops t i j inputs)) first ∙ ap (λ xs. wires_of ops circuit.layers (ops.one ∷ xs)) rest)))
