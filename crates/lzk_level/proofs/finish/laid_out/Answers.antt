use Rattle.std.proofs.Common.{[], ◌≡◌, ◌∙◌, ap, sym, subst, ◌+◌, ◌*◌, ◌≤◌, length, map, arith, refl}
use Rattle.lzk_profile.specs.Profile.{most_total}
use Rattle.lzk_circuit.specs.Wires.{inputs_of, wires_of}
use Rattle.lzk_level.specs.Levels.{IsGraph}
use Rattle.lzk_level.specs.Nodes.{Nodes, node_values, AreGates}
use Rattle.lzk_level.specs.Stacks.{IsStackOver}
use Rattle.lzk_circuit_reduce.specs.Reduced.{IsReduced}
use Rattle.lzk_circuit_reduce.specs.Renumbering.{at}
use Rattle.lzk_level.specs.Bounds.{node_depths, node_weights, layer_count, wire_bound, term_bound, total}
use Rattle.lzk_level.proofs.AfterLaws.{no-further, no-further-error}
use Rattle.lzk_level.proofs.FinishLaws.{is-graph, ready-weights, ready-values, ready-inputs, within-limits, greatest-some, greatest-each, depths-long, inputs-long, valid-layers}
use Rattle.std.proofs.lemmas.Result.{IfOk-from_err}
use Rattle.lzk_level.specs.declared.fault.LevelError.TheVariants.{OutOfMemory}
use Rattle.lzk_level.proofs.CompiledLaws.{handed_on}
use Rattle.lzk_level.proofs.finish.laid_out.Goals as goal

pub stack_of-result-requires-clause-graph : goal.stack_of-result-requires-clause-graph
stack_of-result-requires-clause-graph g c κs within =
    let n = c.args.builder in
    let p = n.publics in
    let q = n.privates in
    let outputs = c.args.outputs.now in
    let e = c.in_ok-depths.ensures in
    let is_n = c.builder.view_is in
    let inputs = 1 + c.builder.inside.publics + c.builder.inside.privates in
    let width : inputs ≡ 1 + (p + q) = omega (arith, ap (λ (b : Nodes _). b.publics) is_n, ap (λ (b : Nodes _). b.privates) is_n) in
    let gates = subst (λ (b : Nodes _). AreGates (b.publics + b.privates) b.made) is_n c.builder.invariant.3 in
    let same : c.builder.inside.gates ≡ n.made = ap (λ (b : Nodes _). b.made) is_n in
    let is : c.deref.result.now ≡ node_depths n = c.deref.ensures.value ∙ e.depths in
    let w = within-limits (layer_count n outputs) (wire_bound n) (term_bound n outputs) (sym (no-further n outputs) ∙ e.within) in
    subst (λ m. IsGraph inputs m c.deref.result.now) (sym same) (is-graph inputs p q n.made c.deref.result.now width is gates (omega (arith, w.wires_most)))

pub stack_of-result-requires-clause-outputs : goal.stack_of-result-requires-clause-outputs
stack_of-result-requires-clause-outputs g c κs within =
    let n = c.args.builder in
    let outputs = c.args.outputs.now in
    let e = c.in_ok-depths.ensures in
    let is : c.deref.result.now ≡ node_depths n = c.deref.ensures.value ∙ e.depths in
    record {
      some = omega (arith, e.count, greatest-some 1 (map (at (node_depths n)) outputs));
      few = c.requires.outputs;
      nodes = λ i l. omega (arith, ap length is, depths-long n.publics n.privates n.made, (c.requires.nodes i l).1);
      deep = λ i l. omega (arith, ap (λ ds. at ds (at outputs i)) is, greatest-each 1 (node_depths n) outputs i l, e.count);
    }

pub used-requires-clause-some : goal.used-requires-clause-some
used-requires-clause-some g c κs within =
    let n = c.args.builder in
    let outputs = c.args.outputs.now in
    omega (arith, c.in_ok-layers.ensures.stack.count_is, c.in_ok-depths.ensures.count, greatest-some 1 (map (at (node_depths n)) outputs))

pub used-requires-clause-layers : goal.used-requires-clause-layers
used-requires-clause-layers g c κs within =
    let o = g.F.Field.ops in
    let n = c.args.builder in
    let p = n.publics in
    let q = n.privates in
    let outputs = c.args.outputs.now in
    let e = c.in_ok-depths.ensures in
    let is_n = c.builder.view_is in
    let inputs = 1 + c.builder.inside.publics + c.builder.inside.privates in
    let width : inputs ≡ 1 + (p + q) = omega (arith, ap (λ (b : Nodes _). b.publics) is_n, ap (λ (b : Nodes _). b.privates) is_n) in
    let gates = subst (λ (b : Nodes _). AreGates (b.publics + b.privates) b.made) is_n c.builder.invariant.3 in
    let same : c.builder.inside.gates ≡ n.made = ap (λ (b : Nodes _). b.made) c.builder.view_is in
    let stack = subst (λ m. IsStackOver o inputs m c.deref.result.now c.in_ok-depths.count outputs [] c.in_ok-layers.layers.items c.in_ok-layers.targets.items) same c.in_ok-layers.ensures in
    let is : c.deref.result.now ≡ node_depths n = c.deref.ensures.value ∙ e.depths in
    let w = within-limits (layer_count n outputs) (wire_bound n) (term_bound n outputs) (sym (no-further n outputs) ∙ e.within) in
    let weights = ready-weights p q n.made inputs width gates in
    let long : length c.deref.result.now ≡ wire_bound n = ap length is ∙ depths-long p q n.made ∙ omega arith in
    let product : c.in_ok-depths.count * length c.deref.result.now ≡ layer_count n outputs * wire_bound n = ap (λ k. k * length c.deref.result.now) e.count ∙ ap (λ k. layer_count n outputs * k) long in
    let few : c.in_ok-depths.count * length c.deref.result.now + total (node_weights n) + total (map (at (node_weights n)) outputs) ≤ most_total = omega (arith, product, w.terms_most) in
    stack.stack.valid (node_weights n) (stack.weights (node_weights n) weights) c.requires.some (λ i l. (c.requires.nodes i l).0) few

pub circuit_of-requires-after_bounds : goal.circuit_of-requires-after_bounds
circuit_of-requires-after_bounds g c κs within =
    let n = c.args.builder in
    let outputs = c.args.outputs.now in
    let p = c.builder.inside.publics in
    let q = c.builder.inside.privates in
    let e = c.in_ok-layers-2.ensures in
    let w = within-limits (layer_count n outputs) (wire_bound n) (term_bound n outputs) (sym (no-further n outputs) ∙ c.in_ok-depths.ensures.within) in
    let many : length c.in_ok-layers-2.layers.items ≡ layer_count n outputs =
    e.count ∙ c.in_ok-layers.ensures.stack.count_is ∙ c.in_ok-depths.ensures.count in
    valid-layers g.F.Field.ops p q (1 + p + q) c.in_ok-layers-2.layers.items c.builder.invariant.0 c.builder.invariant.1 (omega arith)
    (omega (arith, many, greatest-some 1 (map (at (node_depths n)) outputs))) (omega (arith, many, w.layers_most)) e.layers

pub returns-clause-circuit : goal.returns-clause-circuit
returns-clause-circuit g c =
    let is_circuit = c.circuit_of.ensures in
    record {
      version_is = ap (λ w. w.version) is_circuit;
      publics = ap (λ w. w.publics) is_circuit ∙ ap (λ (b : Nodes _). b.publics) c.builder.view_is;
      privates = ap (λ w. w.privates) is_circuit ∙ ap (λ (b : Nodes _). b.privates) c.builder.view_is;
      layers = ap (λ w. length w.layers) c.circuit_of.ensures ∙ c.in_ok-layers-2.ensures.count ∙ c.in_ok-layers.ensures.stack.count_is ∙ c.in_ok-depths.ensures.count;
      outputs_are = λ public private hp hq.
          let o = g.F.Field.ops in
          let n = c.args.builder in
          let p = n.publics in
          let q = n.privates in
          let outputs = c.args.outputs.now in
          let is_n = c.builder.view_is in
          let inputs = 1 + c.builder.inside.publics + c.builder.inside.privates in
          let width : inputs ≡ 1 + (p + q) = omega (arith, ap (λ (b : Nodes _). b.publics) is_n, ap (λ (b : Nodes _). b.privates) is_n) in
          let gates = subst (λ (b : Nodes _). AreGates (b.publics + b.privates) b.made) is_n c.builder.invariant.3 in
          let same : c.builder.inside.gates ≡ n.made = ap (λ (b : Nodes _). b.made) c.builder.view_is in
          let stack = subst (λ m. IsStackOver o inputs m c.deref.result.now c.in_ok-depths.count outputs [] c.in_ok-layers.layers.items c.in_ok-layers.targets.items) same c.in_ok-layers.ensures in
          let values = ready-values o p q inputs n.made public private width gates hp hq in
          let stand = ready-inputs o p q inputs n.made public private width hp hq in
          let ins = inputs_of o public private in
          let long : length ins ≡ inputs = inputs-long o p q public private hp hq ∙ omega (arith, width) in
          ap (λ w. wires_of o w.layers ins) c.circuit_of.ensures ∙ c.in_ok-layers-2.ensures.values ins long ∙ stack.stack.values (node_values o n public private) ins (stack.values (node_values o n public private) values) stand;
      reduced = subst (λ w. IsReduced g.F.Field.ops w.layers) (sym is_circuit) c.in_ok-layers-2.ensures.reduced;
      within = sym (no-further c.args.builder c.args.outputs.now) ∙ c.in_ok-depths.ensures.within;
    }

pub measured-requires-after_bounds : goal.measured-requires-after_bounds
measured-requires-after_bounds g c κs within = omega arith

pub returns-in_err-depths-clause-circuit : goal.returns-in_err-depths-clause-circuit
returns-in_err-depths-clause-circuit g c = IfOk-from_err _ _ c.from_residual.ensures.0

pub overflow_add-inputs : goal.overflow_add-inputs
overflow_add-inputs g c = omega (arith, c.builder.invariant.0)

pub overflow_add-inputs-2 : goal.overflow_add-inputs-2
overflow_add-inputs-2 g c = omega (arith, c.builder.invariant.2)

pub overflow_cast-inputs : goal.overflow_cast-inputs
overflow_cast-inputs g c = omega (arith, c.builder.invariant.2)

pub slice_bounds-stack_of-end : goal.slice_bounds-stack_of-end
slice_bounds-stack_of-end g c = refl

pub stack_of-result-requires-clause-asserts : goal.stack_of-result-requires-clause-asserts
stack_of-result-requires-clause-asserts g c κs within i l = absurd (omega (arith, l))

pub returns-in_err-layers-clause-circuit : goal.returns-in_err-layers-clause-circuit
returns-in_err-layers-clause-circuit g c = IfOk-from_err _ _ c.from_residual-in_err-layers.ensures.0

pub used-requires-clause-ones : goal.used-requires-clause-ones
used-requires-clause-ones g c κs within = c.in_ok-layers.ensures.stack.ones

pub used-requires-clause-different : goal.used-requires-clause-different
used-requires-clause-different g c κs within = c.in_ok-layers.ensures.stack.different

pub returns-in_err-layers-2-clause-circuit : goal.returns-in_err-layers-2-clause-circuit
returns-in_err-layers-2-clause-circuit g c = IfOk-from_err _ _ c.from_residual-in_err-layers-2.ensures.0

pub returns-in_err-layers-clause-fault : goal.returns-in_err-layers-clause-fault
returns-in_err-layers-clause-fault g c = handed_on _ _ OutOfMemory c.from_residual-in_err-layers.ensures.1 tt

pub returns-in_err-layers-2-clause-fault : goal.returns-in_err-layers-2-clause-fault
returns-in_err-layers-2-clause-fault g c = handed_on _ _ OutOfMemory c.from_residual-in_err-layers-2.ensures.1 tt

pub returns-in_err-depths-clause-fault : goal.returns-in_err-depths-clause-fault
returns-in_err-depths-clause-fault g c = handed_on _ _ c.in_err-depths.field-0.0 c.from_residual.ensures.1 (no-further-error c.args.builder c.args.outputs.now c.in_err-depths.field-0.0 c.in_err-depths.ensures.fault)
