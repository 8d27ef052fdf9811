use Rattle.std.proofs.Common.{◌≡◌, ◌∙◌, ap, sym, subst, ◌+◌, length, map, arith}
use Rattle.lzk_field.specs.Sums.{entry}
use Rattle.lzk_circuit.specs.Checks.{checks_of, check_count}
use Rattle.lzk_circuit.specs.Wires.{inputs_of}
use Rattle.lzk_circuit_reduce.specs.Attached.{IsReducedAsserting}
use Rattle.lzk_circuit_reduce.specs.Reduced.{output_count}
use Rattle.lzk_circuit_reduce.specs.Renumbering.{at}
use Rattle.lzk_level.specs.Bounds.{node_depths, layer_count}
use Rattle.lzk_level.specs.Checking.{check_of, AreAsserts, AreAsserting}
use Rattle.lzk_level.specs.Nodes.{Nodes, node_values, AreGates}
use Rattle.lzk_level.proofs.AssertedLaws.{asserts-of, check-value}
use Rattle.lzk_level.proofs.FinishLaws.{ready-values, ready-inputs, valid-layers-v2, layers-most, greatest-some}
use Rattle.std.proofs.lemmas.Result.{IfOk-from_err}
use Rattle.lzk_level.specs.declared.fault.LevelError.TheVariants.{OutOfMemory}
use Rattle.lzk_level.proofs.CompiledLaws.{handed_on}
use Rattle.lzk_level.proofs.asserting.laid_out.Goals as goal

pub asserting_layers-result-requires-after_bounds : goal.asserting_layers-result-requires-after_bounds
asserting_layers-result-requires-after_bounds g c κs within =
    let n = c.args.builder in
    let p = n.publics in
    let q = n.privates in
    let asserts = c.args.asserts.now in
    let count = c.in_ok-depths.count in
    let e = c.in_ok-depths.ensures in
    let is_n = c.builder.view_is in
    let inputs = 1 + c.builder.inside.publics + c.builder.inside.privates in
    let width : inputs ≡ 1 + (p + q) = omega (arith, ap (λ (b : Nodes _). b.publics) is_n, ap (λ (b : Nodes _). b.privates) is_n) in
    let gates = subst (λ (b : Nodes _). AreGates (b.publics + b.privates) b.made) is_n c.builder.invariant.3 in
    let same : c.builder.inside.gates ≡ n.made = ap (λ (b : Nodes _). b.made) c.builder.view_is in
    let is : c.deref.result.now ≡ node_depths n = c.deref.ensures.value ∙ c.in_ok-depths.ensures.depths in
    let made = n.made in
    let are = asserts-of n asserts gates c.requires.some c.requires.nodes e.within in
    let there = subst (λ k. AreAsserts k made (node_depths n) asserts count) (sym width) (subst (AreAsserts (1 + (p + q)) made (node_depths n) asserts) (sym e.count) are) in
    subst (λ m. AreAsserts inputs m c.deref.result.now asserts count) (sym same) (subst (λ ds. AreAsserts inputs made ds asserts count) (sym is) there)

pub circuit_of-requires-after_bounds : goal.circuit_of-requires-after_bounds
circuit_of-requires-after_bounds g c κs within =
    let n = c.args.builder in
    let asserts = c.args.asserts.now in
    let p = c.builder.inside.publics in
    let q = c.builder.inside.privates in
    let layers = c.in_ok-layers.layers.items in
    let many : length layers ≡ layer_count n asserts = c.in_ok-layers.ensures.layers_count ∙ c.in_ok-depths.ensures.count in
    valid-layers-v2 g.F.Field.ops p q (1 + p + q) layers c.builder.invariant.0 c.builder.invariant.1 (omega arith)
    (omega (arith, many, greatest-some 1 (map (at (node_depths n)) asserts))) (omega (arith, many, layers-most (length asserts) n asserts c.in_ok-depths.ensures.within)) c.in_ok-layers.ensures.valid

pub returns-clause-circuit : goal.returns-clause-circuit
returns-clause-circuit g c =
    let is_circuit = c.circuit_of.ensures in
    let all = c.in_ok-layers.ensures in
    record {
      version_is = ap (λ w. w.version) is_circuit;
      publics = ap (λ w. w.publics) is_circuit ∙ ap (λ (b : Nodes _). b.publics) c.builder.view_is;
      privates = ap (λ w. w.privates) is_circuit ∙ ap (λ (b : Nodes _). b.privates) c.builder.view_is;
      layers = ap (λ w. length w.layers) is_circuit ∙ all.layers_count ∙ c.in_ok-depths.ensures.count;
      count = ap (λ w. check_count g.F.Field.coding.number w.layers) is_circuit ∙ all.checks_count;
      checks = λ public private hp hq k l.
          let o = g.F.Field.ops in
          let number = g.F.Field.coding.number in
          let n = c.args.builder in
          let p = n.publics in
          let q = n.privates in
          let asserts = c.args.asserts.now in
          let count = c.in_ok-depths.count in
          let layers = c.in_ok-layers.layers.items in
          let is_n = c.builder.view_is in
          let inputs = 1 + c.builder.inside.publics + c.builder.inside.privates in
          let width : inputs ≡ 1 + (p + q) = omega (arith, ap (λ (b : Nodes _). b.publics) is_n, ap (λ (b : Nodes _). b.privates) is_n) in
          let gates = subst (λ (b : Nodes _). AreGates (b.publics + b.privates) b.made) is_n c.builder.invariant.3 in
          let same : c.builder.inside.gates ≡ n.made = ap (λ (b : Nodes _). b.made) c.builder.view_is in
          let is : c.deref.result.now ≡ node_depths n = c.deref.ensures.value ∙ c.in_ok-depths.ensures.depths in
          let ins = inputs_of o public private in
          let values = node_values o n public private in
          let v = ready-values o p q inputs n.made public private width gates hp hq in
          let b = ready-inputs o p q inputs n.made public private width hp hq in
          let a = subst (λ ds. AreAsserting o number inputs n.made ds asserts count layers) is (subst (λ m. AreAsserting o number inputs m c.deref.result.now asserts count layers) same c.in_ok-layers.ensures) in
          ap (λ w. entry o (checks_of o number w.layers ins) (check_of (map (at (node_depths n)) asserts) k)) c.circuit_of.ensures
          ∙ check-value o (node_depths n) asserts count values (checks_of o number layers ins) k l c.in_ok-depths.ensures.count (a.checks values ins v b);
      outputs =
          let o = g.F.Field.ops in
          let number = g.F.Field.coding.number in
          let n = c.args.builder in
          let asserts = c.args.asserts.now in
          let count = c.in_ok-depths.count in
          let layers = c.in_ok-layers.layers.items in
          let inputs = 1 + c.builder.inside.publics + c.builder.inside.privates in
          let same : c.builder.inside.gates ≡ n.made = ap (λ (b : Nodes _). b.made) c.builder.view_is in
          let is : c.deref.result.now ≡ node_depths n = c.deref.ensures.value ∙ c.in_ok-depths.ensures.depths in
          let a = subst (λ ds. AreAsserting o number inputs n.made ds asserts count layers) is (subst (λ m. AreAsserting o number inputs m c.deref.result.now asserts count layers) same c.in_ok-layers.ensures) in
          let b = subst (λ k. AreAsserting o number inputs n.made (node_depths n) asserts k layers) c.in_ok-depths.ensures.count a in
          ap (λ w. output_count w.layers) c.circuit_of.ensures ∙ b.first_count;
      reduced = subst (λ w. IsReducedAsserting g.F.Field.ops w.layers) (sym is_circuit) all.reduced;
      within = c.in_ok-depths.ensures.within;
    }

pub overflow_cast-asserts : goal.overflow_cast-asserts
overflow_cast-asserts g c = omega (arith, c.requires.asserts)

pub measured-requires-after_bounds : goal.measured-requires-after_bounds
measured-requires-after_bounds g c κs within = c.requires.asserts

pub returns-in_err-depths-clause-circuit : goal.returns-in_err-depths-clause-circuit
returns-in_err-depths-clause-circuit g c = IfOk-from_err _ _ c.from_residual.ensures.0

pub overflow_add-inputs : goal.overflow_add-inputs
overflow_add-inputs g c = omega (arith, c.builder.invariant.0)

pub overflow_add-inputs-2 : goal.overflow_add-inputs-2
overflow_add-inputs-2 g c = omega (arith, c.builder.invariant.2)

pub returns-in_err-layers-clause-circuit : goal.returns-in_err-layers-clause-circuit
returns-in_err-layers-clause-circuit g c = IfOk-from_err _ _ c.from_residual-in_err-layers.ensures.0

pub returns-in_err-depths-clause-fault : goal.returns-in_err-depths-clause-fault
returns-in_err-depths-clause-fault g c = handed_on _ _ c.in_err-depths.field-0.0 c.from_residual.ensures.1 c.in_err-depths.ensures.fault

pub returns-in_err-layers-clause-fault : goal.returns-in_err-layers-clause-fault
returns-in_err-layers-clause-fault g c = handed_on _ _ OutOfMemory c.from_residual-in_err-layers.ensures.1 tt
