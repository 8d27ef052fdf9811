use Rattle.std.proofs.Common.{◌≡◌, ◌+◌, ◌∷◌, ◌++◌, [], ◌∙◌, List, ap, sym, subst, length}
use Rattle.lzk_circuit.specs.declared.layer.Layer.{Layer}
use Rattle.lzk_circuit.specs.Valid.{AreLayers}
use Rattle.lzk_circuit.specs.Wires.{inputs_of, wires_of}
use Rattle.lzk_circuit_reduce.specs.Reduced.{HaveOnes}
use Rattle.lzk_goldilocks.specs.Elements.{ops, of_number, ring}
use Rattle.lzk_goldilocks.specs.declared.element.Gold.{Gold}
use Rattle.lzk_sha_circuit.specs.Found.{places_of}
use Rattle.lzk_sha_circuit.specs.Layers.{input_count, inner_count}
use Rattle.lzk_sha_circuit.proofs.CircuitLaws.{two_layers, layers_valid, layers_ones}
use Rattle.lzk_sha_circuit.proofs.CircuitValues.{outputs_are}
use Rattle.lzk_sha_circuit.proofs.circuit.layers_of.Goals as goal

pub returns : goal.returns
returns c =
    let given = places_of c.args.given.now in
    let t0 = c.in_ok-outer.outer.items in
    let t1 = c.in_ok-inner.inner.items in
    let top : Layer Gold = record { wires = given.inputs + 6568; terms = t0 } in
    let one : c.push.new.self.items ≡ top ∷ [] = c.in_ok-push.ensures.items ∙ (λ j. c.new-layers.ensures.items j ++ record { wires = given.inputs + 6568; terms = c.new.ensures j } ∷ []) in
    let same : c.push-2.new.self.items ≡ two_layers given t0 t1 = c.in_ok-push-2.ensures.items ∙ (λ j. one j ++ record { wires = inner_count given; terms = c.new-2.ensures j } ∷ []) in
    record {
      count = ap length same;
      valid = subst (AreLayers ops (input_count given)) (sym same) (layers_valid ops of_number given c.args.given.now.placed t0 t1 c.in_ok-outer.ensures c.in_ok-inner.ensures);
      ones = subst (HaveOnes ops) (sym same) (layers_ones ops of_number given c.args.given.now.placed t0 t1 c.in_ok-outer.ensures c.in_ok-inner.ensures);
      outputs = λ public private short long. ap (λ (ls : List (Layer Gold)). wires_of ops ls (inputs_of ops public private)) same ∙ outputs_are ops ring of_number given c.args.given.now.placed public private short long t0 t1 c.in_ok-outer.ensures c.in_ok-inner.ensures;
    }
