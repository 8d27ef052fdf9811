use Rattle.std.proofs.Common.{◌≡◌, ◌+◌, ◌≤◌, ◌∙◌, ◌↔◌, None, List, ap, sym, subst, length, arith, rules, length-append}
use Rattle.lzk_circuit.specs.declared.layer.Layer.{Layer}
use Rattle.lzk_circuit.specs.Valid.{AreLayers, Wiring, input_width}
use Rattle.lzk_circuit.specs.Wires.{inputs_of, wires_of, IsFirstNonzero}
use Rattle.lzk_circuit.proofs.CheckLaws.{one-checks}
use Rattle.lzk_circuit.proofs.VersionLaws.{one-valid, valid-one}
use Rattle.lzk_circuit_reduce.specs.Reduced.{HaveOnes, IsReduced}
use Rattle.lzk_goldilocks.specs.Elements.{ops, number, of_number, laws}
use Rattle.lzk_goldilocks.specs.Prime.{p, element_bytes}
use Rattle.lzk_goldilocks.specs.declared.element.Gold.{Gold}
use Rattle.lzk_sha_circuit.specs.Found.{places_of}
use Rattle.lzk_sha_circuit.specs.Outputs.{AreCompressing}
use Rattle.lzk_sha_circuit.specs.Layers.{input_count}
use Rattle.lzk_sha_circuit.proofs.circuit.compression_circuit.Goals as goal

pub reduced-requires : goal.reduced-requires
reduced-requires c =
    let same = c.deref.ensures.value in
    let long = ap length same in
    let two = c.in_ok-layers.ensures.count in
    let sizes : 1 ≤ length c.deref.result.now = omega (arith, long, two) in
    (search rules, (search rules, (sizes, (subst (AreLayers ops (input_count (places_of c.args.given.now))) (sym same) c.in_ok-layers.ensures.valid, subst (HaveOnes ops) (sym same) c.in_ok-layers.ensures.ones))))

pub of_valid-requires-clause-layers : goal.of_valid-requires-clause-layers
of_valid-requires-clause-layers c κs =
    let given = places_of c.args.given.now in
    let long = ap length c.deref.ensures.value in
    let two = c.in_ok-layers.ensures.count in
    let kept = c.in_ok-kept.ensures.count in
    let few = c.args.given.now.few in
    let width : given.inputs + 6385 ≡ 1 + 8 + (given.inputs + 6376) = omega arith in
    let some : 1 ≤ length c.in_ok-kept.kept.items = omega (arith, long, two, kept) in
    one-valid ops 8 (given.inputs + 6376) c.in_ok-kept.kept.items (omega arith) (omega (arith, few)) some (omega (arith, long, two, kept)) (subst (λ n. AreLayers ops n c.in_ok-kept.kept.items) width c.in_ok-kept.ensures.layers)

pub returns : goal.returns
returns c =
    let given = places_of c.args.given.now in
    let made = c.of_valid.ensures.circuit in
    let long = ap length c.deref.ensures.value in
    let two = c.in_ok-layers.ensures.count in
    let kept = c.in_ok-kept.ensures.count in
    let outputs = λ (public private : List Gold) (hp : length public ≡ 8) (hq : length private ≡ given.inputs + 6376).
    let inputs = inputs_of ops public private in
    let both = length-append public private in
    let width : length inputs ≡ given.inputs + 6385 = omega (arith, both, hp, hq) in
    ap (λ (w : Wiring Gold). wires_of ops w.layers inputs) made ∙ c.in_ok-kept.ensures.values inputs width
    ∙ ap (λ (ls : List (Layer Gold)). wires_of ops ls inputs) c.deref.ensures.value ∙ c.in_ok-layers.ensures.outputs public private hp hq in
    record {
      version = ap (λ (w : Wiring Gold). w.version) made;
      publics = ap (λ (w : Wiring Gold). w.publics) made;
      privates = ap (λ (w : Wiring Gold). w.privates) made;
      layers = ap (λ (w : Wiring Gold). length w.layers) made ∙ kept ∙ long ∙ two;
      outputs = outputs;
      satisfied = λ public private hp hq.
          let wiring = c.of_valid.result in
          let valid = c.of_valid.ensures.valid in
          let inputs = inputs_of ops public private in
          let both = length-append public private in
          let p8 = ap (λ (w : Wiring Gold). w.publics) made in
          let pn = ap (λ (w : Wiring Gold). w.privates) made in
          let width : length inputs ≡ input_width wiring = omega (arith, both, hp, hq, p8, pn) in
          let checks = one-checks ops p number of_number element_bytes laws (input_width wiring) wiring.layers inputs width valid.some (valid-one ops wiring (ap (λ (w : Wiring Gold). w.version) made) valid) in
          subst (λ (xs : List Gold). IsFirstNonzero ops xs None ↔ AreCompressing ops of_number given public private) (sym (checks ∙ outputs public private hp hq)) (λ z. z, λ z. z);
      reduced = subst (λ (w : Wiring Gold). IsReduced ops w.layers) (sym made) c.in_ok-kept.ensures.reduced;
    }
