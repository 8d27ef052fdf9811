-- A circuit with the values of the demo's source is satisfied by its inputs.
use Rattle.std.proofs.Common.{◌≡◌, ℕ, zero, suc, ◌≤◌, List, [], ◌∷◌, None, get_or, refl, sym, ◌∙◌, arith, subst, true}
use Rattle.std.specs.Prelude.{length}
use Rattle.std.proofs.lemmas.List.{length-map}
use Rattle.lzk_goldilocks.specs.Prime.{p, element_bytes}
use Rattle.lzk_goldilocks.specs.Elements.{ops, number, of_number, laws}
use Rattle.lzk_goldilocks.specs.declared.element.Gold.{Gold}
use Rattle.lzk_circuit.specs.Valid.{Wiring, input_width}
use Rattle.lzk_circuit.specs.Wires.{inputs_of, IsFirstNonzero}
use Rattle.lzk_circuit.proofs.CheckLaws.{one-checks}
use Rattle.lzk_circuit.proofs.DepthLaws.{inputs-count}
use Rattle.lzk_circuit.proofs.VersionLaws.{valid-one}
use Rattle.lzk_demo.specs.Demo.{demo_public, demo_private, alternating, bit_of, InputsSatisfy}
use Rattle.lzk_demo.proofs.Values.{length-alternating, gold_value}

one_zero : (g : ℕ) → get_or (ops.zero ∷ []) g ops.zero ≡ ops.zero
one_zero zero = refl
one_zero (suc g) = refl

pub demo_satisfied : (n : ℕ) → 1 ≤ n → (c : Wiring Gold) → InputsSatisfy ops number of_number n c
demo_satisfied n some c one valid publics privates h =
    let long = length-map (alternating true n) (bit_of ops) ∙ length-alternating true n in
    let values = h (demo_public ops n) (demo_private ops n) (sym publics) (long ∙ sym privates) ∙ gold_value n some in
    let inputs = inputs_of ops (demo_public ops n) (demo_private ops n) in
    let count : length inputs ≡ input_width c = inputs-count ops (demo_public ops n) (demo_private ops n) ∙ omega (arith, publics, privates, long) in
    let checks = one-checks ops p number of_number element_bytes laws (input_width c) c.layers inputs count valid.some (valid-one ops c one valid) in
    subst (λ (l : List Gold). IsFirstNonzero ops l None) (sym (checks ∙ values)) (λ g lt. one_zero g)
