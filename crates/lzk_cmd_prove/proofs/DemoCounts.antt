-- The demo's circuit, and the numbers of its inputs.
use Rattle.std.proofs.Common.{◌≡◌, ℕ, zero, suc, Bool, ◌≤◌, List, length, Some, None, refl, sym, ap, ◌∙◌, leb-true}
use Rattle.std.specs.Prelude.{nat_le, ◌&&◌, true, not}
use Rattle.std.proofs.lemmas.List.{length-map}
use Rattle.std.proofs.lemmas.Bool.{and_parts}
use Rattle.lzk_circbytes.specs.declared.any.AnyCircuit.TheVariants.{Gold}
use Rattle.lzk_circuit.specs.Valid.{Wiring}
use Rattle.lzk_circuit.specs.Wires.{IsFirstNonzero}
use Rattle.lzk_demo.specs.Demo.{demo_tree, demo_statements, demo_private, alternating, bit_of}
use Rattle.lzk_demo.proofs.Limits.{demo_publics, demo_privates}
use Rattle.lzk_field.specs.Ring.{Ops}
use Rattle.lzk_goldilocks.specs.Elements as gold
use Rattle.lzk_goldilocks.specs.declared.element.Gold.{Gold as GoldElement}
use Rattle.lzk_level.specs.Compiled.{HasValues, HasReducedLayers, source_layers}
use Rattle.lzk_level.specs.SomeCircuit.{IsCircuitOf}
use Rattle.lzk_cmd_words.specs.Keys.{are_digits, is_number, number_of}

-- a circuit of the demo's source
pub demo_compiled : (n : ℕ) (c : Wiring GoldElement) → c.version ≡ 1 → c.publics ≡ 1 → c.privates ≡ n → length c.layers ≡ source_layers (demo_tree n) → HasValues gold.ops gold.of_number (demo_statements n) c → HasReducedLayers (Gold c)
    → IsCircuitOf (demo_tree n) (Gold c)
demo_compiled n c version publics privates layers outputs reduced = record {
  version_is = version;
  field_is = refl;
  publics = publics ∙ sym (demo_publics n);
  privates = privates ∙ sym (demo_privates n);
  layers = layers;
  outputs = outputs;
  reduced = reduced;
}

-- checks that are all 0 have none that is not
pub none_nonzero : {A : Type 0} (o : Ops A) (checks : List A) (first : ℕ × A) → IsFirstNonzero o checks None → IsFirstNonzero o checks (Some first) → ⊥
none_nonzero o checks first none some = some.2 (sym some.1 ∙ none first.0 some.0)

-- as many private inputs as the demo has
length_alternating : (b : Bool) (n : ℕ) → length (alternating b n) ≡ n
length_alternating b zero = refl
length_alternating b (suc n) = ap suc (length_alternating (not b) n)

pub length_private : {A : Type 0} (o : Ops A) (n : ℕ) → length (demo_private o n) ≡ n
length_private o n = length-map (alternating true n) (bit_of o) ∙ length_alternating true n

-- digits of a number of inputs keep its bounds
pub number_fits : (count : List ℕ) → is_number 16384 count ≡ true → (1 ≤ number_of count) × (number_of count ≤ 16384)
number_fits count h =
    let behind = and_parts (nat_le 1 (length count) && nat_le (length count) 9) (are_digits count && (nat_le 1 (number_of count) && nat_le (number_of count) 16384)) h in
    let bounds = and_parts (are_digits count) (nat_le 1 (number_of count) && nat_le (number_of count) 16384) behind.1 in
    let both = and_parts (nat_le 1 (number_of count)) (nat_le (number_of count) 16384) bounds.1 in
    (leb-true 1 (number_of count) both.0, leb-true (number_of count) 16384 both.1)
