-- The lengths of the points at which claims stand, and the layers of a circuit by number.
use Rattle.lzk_profile.specs.Profile.{most_bits, most_width}
use Rattle.std.specs.Prelude.{◌≡◌, ℕ, ◌<◌, ◌≤◌, ◌-◌, ◌^◌, ◌∷◌, [], length, map, slice_get, slice_index_or, Some}
use Rattle.std.proofs.Common.{zero, suc, lit<, refl, sym, ap, ◌∙◌, arith, subst}
use Rattle.std.proofs.Math.Nat.{pow-le-pow_right}
use Rattle.std.proofs.lemmas.Option.{slice_get-get_or, get_or_from_slice_get, slice_get_within}
use Rattle.std.proofs.lemmas.List.{get_or_append_left, get_or-append_right, get_or-map, length-map}
use Rattle.lzk_field.specs.Ring.{Ops}
use Rattle.lzk_circuit.specs.Bits.{bits}
use Rattle.lzk_circuit.specs.declared.layer.Layer.{Layer}
use Rattle.lzk_circuit.specs.Valid.{Wiring, IsValid, input_width}
use Rattle.lzk_circuit.proofs.BitLaws.{bits_few, bits_enough}
use Rattle.lzk_layout.specs.Places.{depth, width_at, bits_under}
use Rattle.lzk_layout.proofs.SizeLaws.{narrow}
use Rattle.lzk_sumcheck.specs.declared.script.LayerScript.{LayerScript}
use Rattle.lzk_sumcheck.specs.declared.script.Script.{Script}
use Rattle.lzk_sumcheck.specs.Script.{HasBits, HasShape, layer_at, point_a, point_b}
use Rattle.lzk_sumcheck.specs.Coefficients.{terms_at}

module _ {A : Type 0} (o : Ops A) (c : Wiring A) (s : Script A) (shape : HasShape c s) where
  -- the lengths of a layer's draws
  pub layer_shape : (l : ℕ) → l < depth c → HasBits (bits_under c l) (layer_at o s l)
  layer_shape l h =
      let d : LayerScript A = record { alpha = o.zero; beta = o.zero; ra = []; rb = [] } in
      shape.layers l (slice_index_or s.layers l d) (slice_get-get_or s.layers l d (omega (arith, shape.depth)))

  pub point_a_length : (l : ℕ) → l ≤ depth c → length (point_a o s l) ≡ bits (width_at c l)
  point_a_length zero h = shape.out_point
  point_a_length (suc l) h = (layer_shape l (omega arith)).ra ∙ ap (λ k. bits (width_at c k)) (omega arith)

  pub point_b_length : (l : ℕ) → l ≤ depth c → length (point_b o s l) ≡ bits (width_at c l)
  point_b_length zero h = shape.out_point
  point_b_length (suc l) h = (layer_shape l (omega arith)).rb ∙ ap (λ k. bits (width_at c k)) (omega arith)

-- few bits number a layer's wires
pub few_bits : {A : Type 0} (o : Ops A) (c : Wiring A) (l : ℕ) → IsValid o c → bits (width_at c l) ≤ most_bits
few_bits o c l valid = bits_few (width_at c l) (narrow o c l valid)

module _ {A : Type 0} (c : Wiring A) (l : ℕ) (layer : Layer A) (is : slice_get c.layers l ≡ Some layer) where
  -- a layer's width and terms, by its number
  pub wires_is : layer.wires ≡ width_at c l
  wires_is =
      let within = slice_get_within c.layers l layer is in
      ap (λ x. x.wires) (sym (get_or_from_slice_get c.layers l layer layer is))
      ∙ sym (get_or-map (λ x. x.wires) c.layers l layer 0 within)
      ∙ sym (get_or_append_left (map (λ x. x.wires) c.layers) _ 0 l (omega (arith, within, length-map c.layers (λ x. x.wires))))

  pub terms_is : layer.terms ≡ terms_at c l
  terms_is =
      let within = slice_get_within c.layers l layer is in
      ap (λ x. x.terms) (sym (get_or_from_slice_get c.layers l layer layer is))
      ∙ sym (get_or-map (λ x. x.terms) c.layers l layer [] within)

-- the width of the input layer
pub width_last : {A : Type 0} (c : Wiring A) → width_at c (depth c) ≡ input_width c
width_last c =
    let front = map (λ x. x.wires) c.layers in
    let n : length front ≡ depth c = length-map c.layers (λ x. x.wires) in
    let none : depth c - length front ≡ 0 = omega (arith, n) in
    get_or-append_right front (input_width c ∷ []) (length front) (depth c) 0 refl (omega (arith, n))
    ∙ ap (λ k. slice_index_or (input_width c ∷ []) k 0) none

-- tables over so few bits are small
pub power_small : (n : ℕ) → n ≤ most_bits → 2 ^ n ≤ 2 ^ most_bits
power_small n l = pow-le-pow_right {n = 2} (lit< tt) l

-- the points at which claims on the inputs stand have few bits, and enough
pub record AreInputBits {A : Type 0} (c : Wiring A) (n : ℕ) : Type 0 where
  pub few : n ≤ most_bits
  pub enough : input_width c ≤ 2 ^ n
  pub small : 2 ^ n ≤ 2 ^ most_bits
  pub narrow : input_width c ≤ most_width

pub input_bits : {A : Type 0} (o : Ops A) (c : Wiring A) (d n : ℕ) → IsValid o c → d ≡ depth c → n ≡ bits (width_at c d) → AreInputBits c n
input_bits o c d n valid ed en =
    let w : width_at c d ≡ input_width c = ap (width_at c) ed ∙ width_last c in
    let few : n ≤ most_bits = omega (arith, en, few_bits o c d valid) in
    record {
      few = few;
      enough = subst (λ k. input_width c ≤ 2 ^ k) (sym en) (omega (arith, w, bits_enough (width_at c d)));
      small = power_small n few;
      narrow = omega (arith, w, narrow o c d valid);
    }
