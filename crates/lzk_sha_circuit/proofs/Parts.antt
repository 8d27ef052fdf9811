-- The outputs are all 0 where those of each kind are.
use Rattle.std.specs.Prelude.{◌≡◌, ℕ, ◌<◌, ◌≤◌, List, [], ◌∷◌, ◌++◌, length, map}
use Rattle.std.specs.List.{range_with_len, flat_map}
use Rattle.std.proofs.Common.{arith}
use Rattle.lzk_field.specs.Ring.{Ops}
use Rattle.lzk_field.specs.Sums.{entry}
use Rattle.lzk_sha_circuit.specs.Places.{Places}
use Rattle.lzk_sha_circuit.specs.Outputs.{w_output, a_output, e_output, f_output, digest_output, bit_output, compression_outputs, AreCompressing}
use Rattle.lzk_sha_circuit.proofs.Zeros.{zeros_from, zeros_to, zeros_split, zeros_append, zeros_each, zeros_map, zeros_range_each, zeros_range, zeros_pairs_each, zeros_pairs}

-- ---- what each output being 0 says
pub record Parts {A : Type 0} (o : Ops A) (element : ℕ → A) (given : Places) (public private : List A) : Type 0 where
  pub bits : (j : ℕ) → j < length private → bit_output o (entry o private j) ≡ o.zero
  pub schedule : (t : ℕ) → 16 ≤ t → t < 64 → w_output o element given (entry o private) t ≡ o.zero
  pub rounds : (t : ℕ) → t < 64 → (a_output o element given (entry o private) t ≡ o.zero) × (e_output o element given (entry o private) t ≡ o.zero)
  pub finals : (i : ℕ) → i < 8 → f_output o element given (entry o private) i ≡ o.zero
  pub digest : (i : ℕ) → i < 8 → digest_output o element given (entry o private) public i ≡ o.zero

pub parts_of : {A : Type 0} (o : Ops A) (element : ℕ → A) (given : Places) (public private : List A) → AreCompressing o element given public private → Parts o element given public private
unfolding compression_outputs
parts_of o element given public private zeros =
    let input = entry o private in
    let wo = w_output o element given input in
    let ao = a_output o element given input in
    let eo = e_output o element given input in
    let fo = f_output o element given input in
    let po = digest_output o element given input public in
    let s4 = map fo (range_with_len 0 8) ++ map po (range_with_len 0 8) in
    let s3 = flat_map (λ t. ao t ∷ eo t ∷ []) (range_with_len 0 64) ++ s4 in
    let s2 = map wo (range_with_len 16 48) ++ s3 in
    let z1 = zeros_split o (map (bit_output o) private) s2 (zeros_from o (map (bit_output o) private ++ s2) zeros) in
    let z2 = zeros_split o (map wo (range_with_len 16 48)) s3 z1.1 in
    let z3 = zeros_split o (flat_map (λ t. ao t ∷ eo t ∷ []) (range_with_len 0 64)) s4 z2.1 in
    let z4 = zeros_split o (map fo (range_with_len 0 8)) (map po (range_with_len 0 8)) z3.1 in
    record {
      bits = λ j lt. zeros_each o (bit_output o) private o.zero z1.0 j lt;
      schedule = λ t le lt. zeros_range_each o wo 48 16 z2.0 t le lt;
      rounds = λ t lt. zeros_pairs_each o ao eo 64 0 z3.0 t (omega arith) (omega arith);
      finals = λ i lt. zeros_range_each o fo 8 0 z4.0 i (omega arith) (omega arith);
      digest = λ i lt. zeros_range_each o po 8 0 z4.1 i (omega arith) (omega arith);
    }

pub satisfying_of : {A : Type 0} (o : Ops A) (element : ℕ → A) (given : Places) (public private : List A) → Parts o element given public private → AreCompressing o element given public private
unfolding compression_outputs
satisfying_of o element given public private p =
    let input = entry o private in
    let wo = w_output o element given input in
    let ao = a_output o element given input in
    let eo = e_output o element given input in
    let fo = f_output o element given input in
    let po = digest_output o element given input public in
    let s4 = map fo (range_with_len 0 8) ++ map po (range_with_len 0 8) in
    let s3 = flat_map (λ t. ao t ∷ eo t ∷ []) (range_with_len 0 64) ++ s4 in
    let s2 = map wo (range_with_len 16 48) ++ s3 in
    let z1 = zeros_map o (bit_output o) private o.zero p.bits in
    let z2 = zeros_range o wo 48 16 p.schedule in
    let z3 = zeros_pairs o ao eo 64 0 (λ t le lt. p.rounds t (omega arith)) in
    let z4 = zeros_range o fo 8 0 (λ i le lt. p.finals i (omega arith)) in
    let z5 = zeros_range o po 8 0 (λ i le lt. p.digest i (omega arith)) in
    zeros_to o (map (bit_output o) private ++ s2)
    (zeros_append o (map (bit_output o) private) s2 z1
    (zeros_append o (map wo (range_with_len 16 48)) s3 z2
    (zeros_append o (flat_map (λ t. ao t ∷ eo t ∷ []) (range_with_len 0 64)) s4 z3
    (zeros_append o (map fo (range_with_len 0 8)) (map po (range_with_len 0 8)) z4 z5))))
