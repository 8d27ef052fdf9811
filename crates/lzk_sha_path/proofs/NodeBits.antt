-- The state from which nodes are made, as constants that a circuit finds.
use Rattle.std.specs.Prelude.{◌≡◌, ℕ, ◌-◌, ◌/◌, ◌%◌, ◌^◌, ◌<◌, length, slice_index}
use Rattle.std.specs.Int.{bit_at}
use Rattle.std.proofs.Common.{sym, ap, ◌∙◌, arith, inl, inr, subst}
use Rattle.std.proofs.lemmas.Bool.{cases_lt}
use Rattle.std.proofs.lemmas.List.{get_or_past}
use Rattle.std.proofs.lemmas.List.FromFn.{length-map-range_with_len, get_or-map-range_with_len}
use Rattle.std.proofs.lemmas.Nat.Bits.{bit_at-lt}
use Rattle.lzk_sha_circuit.specs.declared.bit.Bit.TheVariants.{Zero}
use Rattle.lzk_sha_circuit.specs.Places.{IsBitOf, bit_of, bit_constant, bit_value}
use Rattle.lzk_sha_circuit.proofs.MessagePlaces.{constant_within, zero_within, constant_value}
use Rattle.lzk_sha_circuit.proofs.Standard.{eight_cases}
use Rattle.lzk_sha_path.specs.Levels.{node_bits}
use Rattle.lzk_sha_path.specs.Roots.{node_state}

-- bit j of the state
abbrev pub node_number : ℕ → ℕ
node_number j = bit_at (slice_index node_state (j / 32)) (31 - j % 32)

node_bit : (j : ℕ) → j < 256 → bit_of node_bits j ≡ bit_constant (node_number j)
unfolding node_bits
node_bit j lt = get_or-map-range_with_len (λ i. bit_constant (node_number i)) 0 256 j j Zero lt (omega arith)

pub length-node_bits : length node_bits ≡ 256
unfolding node_bits
length-node_bits = length-map-range_with_len (λ i. bit_constant (node_number i)) 0 256

pub node_within : (n j : ℕ) → IsBitOf n (bit_of node_bits j)
node_within n j = elim (cases_lt j 256) [
  | inl less ↦ subst (IsBitOf n) (sym (node_bit j less)) (constant_within n (node_number j))
  | inr more ↦ subst (IsBitOf n) (sym (get_or_past node_bits j Zero (let long = length-node_bits in omega (arith, long, more)))) (zero_within n)
]

pub node_value : {A : Type 0} (element : ℕ → A) (input : ℕ → A) (j : ℕ) → j < 256 → bit_value element input (bit_of node_bits j) ≡ element (node_number j)
node_value element input j lt =
    let n = slice_index node_state (j / 32) in
    ap (bit_value element input) (node_bit j lt) ∙ constant_value element input (node_number j) (bit_at-lt n (31 - j % 32))

pub state_below : (i : ℕ) → i < 8 → slice_index node_state i < 2 ^ 32
state_below =
    eight_cases (λ i. slice_index node_state i < 2 ^ 32)
    (omega arith) (omega arith) (omega arith) (omega arith) (omega arith) (omega arith) (omega arith) (omega arith)
