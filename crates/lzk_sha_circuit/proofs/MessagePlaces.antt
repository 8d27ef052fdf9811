-- What a message of one block gives: its bits, those of its padding, and those of the initial hash value.
use Rattle.std.specs.Prelude.{◌≡◌, ℕ, ◌+◌, ◌-◌, ◌*◌, ◌/◌, ◌%◌, ◌<◌, ◌≤◌, nat_lt, if◌then◌else◌, Bool, true, false, List, length, slice_index}
use Rattle.std.specs.Int.{bit_at}
use Rattle.std.proofs.Common.{zero, suc, refl, sym, ap, ◌∙◌, arith, inl, inr, subst, lt-ltb, le-ltb}
use Rattle.std.proofs.lemmas.Bool.{cases_lt}
use Rattle.std.proofs.lemmas.List.{get_or_past, get_or_append_left, get_or-append_right}
use Rattle.std.proofs.lemmas.List.FromFn.{length-map-range_with_len, get_or-map-range_with_len}
use Rattle.std.proofs.lemmas.Nat.Bits.{bit_at-lt}
use Rattle.sha2.specs.Sha256.{padding, padded_message, initial_hash_256}
use Rattle.lzk_sha_circuit.specs.declared.bit.Bit.{Bit}
use Rattle.lzk_sha_circuit.specs.declared.bit.Bit.TheVariants.{Zero, One, Input}
use Rattle.lzk_sha_circuit.specs.Places.{IsPlaced, IsBitOf, bit_of, bit_constant, bit_value, message_bit, message_block, initial_state, message_places, start_word, block_bit}
use Rattle.lzk_sha_circuit.proofs.Held.{Held}
use Rattle.lzk_sha_circuit.proofs.WordSums.{initial_below}

pub constant_within : (n v : ℕ) → IsBitOf n (bit_constant v)
constant_within n zero j e = absurd (cc)
constant_within n (suc v) j e = absurd (cc)

-- a constant that is not 0 is 1
pub one_constant : (v : ℕ) → (v ≡ 0 → ⊥) → One ≡ bit_constant v
one_constant zero h = absurd (h refl)
one_constant (suc v) h = refl

pub zero_within : (n : ℕ) → IsBitOf n Zero
zero_within n j e = absurd (cc)

input_number : Bit → ℕ
input_number Zero = 0
input_number One = 0
input_number (Input j) = j

pub input_within : (n j : ℕ) → j < n → IsBitOf n (Input j)
unfolding input_number
input_within n j lt k e = subst (λ i. i < n) (ap input_number e) lt

pub constant_value : {A : Type 0} (element : ℕ → A) (input : ℕ → A) (v : ℕ) → v < 2 → bit_value element input (bit_constant v) ≡ element v
constant_value element input zero lt = refl
constant_value element input (suc zero) lt = refl
constant_value element input (suc (suc v)) lt = absurd (omega (arith, lt))

-- ---- the initial hash value
pub initial_bit : (j : ℕ) → j < 256 → bit_of initial_state j ≡ bit_constant (bit_at (slice_index initial_hash_256 (j / 32)) (31 - j % 32))
unfolding initial_state
initial_bit j lt = get_or-map-range_with_len (λ i. bit_constant (bit_at (slice_index initial_hash_256 (i / 32)) (31 - i % 32))) 0 256 j j Zero lt (omega arith)

pub length-initial_state : length initial_state ≡ 256
unfolding initial_state
length-initial_state = length-map-range_with_len (λ i. bit_constant (bit_at (slice_index initial_hash_256 (i / 32)) (31 - i % 32))) 0 256

pub initial_within : (n j : ℕ) → IsBitOf n (bit_of initial_state j)
initial_within n j = elim (cases_lt j 256) [
  | inl less ↦ subst (IsBitOf n) (sym (initial_bit j less)) (constant_within n (bit_at (slice_index initial_hash_256 (j / 32)) (31 - j % 32)))
  | inr more ↦ subst (IsBitOf n) (sym (get_or_past initial_state j Zero (let long = length-initial_state in omega (arith, long, more)))) (zero_within n)
]

-- ---- the block
if_within : (n : ℕ) (b : Bool) (x y : Bit) → (b ≡ true → IsBitOf n x) → IsBitOf n y → IsBitOf n (if b then x else y)
if_within n true x y hx hy = hx refl
if_within n false x y hx hy = hy

pub is_less : (m n : ℕ) → nat_lt m n ≡ true → m < n
is_less m n e = elim (cases_lt m n) [ inl l ↦ l | inr l ↦ absurd (let f = le-ltb m n l in cc) ]

message_bit_within : (len j : ℕ) → IsBitOf (8 * len) (message_bit len j)
message_bit_within len j =
    let v = bit_at (slice_index (padding len) (j / 8 - len)) (7 - j % 8) in
    if_within (8 * len) (nat_lt j (8 * len)) (Input j) (bit_constant v) (λ e. input_within (8 * len) j (is_less j (8 * len) e)) (constant_within (8 * len) v)

pub message_block_bit : (len j : ℕ) → j < 512 → bit_of (message_block len) j ≡ message_bit len j
unfolding message_block
message_block_bit len j lt = get_or-map-range_with_len (message_bit len) 0 512 j j Zero lt (omega arith)

pub length-message_block : (len : ℕ) → length (message_block len) ≡ 512
unfolding message_block
length-message_block len = length-map-range_with_len (message_bit len) 0 512

message_within : (len j : ℕ) → IsBitOf (8 * len) (bit_of (message_block len) j)
message_within len j = elim (cases_lt j 512) [
  | inl less ↦ subst (IsBitOf (8 * len)) (sym (message_block_bit len j less)) (message_bit_within len j)
  | inr more ↦ subst (IsBitOf (8 * len)) (sym (get_or_past (message_block len) j Zero (let long = length-message_block len in omega (arith, long, more)))) (zero_within (8 * len))
]

pub message_placed : (len : ℕ) → len ≤ 55 → IsPlaced (message_places len)
message_placed len few = record {
  few = omega (arith, few);
  state_bits = length-initial_state;
  block_bits = length-message_block len;
  state_within = initial_within (8 * len);
  block_within = message_within len;
}

-- ---- what is found
module _ {A : Type 0} (element : ℕ → A) (input : ℕ → A) where
  pub initial_value : (j : ℕ) → j < 256 → bit_value element input (bit_of initial_state j) ≡ element (bit_at (slice_index initial_hash_256 (j / 32)) (31 - j % 32))
  initial_value j lt =
      let n = slice_index initial_hash_256 (j / 32) in
      ap (bit_value element input) (initial_bit j lt) ∙ constant_value element input (bit_at n (31 - j % 32)) (bit_at-lt n (31 - j % 32))

  pub held_initial : (len k : ℕ) → k < 8 → Held element 32 (start_word element (message_places len) input k) (slice_index initial_hash_256 k)
  held_initial len k lt = record {
    below = initial_below k;
    bits = λ i few.
        let word : (32 * k + (31 - i)) / 32 ≡ k = omega (arith, few) in
        let place : 31 - (32 * k + (31 - i)) % 32 ≡ i = omega (arith, few) in
        initial_value (32 * k + (31 - i)) (omega (arith, lt, few)) ∙ (λ j. element (bit_at (slice_index initial_hash_256 (word j)) (place j)));
  }

  -- the block of a message whose bits stand first
  pub block_value : (len : ℕ) (m : List ℕ) → length m ≡ len → ((j : ℕ) → j < 8 * len → input j ≡ element (bit_at (slice_index m (j / 8)) (7 - j % 8)))
      → (j : ℕ) → j < 512 → block_bit element (message_places len) input j ≡ element (bit_at (slice_index (padded_message m) (j / 8)) (7 - j % 8))
  block_value len m long bits j lt =
      let v = bit_at (slice_index (padding len) (j / 8 - len)) (7 - j % 8) in
      let small = bit_at-lt (slice_index (padding len) (j / 8 - len)) (7 - j % 8) in
      ap (bit_value element input) (message_block_bit len j lt)
      ∙ elim (cases_lt j (8 * len)) [
        | inl less ↦
            let inside : j / 8 < length m = omega (arith, long, less) in
            ap (λ b. bit_value element input (if b then Input j else bit_constant v)) (lt-ltb j (8 * len) less)
            ∙ bits j less ∙ ap (λ x. element (bit_at x (7 - j % 8))) (sym (get_or_append_left m (padding (length m)) 0 (j / 8) inside))
        | inr more ↦
            let past : len ≤ j / 8 = omega (arith, more) in
            ap (λ b. bit_value element input (if b then Input j else bit_constant v)) (le-ltb j (8 * len) more)
            ∙ constant_value element input v small
            ∙ ap (λ x. element (bit_at x (7 - j % 8))) (sym (get_or-append_right m (padding (length m)) len (j / 8) 0 long past ∙ ap (λ n. slice_index (padding n) (j / 8 - len)) long))
      ]
