-- Where the blocks of a message are, and what they see of the whole.
use Rattle.std.specs.Prelude.{◌≡◌, ℕ, ◌+◌, ◌-◌, ◌*◌, ◌/◌, ◌%◌, ◌<◌, ◌≤◌, nat_lt, if◌then◌else◌, Bool, true, false, List, ◌∷◌, ◌++◌, length, map, slice_index}
use Rattle.std.specs.List.{range_with_len}
use Rattle.std.specs.Int.{bit_at}
use Rattle.std.proofs.Common.{zero, suc, refl, sym, ap, ◌∙◌, arith, inl, inr, subst, lt-ltb, le-ltb, length-append, ext_get_or, get_or-append-add}
use Rattle.std.proofs.lemmas.Bool.{cases_lt}
use Rattle.std.proofs.lemmas.List.{length-map, get_or-map, get_or_past, get_or_append_left, map-append}
use Rattle.std.proofs.lemmas.List.FromFn.{length-map-range_with_len, get_or-map-range_with_len, length-range_with_len, get_or-range_with_len}
use Rattle.lzk_field.specs.Ring.{Ops}
use Rattle.lzk_field.specs.Sums.{entry}
use Rattle.lzk_circuit.specs.Wires.{inputs_of}
use Rattle.lzk_circuit_reduce.specs.Renumbering.{at, AreNumbersBelow}
use Rattle.lzk_circuit_beside.specs.Chosen.{chosen}
use Rattle.sha2.specs.Sha256.{padding}
use Rattle.lzk_sha_circuit.specs.declared.bit.Bit.{Bit}
use Rattle.lzk_sha_circuit.specs.declared.bit.Bit.TheVariants.{Zero, Input}
use Rattle.lzk_sha_circuit.specs.Places.{Places, IsPlaced, IsBitOf, bit_of, bit_constant, initial_state}
use Rattle.lzk_sha_circuit.proofs.MessagePlaces.{constant_within, zero_within, input_within, initial_within, length-initial_state}
use Rattle.lzk_sha_blocks.specs.Hashed.{block_public, block_private}
use Rattle.lzk_sha_blocks.specs.Layout.{blocks, held, added, private_count, state_count, given_count, block_bit, block_bits, state_bits, block_places, public_wire, state_wire, private_wire, public_wires, private_wires}

-- ---- choices
pub if_true : {A : Type 0} (b : Bool) (x y : A) → b ≡ true → (if b then x else y) ≡ x
if_true b x y e = ap (λ c. if c then x else y) e

pub if_false : {A : Type 0} (b : Bool) (x y : A) → b ≡ false → (if b then x else y) ≡ y
if_false b x y e = ap (λ c. if c then x else y) e

-- ---- what is given is placed
pub state_few : (i : ℕ) → state_count i ≤ 256
state_few zero = omega arith
state_few (suc i) = omega arith

pub length-block_bits : (len i : ℕ) → length (block_bits len i) ≡ 512
unfolding block_bits
length-block_bits len i = length-map-range_with_len (block_bit len i) 0 512

pub block_bit_at : (len i j : ℕ) → j < 512 → bit_of (block_bits len i) j ≡ block_bit len i j
unfolding block_bits
block_bit_at len i j lt = get_or-map-range_with_len (block_bit len i) 0 512 j j Zero lt (omega arith)

pub length-state_bits : (len i : ℕ) → length (state_bits len i) ≡ 256
unfolding state_bits
length-state_bits len zero = length-initial_state
length-state_bits len (suc i) = length-map-range_with_len (λ j. Input (8 * held len (suc i) + j)) 0 256

pub state_bit_at : (len i j : ℕ) → j < 256 → bit_of (state_bits len (suc i)) j ≡ Input (8 * held len (suc i) + j)
unfolding state_bits
state_bit_at len i j lt = get_or-map-range_with_len (λ k. Input (8 * held len (suc i) + k)) 0 256 j j Zero lt (omega arith)

block_within : (len i j : ℕ) → IsBitOf (given_count len i) (bit_of (block_bits len i) j)
block_within len i j = elim (cases_lt j 512) [
  | inl less ↦
      let v = bit_at (slice_index (padding len) ((512 * i + j) / 8 - len)) (7 - j % 8) in
      subst (IsBitOf (given_count len i)) (sym (block_bit_at len i j less))
      (elim (cases_lt (512 * i + j) (8 * len)) [
        | inl inside ↦ subst (IsBitOf (given_count len i)) (sym (if_true (nat_lt (512 * i + j) (8 * len)) (Input j) (bit_constant v) (lt-ltb (512 * i + j) (8 * len) inside))) (input_within (given_count len i) j (omega (arith, less, inside)))
        | inr past ↦ subst (IsBitOf (given_count len i)) (sym (if_false (nat_lt (512 * i + j) (8 * len)) (Input j) (bit_constant v) (le-ltb (512 * i + j) (8 * len) past))) (constant_within (given_count len i) v)
      ])
  | inr more ↦ subst (IsBitOf (given_count len i)) (sym (get_or_past (block_bits len i) j Zero (let long = length-block_bits len i in omega (arith, long, more)))) (zero_within (given_count len i))
]

state_within : (len i j : ℕ) → IsBitOf (given_count len i) (bit_of (state_bits len i) j)
unfolding state_bits
state_within len zero j = initial_within (given_count len 0) j
state_within len (suc i) j = elim (cases_lt j 256) [
  | inl less ↦ subst (IsBitOf (given_count len (suc i))) (sym (state_bit_at len i j less)) (input_within (given_count len (suc i)) (8 * held len (suc i) + j) (omega (arith, less)))
  | inr more ↦ subst (IsBitOf (given_count len (suc i))) (sym (get_or_past (state_bits len (suc i)) j Zero (let long = length-state_bits len (suc i) in omega (arith, long, more)))) (zero_within (given_count len (suc i)))
]

pub block_placed : (len i : ℕ) → IsPlaced (block_places len i)
block_placed len i = record {
  few = let s = state_few i in omega (arith, s);
  state_bits = length-state_bits len i;
  block_bits = length-block_bits len i;
  state_within = state_within len i;
  block_within = block_within len i;
}

pub first_state : (len i : ℕ) → i ≡ 0 → initial_state ≡ state_bits len i
unfolding state_bits
first_state len zero e = refl
first_state len (suc i) e = absurd (omega (arith, e))

pub later_state : (len i own : ℕ) → (i ≡ 0 → ⊥) → own ≡ held len i → map (λ j. Input (8 * own + j)) (range_with_len 0 256) ≡ state_bits len i
unfolding state_bits
later_state len zero own some e = absurd (some refl)
later_state len (suc i) own some e = ap (λ n. map (λ j. Input (8 * n + j)) (range_with_len 0 256)) e

abbrev pub the_places : ℕ → List Bit → List Bit → Places
the_places n state block = record { inputs = n; state = state; block = block }

pub places_are : (len i own state_size : ℕ) (state block : List Bit) → own ≡ held len i → state_size ≡ state_count i → state ≡ state_bits len i → block ≡ block_bits len i
    → the_places (8 * own + state_size) state block ≡ block_places len i
places_are len i own state_size state block e0 e1 e2 e3 = λ j. record { inputs = 8 * e0 j + e1 j; state = e2 j; block = e3 j }

-- ---- the wires
pub public_inner : (len i k : ℕ) → i + 1 < blocks len → public_wire len i k ≡ 9 + added len i + 6376 + k
public_inner len i k lt = if_true (nat_lt (i + 1) (blocks len)) (9 + added len i + 6376 + k) (1 + k) (lt-ltb (i + 1) (blocks len) lt)

pub public_last : (len i k : ℕ) → blocks len ≤ i + 1 → public_wire len i k ≡ 1 + k
public_last len i k le = if_false (nat_lt (i + 1) (blocks len)) (9 + added len i + 6376 + k) (1 + k) (le-ltb (i + 1) (blocks len) le)

pub message_at : (len i j : ℕ) → j < 8 * held len i → private_wire len i j ≡ 9 + 512 * i + j
message_at len i j lt = if_true (nat_lt j (8 * held len i)) _ _ (lt-ltb j (8 * held len i) lt)

pub state_at : (len i j : ℕ) → 8 * held len i ≤ j → j < given_count len i → private_wire len i j ≡ state_wire len (i - 1) (j - 8 * held len i)
state_at len i j le lt =
    if_false (nat_lt j (8 * held len i)) _ _ (le-ltb j (8 * held len i) le)
    ∙ if_true (nat_lt j (given_count len i)) _ _ (lt-ltb j (given_count len i) lt)

pub added_at : (len i j : ℕ) → given_count len i ≤ j → private_wire len i j ≡ 9 + added len i + (j - given_count len i)
added_at len i j le =
    if_false (nat_lt j (8 * held len i)) _ _ (le-ltb j (8 * held len i) (omega (arith, le)))
    ∙ if_false (nat_lt j (given_count len i)) _ _ (le-ltb j (given_count len i) le)

-- ---- they are those of the whole
module _ (len i : ℕ) (lt : i < blocks len) where
  public_below : (k : ℕ) → k < 8 → public_wire len i k < 9 + private_count len
  public_below k few = elim (cases_lt (i + 1) (blocks len)) [
    | inl inner ↦ subst (λ w. w < 9 + private_count len) (sym (public_inner len i k inner)) (omega (arith, inner, few))
    | inr outer ↦ subst (λ w. w < 9 + private_count len) (sym (public_last len i k outer)) (omega (arith, few))
  ]

  private_below : (j : ℕ) → j < given_count len i + 6376 → private_wire len i j < 9 + private_count len
  private_below j few = elim (cases_lt j (8 * held len i)) [
    | inl own ↦ subst (λ w. w < 9 + private_count len) (sym (message_at len i j own)) (omega (arith, own, lt))
    | inr past ↦ elim (cases_lt j (given_count len i)) [
      | inl state ↦
          let s = state_few i in
          let before : 1 ≤ i = some i (omega (arith, past, state)) in
          subst (λ w. w < 9 + private_count len) (sym (state_at len i j past state)) (omega (arith, past, state, lt, s, before))
      | inr more ↦ subst (λ w. w < 9 + private_count len) (sym (added_at len i j more)) (omega (arith, more, few, lt))
    ]
  ] where
    some : (n : ℕ) → 0 < state_count n → 1 ≤ n
    some zero h = absurd (omega (arith, h))
    some (suc n) h = omega arith

  pub wires_below : AreNumbersBelow (9 + private_count len) (public_wires len i ++ private_wires len i)
  wires_below k inside =
      let n0 = length-map-range_with_len (public_wire len i) 0 8 in
      let n1 = length-map-range_with_len (private_wire len i) 0 (given_count len i + 6376) in
      let both = length-append (public_wires len i) (private_wires len i) in
      elim (cases_lt k 8) [
        | inl few ↦
            subst (λ w. w < 9 + private_count len)
            (sym (get_or_append_left (public_wires len i) (private_wires len i) 0 k (omega (arith, n0, few)) ∙ get_or-map-range_with_len (public_wire len i) 0 8 k k 0 few (omega arith)))
            (public_below k few)
        | inr more ↦
            let j = k - 8 in
            let there : k ≡ length (public_wires len i) + j = omega (arith, n0, more) in
            let fits : j < given_count len i + 6376 = omega (arith, n0, n1, both, inside, more) in
            subst (λ w. w < 9 + private_count len)
            (sym (ap (at (public_wires len i ++ private_wires len i)) there ∙ get_or-append-add (public_wires len i) (private_wires len i) j 0 ∙ get_or-map-range_with_len (private_wire len i) 0 (given_count len i + 6376) j j 0 fits (omega arith)))
            (private_below j fits)
      ]

pub length-wires : (len i : ℕ) → length (public_wires len i ++ private_wires len i) ≡ 8 + (given_count len i + 6376)
length-wires len i =
    let n0 = length-map-range_with_len (public_wire len i) 0 8 in
    let n1 = length-map-range_with_len (private_wire len i) 0 (given_count len i + 6376) in
    let both = length-append (public_wires len i) (private_wires len i) in
    omega (arith, n0, n1, both)

pub all_below : (n : ℕ) → AreNumbersBelow (1 + n) (range_with_len 1 n)
all_below n k inside =
    let long = length-range_with_len 1 n in
    subst (λ w. w < 1 + n) (sym (get_or-range_with_len 1 n k 0 (omega (arith, long, inside)))) (omega (arith, long, inside))

-- ---- what is seen
module _ {A : Type 0} (o : Ops A) where
  pub seen_is : (len i : ℕ) (inputs : List A) → chosen o (public_wires len i ++ private_wires len i) inputs ≡ inputs_of o (block_public o len inputs i) (block_private o len inputs i)
  seen_is len i inputs = ap (λ l. o.one ∷ l) (map-append (entry o inputs) (public_wires len i) (private_wires len i))

  pub all_seen : (public private : List A) (n : ℕ) → length public + length private ≡ n → chosen o (range_with_len 1 n) (inputs_of o public private) ≡ inputs_of o public private
  all_seen public private n e =
      let inputs = inputs_of o public private in
      let long = length-range_with_len 1 n in
      let mapped = length-map (range_with_len 1 n) (entry o inputs) in
      let both = length-append public private in
      ap (λ l. o.one ∷ l) (ext_get_or o.zero (map (entry o inputs) (range_with_len 1 n)) (public ++ private) (mapped ∙ long ∙ sym (both ∙ e)) (λ k lt.
      let inside : k < n = omega (arith, mapped, long, lt) in
      let place : 1 + k ≡ suc k = omega arith in
      get_or-map (entry o inputs) (range_with_len 1 n) k 0 o.zero (omega (arith, long, inside))
      ∙ ap (entry o inputs) (get_or-range_with_len 1 n k 0 inside ∙ place)))
