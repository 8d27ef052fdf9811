-- Entries of lists that are made of chunks of one length.
use Rattle.std.specs.Prelude.{◌≡◌, ℕ, ◌+◌, ◌-◌, ◌*◌, ◌/◌, ◌%◌, ◌^◌, ◌<◌, ◌≤◌, List, [], ◌∷◌, ◌++◌, map, length, slice_index, slice_index_or}
use Rattle.std.specs.List.{range_with_len, flat_map}
use Rattle.std.specs.Int.{bit_at}
use Rattle.std.proofs.Common.{refl, sym, ap, ◌∙◌, arith, zero, suc, mul-suc, mul-zero, length-append, get_or-append-add, mod-lt}
use Rattle.std.proofs.lemmas.List.{get_or_append_left}
use Rattle.std.proofs.lemmas.List.FromFn.{length-map-range_with_len, get_or-map-range_with_len, length-range_with_len, get_or-range_with_len}
use Rattle.std.proofs.lemmas.Nat.Bits.{bit_at-lt}
use Rattle.std.proofs.lemmas.Nat.{div_below}
use Rattle.lzk_sha_circuit.specs.Places.{bits_from}
use Rattle.sha2.specs.Sha256.{schedule, rounds, round_constants}
use Rattle.lzk_sha_circuit.specs.Inputs.{bit_list, sum_list, round_list, schedule_list, rounds_list, final_list, compression_private, next_total, first_total, second_total}
use Rattle.lzk_sha_circuit.proofs.Numbered.{IsBit}
use Rattle.lzk_sha_circuit.proofs.Held.{Held}

module _ {X A : Type 0} (f : X → List A) (size : ℕ) (each : (x : X) → length (f x) ≡ size) where
  pub length-chunks : (xs : List X) → length (flat_map f xs) ≡ size * length xs
  length-chunks [] = sym (mul-zero size)
  length-chunks (x ∷ xs) = length-append (f x) (flat_map f xs) ∙ (λ i. each x i + length-chunks xs i) ∙ more (length xs) where
    more : (n : ℕ) → size + size * n ≡ size * suc n
    more n = omega (arith, mul-suc size n)

  pub chunk_entry : (xs : List X) (k j : ℕ) (d : A) (e : X) → k < length xs → j < size → slice_index_or (flat_map f xs) (size * k + j) d ≡ slice_index_or (f (slice_index_or xs k e)) j d
  chunk_entry [] k j d e lk lj = absurd (omega arith)
  chunk_entry (x ∷ xs) zero j d e lk lj =
      let first : size * 0 + j ≡ j = omega (arith, mul-zero size) in
      let one = each x in
      ap (λ n. slice_index_or (f x ++ flat_map f xs) n d) first ∙ get_or_append_left (f x) (flat_map f xs) d j (omega (arith, one))
  chunk_entry (x ∷ xs) (suc k) j d e lk lj =
      let one = each x in
      let place : size * suc k + j ≡ length (f x) + (size * k + j) = omega (arith, mul-suc size k, one) in
      ap (λ n. slice_index_or (f x ++ flat_map f xs) n d) place ∙ get_or-append-add (f x) (flat_map f xs) (size * k + j) d ∙ chunk_entry xs k j d e (omega arith) lj

-- the same over numbers in a row
pub range_entry : {A : Type 0} (f : ℕ → List A) (size : ℕ) → ((t : ℕ) → length (f t) ≡ size) → (a n t j : ℕ) (d : A) → a ≤ t → t < a + n → j < size
    → slice_index_or (flat_map f (range_with_len a n)) (size * (t - a) + j) d ≡ slice_index_or (f t) j d
range_entry f size each a n t j d le lt lj =
    let long = length-range_with_len a n in
    let there : a + (t - a) ≡ t = omega arith in
    chunk_entry f size each (range_with_len a n) (t - a) j d 0 (omega (arith, long)) lj
    ∙ ap (λ k. slice_index_or (f k) j d) (get_or-range_with_len a n (t - a) 0 (omega arith) ∙ there)

pub length-range_chunks : {A : Type 0} (f : ℕ → List A) (size : ℕ) → ((t : ℕ) → length (f t) ≡ size) → (a n : ℕ) → length (flat_map f (range_with_len a n)) ≡ size * n
length-range_chunks f size each a n = length-chunks f size each (range_with_len a n) ∙ ap (λ k. size * k) (length-range_with_len a n)

module _ {A : Type 0} (element : ℕ → A) where
  pub length-bit_list : (count n : ℕ) → length (bit_list element count n) ≡ count
  unfolding bit_list
  length-bit_list count n = length-map-range_with_len (λ j. element (bit_at n (count - 1 - j))) 0 count

  pub bit_list_entry : (count n j : ℕ) (d : A) → j < count → slice_index_or (bit_list element count n) j d ≡ element (bit_at n (count - 1 - j))
  unfolding bit_list
  bit_list_entry count n j d lt = get_or-map-range_with_len (λ k. element (bit_at n (count - 1 - k))) 0 count j j d lt (omega arith)

  pub length-sum_list : (bits s : ℕ) → length (sum_list element bits s) ≡ 32 + bits
  unfolding sum_list
  length-sum_list bits s = length-append (bit_list element 32 (s % 2 ^ 32)) (bit_list element bits (s / 2 ^ 32)) ∙ (λ i. length-bit_list 32 (s % 2 ^ 32) i + length-bit_list bits (s / 2 ^ 32) i)

  pub word_entry : (bits s j : ℕ) (d : A) → j < 32 → slice_index_or (sum_list element bits s) j d ≡ element (bit_at (s % 2 ^ 32) (32 - 1 - j))
  unfolding sum_list
  word_entry bits s j d lt =
      let long = length-bit_list 32 (s % 2 ^ 32) in
      get_or_append_left (bit_list element 32 (s % 2 ^ 32)) (bit_list element bits (s / 2 ^ 32)) d j (omega (arith, long)) ∙ bit_list_entry 32 (s % 2 ^ 32) j d lt

  pub carry_entry : (bits s j : ℕ) (d : A) → j < bits → slice_index_or (sum_list element bits s) (32 + j) d ≡ element (bit_at (s / 2 ^ 32) (bits - 1 - j))
  unfolding sum_list
  carry_entry bits s j d lt =
      let word = bit_list element 32 (s % 2 ^ 32) in
      let carry = bit_list element bits (s / 2 ^ 32) in
      ap (λ n. slice_index_or (word ++ carry) (n + j) d) (sym (length-bit_list 32 (s % 2 ^ 32))) ∙ get_or-append-add word carry j d ∙ bit_list_entry bits (s / 2 ^ 32) j d lt

  -- the word and the carry of a sum whose list stands at a place
  module _ (input : ℕ → A) (place bits s : ℕ) (d : A) (stands : (j : ℕ) → j < 32 + bits → input (place + j) ≡ slice_index_or (sum_list element bits s) j d) where
    pub word_held : Held element 32 (bits_from input place 32) (s % 2 ^ 32)
    word_held = record {
      below = mod-lt s (omega arith);
      bits = λ i lt.
          let back : 32 - 1 - (32 - 1 - i) ≡ i = omega arith in
          stands (32 - 1 - i) (omega arith) ∙ word_entry bits s (32 - 1 - i) d (omega arith) ∙ ap (λ n. element (bit_at (s % 2 ^ 32) n)) back;
    }

    pub carry_held : s < 2 ^ bits * 2 ^ 32 → Held element bits (bits_from input (place + 32) bits) (s / 2 ^ 32)
    carry_held small = record {
      below = div_below s (2 ^ 32) (2 ^ bits) (omega arith) small;
      bits = λ i lt.
          let back : bits - 1 - (bits - 1 - i) ≡ i = omega arith in
          let there : place + 32 + (bits - 1 - i) ≡ place + (32 + (bits - 1 - i)) = omega arith in
          ap input there ∙ stands (32 + (bits - 1 - i)) (omega arith) ∙ carry_entry bits s (bits - 1 - i) d (omega arith) ∙ ap (λ n. element (bit_at (s / 2 ^ 32) n)) back;
    }

-- ---- every entry is a bit
module _ {A : Type 0} (element : ℕ → A) (d : A) (zero_is : d ≡ element 0) where
  abbrev pub AreBits : List A → Type 0
  AreBits xs = (j : ℕ) → IsBit element (slice_index_or xs j d)

  no_bits : AreBits []
  no_bits j = (0, omega arith, zero_is)

  pub both_bits : (xs ys : List A) → AreBits xs → AreBits ys → AreBits (xs ++ ys)
  both_bits [] ys hx hy j = hy j
  both_bits (x ∷ xs) ys hx hy zero = hx 0
  both_bits (x ∷ xs) ys hx hy (suc j) = both_bits xs ys (λ k. hx (suc k)) hy j

  pub chunk_bits : {X : Type 0} (f : X → List A) → ((x : X) → AreBits (f x)) → (xs : List X) → AreBits (flat_map f xs)
  chunk_bits f h [] = no_bits
  chunk_bits f h (x ∷ xs) = both_bits (f x) (flat_map f xs) (h x) (chunk_bits f h xs)

  mapped_bits : (n : ℕ → ℕ) (i : ℕ → ℕ) (xs : List ℕ) → AreBits (map (λ j. element (bit_at (n j) (i j))) xs)
  mapped_bits n i [] j = no_bits j
  mapped_bits n i (x ∷ xs) zero = (bit_at (n x) (i x), bit_at-lt (n x) (i x), refl)
  mapped_bits n i (x ∷ xs) (suc j) = mapped_bits n i xs j

  pub bit_list_bits : (count n : ℕ) → AreBits (bit_list element count n)
  unfolding bit_list
  bit_list_bits count n = mapped_bits (λ j. n) (λ j. count - 1 - j) (range_with_len 0 count)

  pub sum_list_bits : (bits s : ℕ) → AreBits (sum_list element bits s)
  unfolding sum_list
  sum_list_bits bits s = both_bits (bit_list element 32 (s % 2 ^ 32)) (bit_list element bits (s / 2 ^ 32)) (bit_list_bits 32 (s % 2 ^ 32)) (bit_list_bits bits (s / 2 ^ 32))

  round_list_bits : (v : List ℕ) (k w : ℕ) → AreBits (round_list element v k w)
  unfolding round_list
  round_list_bits v k w =
      let a = first_total v k w + second_total v in
      let e = slice_index v 3 + first_total v k w in
      both_bits (sum_list element 3 a) (sum_list element 3 e) (sum_list_bits 3 a) (sum_list_bits 3 e)

  -- every private input of a compression is a bit, where those that it is given are
  pub compression_bits : (first : List A) (h block : List ℕ) → AreBits first → AreBits (compression_private element first h block)
  unfolding compression_private schedule_list rounds_list final_list
  compression_bits first h block hf =
      let ws = schedule block 48 in
      let v = rounds h ws 64 in
      let fw = λ (t : ℕ). sum_list element 2 (next_total ws t) in
      let fr = λ (t : ℕ). round_list element (rounds h ws t) (slice_index round_constants t) (slice_index ws t) in
      let ff = λ (i : ℕ). sum_list element 1 (slice_index h i + slice_index v i) in
      let p2 = flat_map fw (range_with_len 16 48) in
      let p3 = flat_map fr (range_with_len 0 64) in
      let p4 = flat_map ff (range_with_len 0 8) in
      both_bits first (p2 ++ (p3 ++ p4)) hf
      (both_bits p2 (p3 ++ p4) (chunk_bits fw (λ t. sum_list_bits 2 (next_total ws t)) (range_with_len 16 48))
      (both_bits p3 p4 (chunk_bits fr (λ t. round_list_bits (rounds h ws t) (slice_index round_constants t) (slice_index ws t)) (range_with_len 0 64))
      (chunk_bits ff (λ i. sum_list_bits 1 (slice_index h i + slice_index v i)) (range_with_len 0 8))))
