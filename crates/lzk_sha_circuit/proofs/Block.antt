-- The first 16 words hold the words of the block.
use Rattle.std.specs.Prelude.{◌≡◌, ℕ, ◌+◌, ◌-◌, ◌*◌, ◌/◌, ◌%◌, ◌^◌, ◌<◌, ◌≤◌, List, [], ◌∷◌, ◌++◌, length, replicate, slice_index, if◌then◌else◌}
use Rattle.std.specs.Int.{bit_at, w64, to_be_bytes, byte_at, bytes_high_first}
use Rattle.std.proofs.Common.{sym, ap, ◌∙◌, arith, zero, suc, inl, inr, lt-ltb, mod-lt}
use Rattle.std.proofs.lemmas.Nat.Bits.{bit_at_cat_low, bit_at_cat_high}
use Rattle.std.proofs.lemmas.Bool.{cases_lt}
use Rattle.sha2.specs.Sha256.{padding, word_at}
use Rattle.lzk_sha_circuit.specs.Places.{Places, block_bit, schedule_word, bits_from, w_place}
use Rattle.lzk_sha_circuit.specs.Digest.{AreBytes}
use Rattle.lzk_sha_circuit.proofs.Held.{Held}

-- ---- bytes, and 0 past the end
abbrev pub Bytes : List ℕ → Type 0
Bytes xs = (k : ℕ) → slice_index xs k < 256

no_bytes : Bytes []
no_bytes k = omega arith

one_byte : (x : ℕ) → x < 256 → (xs : List ℕ) → Bytes xs → Bytes (x ∷ xs)
one_byte x lt xs h zero = lt
one_byte x lt xs h (suc k) = h k

pub both_bytes : (xs ys : List ℕ) → Bytes xs → Bytes ys → Bytes (xs ++ ys)
both_bytes [] ys hx hy k = hy k
both_bytes (x ∷ xs) ys hx hy zero = hx 0
both_bytes (x ∷ xs) ys hx hy (suc k) = both_bytes xs ys (λ j. hx (suc j)) hy k

zero_bytes : (n : ℕ) → Bytes (replicate n 0)
zero_bytes zero k = omega arith
zero_bytes (suc n) zero = omega arith
zero_bytes (suc n) (suc k) = zero_bytes n k

byte-lt : (i n : ℕ) → byte_at i n < 256
byte-lt zero n = omega arith
byte-lt (suc i) n = mod-lt _ (omega arith)

high_bytes : (k n : ℕ) → Bytes (bytes_high_first k n)
high_bytes zero n = no_bytes
high_bytes (suc k) n = one_byte (byte_at k n) (byte-lt k n) (bytes_high_first k n) (high_bytes k n)

pub padding_bytes : (n : ℕ) → Bytes (padding n)
padding_bytes n =
    both_bytes (0x80 ∷ replicate ((119 - n % 64) % 64) 0) (to_be_bytes w64 (n * 8 % 2 ^ 64)) (one_byte 128 (omega arith) (replicate ((119 - n % 64) % 64) 0) (zero_bytes ((119 - n % 64) % 64))) (high_bytes 8 (n * 8 % 2 ^ 64))

pub message_bytes : (m : List ℕ) → AreBytes m → Bytes m
message_bytes [] h k = omega arith
message_bytes (x ∷ xs) h zero = h 0 (omega arith)
message_bytes (x ∷ xs) h (suc k) = message_bytes xs (λ j lt. h (suc j) (omega arith)) k

-- ---- a bit of a word is one of the byte that it is in
word_bit : (b0 b1 b2 b3 : ℕ) → b1 < 256 → b2 < 256 → b3 < 256 → (i : ℕ) (byte : ℕ) (place : ℕ) → i < 32
    → (i < 8 → (byte ≡ b3) × (place ≡ i)) → (8 ≤ i → i < 16 → (byte ≡ b2) × (place ≡ i - 8)) → (16 ≤ i → i < 24 → (byte ≡ b1) × (place ≡ i - 8 - 8)) → (24 ≤ i → (byte ≡ b0) × (place ≡ i - 8 - 8 - 8))
    → bit_at (((b0 * 2 ^ 8 + b1) * 2 ^ 8 + b2) * 2 ^ 8 + b3) i ≡ bit_at byte place
word_bit b0 b1 b2 b3 l1 l2 l3 i byte place lt p3 p2 p1 p0 =
    let high = (b0 * 2 ^ 8 + b1) * 2 ^ 8 + b2 in
    elim (cases_lt i 8) [
      | inl a ↦ bit_at_cat_low high 8 b3 i a ∙ (λ j. bit_at (sym (p3 a).0 j) (sym (p3 a).1 j))
      | inr a ↦ bit_at_cat_high high 8 b3 i l3 a ∙ elim (cases_lt i 16) [
        | inl b ↦ bit_at_cat_low (b0 * 2 ^ 8 + b1) 8 b2 (i - 8) (omega arith) ∙ (λ j. bit_at (sym (p2 a b).0 j) (sym (p2 a b).1 j))
        | inr b ↦ bit_at_cat_high (b0 * 2 ^ 8 + b1) 8 b2 (i - 8) l2 (omega arith) ∙ elim (cases_lt i 24) [
          | inl d ↦ bit_at_cat_low b0 8 b1 (i - 8 - 8) (omega arith) ∙ (λ j. bit_at (sym (p1 b d).0 j) (sym (p1 b d).1 j))
          | inr d ↦ bit_at_cat_high b0 8 b1 (i - 8 - 8) l1 (omega arith) ∙ (λ j. bit_at (sym (p0 d).0 j) (sym (p0 d).1 j))
        ]
      ]
    ]

word_of_bytes : (b0 b1 b2 b3 : ℕ) → b0 * 16777216 + b1 * 65536 + b2 * 256 + b3 ≡ ((b0 * 2 ^ 8 + b1) * 2 ^ 8 + b2) * 2 ^ 8 + b3
word_of_bytes b0 b1 b2 b3 = omega arith

word-lt : (b0 b1 b2 b3 : ℕ) → b0 < 256 → b1 < 256 → b2 < 256 → b3 < 256 → b0 * 16777216 + b1 * 65536 + b2 * 256 + b3 < 4294967296
word-lt b0 b1 b2 b3 l0 l1 l2 l3 = omega arith

word_at_bit : (p : List ℕ) → Bytes p → (t i : ℕ) → i < 32
    → bit_at (word_at p (4 * t)) i ≡ bit_at (slice_index p ((32 * t + (31 - i)) / 8)) (7 - (32 * t + (31 - i)) % 8)
word_at_bit p h t i lt =
    let b0 = slice_index p (4 * t) in
    let b1 = slice_index p (4 * t + 1) in
    let b2 = slice_index p (4 * t + 2) in
    let b3 = slice_index p (4 * t + 3) in
    let j = 32 * t + (31 - i) in
    ap (λ n. bit_at n i) (word_of_bytes b0 b1 b2 b3)
    ∙ word_bit b0 b1 b2 b3 (h (4 * t + 1)) (h (4 * t + 2)) (h (4 * t + 3)) i (slice_index p (j / 8)) (7 - j % 8) lt
    (λ a. (ap (λ k. slice_index p k) (omega arith), omega arith))
    (λ a b. (ap (λ k. slice_index p k) (omega arith), omega arith))
    (λ a b. (ap (λ k. slice_index p k) (omega arith), omega arith))
    (λ a. (ap (λ k. slice_index p k) (omega arith), omega arith))

module _ {A : Type 0} (element : ℕ → A) (given : Places) (input : ℕ → A) (block : List ℕ) (long : length block ≡ 64) (bytes : AreBytes block)
    (bits : (j : ℕ) → j < 512 → block_bit element given input j ≡ element (bit_at (slice_index block (j / 8)) (7 - j % 8))) where
  pub held_block : (t : ℕ) → t < 16 → Held element 32 (schedule_word element given input t) (word_at block (4 * t))
  held_block t lt =
      let h = message_bytes block bytes in record {
        below = word-lt (slice_index block (4 * t)) (slice_index block (4 * t + 1)) (slice_index block (4 * t + 2)) (slice_index block (4 * t + 3)) (h (4 * t)) (h (4 * t + 1)) (h (4 * t + 2)) (h (4 * t + 3));
        bits = λ i few.
            ap (λ b. if b then block_bit element given input (32 * t + (31 - i)) else bits_from input (w_place given t) 32 i) (lt-ltb t 16 lt)
            ∙ bits (32 * t + (31 - i)) (omega (arith, lt)) ∙ ap element (sym (word_at_bit block h t i few));
      }
