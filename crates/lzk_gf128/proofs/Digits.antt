-- The lower hexadecimal digits of a number's bytes.
use Rattle.std.specs.Prelude.{◌≡◌, ℕ, ◌+◌, ◌*◌, ◌/◌, ◌%◌, ◌^◌, ◌<◌, slice_index, bit_and}
use Rattle.std.proofs.Common.{zero, suc, refl, sym, ap, ◌∙◌, arith}
use Rattle.std.specs.Int.{to_le_bytes, byte_at, bytes_low_first, w64}
use Rattle.std.specs.Int.Bits.{xor_mod}
use Rattle.std.proofs.Math.Nat.{zero-add, add-zero}
use Rattle.lzk_field.proofs.ByteForms.{pow_256}
use Rattle.lzk_gf128.specs.Linear.{Additive}
use Rattle.lzk_gf128.proofs.Basis.{all_below-at, agree, and_spreads, same_by_test, compose, add_shr}
use Rattle.lzk_gf128.proofs.ByteLists.{byte_at_is}

-- the lower digit of each byte
abbrev pub lower_digits : ℕ → ℕ
lower_digits n = bit_and n 1085102592571150095

byte_of : (i : ℕ) (k j n : ℕ) → j < k → slice_index (bytes_low_first i k n) j ≡ byte_at (i + j) n
byte_of i zero j n h = absurd (omega arith)
byte_of i (suc k) zero n h = ap (λ w. byte_at w n) (sym (add-zero i))
byte_of i (suc k) (suc j) n h = let e : suc i + j ≡ i + suc j = omega arith in byte_of (suc i) k j n (omega arith) ∙ ap (λ w. byte_at w n) e

abbrev byte : ℕ → ℕ → ℕ
byte k n = lower_digits n / 2 ^ (8 * k) % 2 ^ 8

abbrev digit : ℕ → ℕ → ℕ
digit k n = n / 2 ^ (8 * k) % 2 ^ 4

byte-additive : (k : ℕ) → Additive (byte k)
byte-additive k =
    compose (λ n. n % 2 ^ 8) (λ n. lower_digits n / 2 ^ (8 * k)) (λ a b. xor_mod a b 8)
    (compose (λ n. n / 2 ^ (8 * k)) lower_digits (add_shr (8 * k)) (λ a b. and_spreads a b 1085102592571150095))

digit-additive : (k : ℕ) → Additive (digit k)
digit-additive k = compose (λ n. n % 2 ^ 4) (λ n. n / 2 ^ (8 * k)) (λ a b. xor_mod a b 4) (add_shr (8 * k))

byte_is : (k n : ℕ) → k < 8 → n < 2 ^ 64 → byte k n ≡ digit k n
byte_is k n h hn = same_by_test (byte k) (digit k) (byte-additive k) (digit-additive k) 64 (all_below-at (λ j. agree (byte j) (digit j) 64) 8 k refl h) n hn

pub digits_are : (n k : ℕ) → n < 2 ^ 64 → k < 8 → slice_index (to_le_bytes w64 (lower_digits n)) k ≡ n / 2 ^ (8 * k) % 16
digits_are n k hn h =
    byte_of 0 8 k (lower_digits n) h
    ∙ ap (λ w. byte_at w (lower_digits n)) (zero-add k)
    ∙ byte_at_is k (lower_digits n)
    ∙ ap (λ w. lower_digits n / w % 256) (pow_256 k)
    ∙ byte_is k n h hn
