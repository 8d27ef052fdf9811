-- Numbers as std spells their bytes, and as fields do.
use Rattle.std.specs.Prelude.{◌≡◌, ℕ, ◌+◌, ◌*◌, ◌/◌, ◌%◌, ◌^◌, List, [], ◌∷◌, length, slice_index}
use Rattle.std.proofs.Common.{zero, suc, refl, sym, ap, ◌∙◌, arith}
use Rattle.std.proofs.Math.Nat.{div-div-eq-div-mul, pow-suc, pow-zero, div-one}
use Rattle.std.specs.Int.{to_le_bytes, from_le_bytes, byte_at, bytes_low_first, byte_worth, sum_through, w64, w128}
use Rattle.lzk_aes.specs.Aes.{aes}
use Rattle.lzk_field.specs.Bytes.{bytes_of, number_from}

byte_at_is : (i n : ℕ) → byte_at i n ≡ n / 256 ^ i % 256
byte_at_is zero n = ap (λ w. w % 256) (sym (div-one n))
byte_at_is (suc i) n = refl

low_first : (k i n : ℕ) → bytes_low_first i k n ≡ bytes_of k (n / 256 ^ i)
low_first zero i n = refl
low_first (suc k) i n =
    let moved : n / 256 ^ suc i ≡ n / 256 ^ i / 256 = ap (λ w. n / w) (pow-suc 256 i) ∙ sym (div-div-eq-div-mul n (256 ^ i) 256) in
    ap (λ b. b ∷ bytes_low_first (suc i) k n) (byte_at_is i n) ∙ ap (λ bs. n / 256 ^ i % 256 ∷ bs) (low_first k (suc i) n ∙ ap (bytes_of k) moved)

pub to_le_bytes_8 : (n : ℕ) → to_le_bytes w64 n ≡ bytes_of 8 n
to_le_bytes_8 n = low_first 8 0 n ∙ ap (bytes_of 8) (div-one n)

pub to_le_bytes_16 : (n : ℕ) → to_le_bytes w128 n ≡ bytes_of 16 n
to_le_bytes_16 n = low_first 16 0 n ∙ ap (bytes_of 16) (div-one n)

sum_front : (f : ℕ → ℕ) (k : ℕ) → sum_through f (suc k) ≡ f 0 + sum_through (λ i. f (suc i)) k
sum_front f zero = refl
sum_front f (suc k) = omega (arith, sum_front f k)

worth_more : (i b : ℕ) → byte_worth (suc i) b ≡ 256 * byte_worth i b
worth_more zero b = omega (arith, pow-suc 256 0, pow-zero 256)
worth_more (suc i) b =
    let up : b * 256 ^ suc (suc i) ≡ b * (256 ^ suc i * 256) = ap (λ w. b * w) (pow-suc 256 (suc i)) in
    omega (arith, up)

sum_more : (g : ℕ → ℕ) (k : ℕ) → sum_through (λ i. byte_worth (suc i) (g i)) k ≡ 256 * sum_through (λ i. byte_worth i (g i)) k
sum_more g zero = worth_more 0 (g 0)
sum_more g (suc k) = omega (arith, sum_more g k, worth_more (suc k) (g (suc k)))

sum-number_from : (bs : List ℕ) (k : ℕ) → length bs ≡ suc k → sum_through (λ i. byte_worth i (slice_index bs i)) k ≡ number_from bs
sum-number_from [] k e = absurd (omega arith)
sum-number_from (b ∷ []) zero e = omega arith
sum-number_from (b ∷ c ∷ bs) zero e = absurd (omega arith)
sum-number_from (b ∷ bs) (suc k) e =
    let split = sum_front (λ i. byte_worth i (slice_index (b ∷ bs) i)) k in
    let scaled = sum_more (λ i. slice_index bs i) k in
    omega (arith, split, scaled, sum-number_from bs k (omega arith))

pub from_le_bytes_16 : (bs : List ℕ) → length bs ≡ 16 → from_le_bytes w128 bs ≡ number_from bs
from_le_bytes_16 bs e = sum-number_from bs 15 e

-- the block of a counter, as the code computes it
pub block_number : (seed block : List ℕ) (counter n : ℕ) (bytes : List ℕ) → length block ≡ 16 → bytes ≡ to_le_bytes w128 counter → block ≡ aes seed bytes → n ≡ from_le_bytes w128 block
    → n ≡ number_from (aes seed (bytes_of 16 counter))
block_number seed block counter n bytes len spelled enciphered read =
    read ∙ from_le_bytes_16 block len ∙ ap number_from (enciphered ∙ ap (aes seed) (spelled ∙ to_le_bytes_16 counter))
