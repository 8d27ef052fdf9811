-- Bits of shifted and rotated numbers, and numbers of given bits.
use Rattle.std.specs.Prelude.{◌≡◌, ℕ, ◌+◌, ◌-◌, ◌*◌, ◌/◌, ◌%◌, ◌^◌, ◌<◌, ◌≤◌, max, bit_or}
use Rattle.std.specs.Int.{bit_at}
use Rattle.std.proofs.Common.{sym, ap, ◌∙◌, arith, zero, suc, inl, inr, add_comm, add-zero, shr-shr, pow_pos, mod-lt}
use Rattle.std.proofs.lemmas.Nat.{shr_split, mul-add-lt, mod-pow-add, or_lt, shr_le}
use Rattle.std.proofs.lemmas.Nat.Bits.{bit_at_or, bit_at_above, bit_at_cat_low, bit_at_cat_high, bit_at-zero, bit_at_lowest}
use Rattle.std.proofs.lemmas.Bool.{cases_lt}
use Rattle.std.proofs.Math.Nat.{pow-suc}

pub bit_at_shr : (n k i : ℕ) → bit_at (n / 2 ^ k) i ≡ bit_at n (i + k)
bit_at_shr n k i = ap (λ (x : ℕ). x % 2) (shr-shr n k i) ∙ ap (λ (j : ℕ). bit_at n j) (add_comm k i)

pub bit_at_mod : (n w i : ℕ) → i < w → bit_at (n % 2 ^ w) i ≡ bit_at n i
bit_at_mod n w i lt = sym (bit_at_cat_low (n / 2 ^ w) w (n % 2 ^ w) i lt) ∙ ap (λ (m : ℕ). bit_at m i) (shr_split n w)

pub bit_at_shl_low : (n j i : ℕ) → i < j → bit_at (n * 2 ^ j) i ≡ 0
bit_at_shl_low n j i lt = ap (λ (m : ℕ). bit_at m i) (sym (add-zero (n * 2 ^ j))) ∙ bit_at_cat_low n j 0 i lt ∙ bit_at-zero i

pub bit_at_shl_high : (n j i : ℕ) → j ≤ i → bit_at (n * 2 ^ j) i ≡ bit_at n (i - j)
bit_at_shl_high n j i le = ap (λ (m : ℕ). bit_at m i) (sym (add-zero (n * 2 ^ j))) ∙ bit_at_cat_high n j 0 i (pow_pos j) le

-- n rotated right by k, from 1 to w - 1, in a word of w bits
abbrev pub turned : ℕ → ℕ → ℕ → ℕ
turned w n k = bit_or (n / 2 ^ k) (n * 2 ^ (w - k) % 2 ^ w)

pub turned-lt : (w n k : ℕ) → n < 2 ^ w → turned w n k < 2 ^ w
turned-lt w n k fits = or_lt w (n / 2 ^ k) (n * 2 ^ (w - k) % 2 ^ w) (omega (arith, shr_le n k)) (mod-lt _ (pow_pos w))

pub bit_at_turned_low : (w n k i : ℕ) → n < 2 ^ w → i + k < w → bit_at (turned w n k) i ≡ bit_at n (i + k)
bit_at_turned_low w n k i fits lt =
    let right = bit_at_shr n k i in
    let left : bit_at (n * 2 ^ (w - k) % 2 ^ w) i ≡ 0 = bit_at_mod (n * 2 ^ (w - k)) w i (omega arith) ∙ bit_at_shl_low n (w - k) i (omega arith) in
    bit_at_or (n / 2 ^ k) (n * 2 ^ (w - k) % 2 ^ w) i ∙ (λ j. max (right j) (left j)) ∙ max_zero (bit_at n (i + k)) where
      max_zero : (x : ℕ) → max x 0 ≡ x
      max_zero x = omega arith

pub bit_at_turned_high : (w n k i : ℕ) → n < 2 ^ w → i < w → k ≤ w → w ≤ i + k → bit_at (turned w n k) i ≡ bit_at n (i + k - w)
bit_at_turned_high w n k i fits lt few le =
    let right : bit_at (n / 2 ^ k) i ≡ 0 = bit_at_shr n k i ∙ bit_at_above n w (i + k) fits le in
    let same : i - (w - k) ≡ i + k - w = omega arith in
    let left : bit_at (n * 2 ^ (w - k) % 2 ^ w) i ≡ bit_at n (i + k - w) = bit_at_mod (n * 2 ^ (w - k)) w i lt ∙ bit_at_shl_high n (w - k) i (omega arith) ∙ ap (λ (j : ℕ). bit_at n j) same in
    bit_at_or (n / 2 ^ k) (n * 2 ^ (w - k) % 2 ^ w) i ∙ (λ j. max (right j) (left j)) ∙ zero_max (bit_at n (i + k - w)) where
      zero_max : (x : ℕ) → max 0 x ≡ x
      zero_max x = omega arith

-- ---- the number of k bits
abbrev pub number_of : ℕ → (ℕ → ℕ) → ℕ
number_of zero b = 0
number_of (suc k) b = b k * 2 ^ k + number_of k b

pub number_of-lt : (k : ℕ) (b : ℕ → ℕ) → ((i : ℕ) → b i < 2) → number_of k b < 2 ^ k
number_of-lt zero b h = omega arith
number_of-lt (suc k) b h = omega (arith, mul-add-lt (b k) (2 ^ k) (number_of k b) 2 (h k) (number_of-lt k b h), pow-suc 2 k)

pub bit_at-number_of : (k : ℕ) (b : ℕ → ℕ) → ((i : ℕ) → b i < 2) → (i : ℕ) → i < k → bit_at (number_of k b) i ≡ b i
bit_at-number_of zero b h i lt = absurd (omega arith)
bit_at-number_of (suc k) b h i lt = elim (cases_lt i k) [
  | inl less ↦ bit_at_cat_low (b k) k (number_of k b) i less ∙ bit_at-number_of k b h i less
  | inr more ↦
      let e : i ≡ k = omega arith in
      let z : i - k ≡ 0 = omega arith in
      let below : b i < 2 = h i in
      let small : b i % 2 ≡ b i = omega arith in
      bit_at_cat_high (b k) k (number_of k b) i (number_of-lt k b h) more
      ∙ (λ j. bit_at (b (sym e j)) (z j)) ∙ bit_at_lowest (b i) ∙ small
]

-- one bit more of a number
pub mod_more : (n k : ℕ) → n % 2 ^ k + bit_at n k * 2 ^ k ≡ n % 2 ^ (suc k)
mod_more n k =
    let one : 1 + k ≡ suc k = omega arith in
    add_comm (n % 2 ^ k) (bit_at n k * 2 ^ k) ∙ sym (mod-pow-add n 1 k) ∙ ap (λ (j : ℕ). n % 2 ^ j) one
