-- The least number that passes a test, and how many bits number so many wires.
use Rattle.std.specs.Prelude.{◌≡◌, ℕ, ◌+◌, ◌*◌, ◌^◌, ◌<◌, ◌≤◌, nat_le, Bool, true, false, cond}
use Rattle.std.proofs.Common.{zero, suc, refl, sym, ap, arith, inl, inr, subst}
use Rattle.std.proofs.Math.Nat.{two-pow-succ}
use Rattle.std.proofs.lemmas.Bool.{cases_eq, cases_lt, le-leb, lt-leb, leb-true, leb-false}
use Rattle.lzk_circuit.specs.Bits.{least_from, bits}
use Rattle.lzk_circuit.specs.Limits.{most_width, most_bits}

-- the first step of the search, where the test of k answers b
at_most : (test : ℕ → Bool) (n k m : ℕ) (b : Bool) → test k ≡ b → k ≤ m → test m ≡ true → (k + 1 ≤ m → least_from test n (k + 1) ≤ m) → cond b k (least_from test n (k + 1)) ≤ m
at_most test n k m true e le t more = le
at_most test n k m false e le t more =
    elim (cases_eq k m) [
      | inl same ↦ let u : test m ≡ false = subst (λ (x : ℕ). test x ≡ false) same e in absurd cc
      | inr other ↦ more (omega arith)
    ]

pub least_most : (test : ℕ → Bool) (n k m : ℕ) → k ≤ m → test m ≡ true → least_from test n k ≤ m
least_most test zero k m le t = le
least_most test (suc n) k m le t = at_most test n k m (test k) refl le t (λ le'. least_most test n (k + 1) m le' t)

at_least : (test : ℕ → Bool) (n k m : ℕ) (b : Bool) → test k ≡ b → k ≤ m → test m ≡ true → ((j : ℕ) → k ≤ j → j < m → test j ≡ false) → (k + 1 ≤ m → least_from test n (k + 1) ≡ m)
    → cond b k (least_from test n (k + 1)) ≡ m
at_least test n k m true e le t below more =
    elim (cases_eq k m) [
      | inl same ↦ same
      | inr other ↦ let u : test k ≡ false = below k (omega arith) (omega arith) in absurd cc
    ]
at_least test n k m false e le t below more =
    elim (cases_eq k m) [
      | inl same ↦ let u : test m ≡ false = subst (λ (x : ℕ). test x ≡ false) same e in absurd cc
      | inr other ↦ more (omega arith)
    ]

-- m passes, and no number from k on below it
pub least_is : (test : ℕ → Bool) (n k m : ℕ) → k ≤ m → m ≤ k + n → test m ≡ true → ((j : ℕ) → k ≤ j → j < m → test j ≡ false) → least_from test n k ≡ m
least_is test zero k m le near t below = omega arith
least_is test (suc n) k m le near t below =
    at_least test n k m (test k) refl le t below (λ le'. least_is test n (k + 1) m le' (omega arith) t (λ j above less. below j (omega arith) less))

passes_step : (test : ℕ → Bool) (n k : ℕ) (b : Bool) → test k ≡ b → test (least_from test n (k + 1)) ≡ true → test (cond b k (least_from test n (k + 1))) ≡ true
passes_step test n k true e more = e
passes_step test n k false e more = more

-- what is found passes, where the number furthest away does
pub least_passes : (test : ℕ → Bool) (n k m : ℕ) → m ≡ k + n → test m ≡ true → test (least_from test n k) ≡ true
least_passes test zero k m far t = let e : m ≡ k = omega arith in subst (λ (x : ℕ). test x ≡ true) e t
least_passes test (suc n) k m far t = passes_step test n k (test k) refl (least_passes test n (k + 1) m (omega arith) t)

first_step : (test : ℕ → Bool) (n k j : ℕ) (b : Bool) → test k ≡ b → k ≤ j → j < cond b k (least_from test n (k + 1)) → (k + 1 ≤ j → j < least_from test n (k + 1) → test j ≡ false) → test j ≡ false
first_step test n k j true e le less more = absurd (omega arith)
first_step test n k j false e le less more =
    elim (cases_eq k j) [
      | inl same ↦ subst (λ (x : ℕ). test x ≡ false) same e
      | inr other ↦ more (omega arith) less
    ]

-- no number before it passes
pub least_first : (test : ℕ → Bool) (n k j : ℕ) → k ≤ j → j < least_from test n k → test j ≡ false
least_first test zero k j le less = absurd (omega arith)
least_first test (suc n) k j le less = first_step test n k j (test k) refl le less (λ le' less'. least_first test n (k + 1) j le' less')

pub below_power : (n : ℕ) → n < 2 ^ n
below_power zero = omega arith
below_power (suc n) = omega (arith, below_power n, two-pow-succ n)

pub power_more : (k : ℕ) → 2 ^ k * 2 ≡ 2 ^ (k + 1)
power_more k = let e : k + 1 ≡ suc k = omega arith in let f : 2 ^ (k + 1) ≡ 2 ^ suc k = ap (λ (x : ℕ). 2 ^ x) e in omega (arith, two-pow-succ k)

-- ---- bits

-- no power with an exponent below k reaches n
abbrev pub AllFall : ℕ → ℕ → Type 0
AllFall n k = (j : ℕ) → j < k → 2 ^ j < n

reach : (n k : ℕ) → AllFall n k → k ≤ n
reach n zero below = omega arith
reach n (suc k) below = omega (arith, below k (omega arith), below_power k)

pub bits_is : (n k : ℕ) → AllFall n k → n ≤ 2 ^ k → k ≡ bits n
unfolding bits
bits_is n k below le =
    sym (least_is (λ i. nat_le n (2 ^ i)) n 0 k (omega arith) (omega (arith, reach n k below)) (le-leb n (2 ^ k) le) (λ j above less. lt-leb n (2 ^ j) (below j less)))

pub fall_more : (n k : ℕ) → AllFall n k → 2 ^ k < n → AllFall n (k + 1)
fall_more n k below lt j less =
    elim (cases_lt j k) [
      | inl l ↦ below j l
      | inr le ↦ let e : j ≡ k = omega arith in rw e lt
    ]

pub bits_few : (n : ℕ) → n ≤ most_width → bits n ≤ most_bits
unfolding bits
bits_few n le = least_most (λ i. nat_le n (2 ^ i)) n 0 most_bits (omega arith) (le-leb n (2 ^ most_bits) (omega (arith, le)))

-- so many bits number n wires
pub bits_enough : (n : ℕ) → n ≤ 2 ^ bits n
unfolding bits
bits_enough n = leb-true n (2 ^ bits n) (least_passes (λ i. nat_le n (2 ^ i)) n 0 n (omega arith) (le-leb n (2 ^ n) (omega (arith, below_power n))))

-- and fewer do not
pub bits_least : (n k : ℕ) → k < bits n → 2 ^ k < n
unfolding bits
bits_least n k less = leb-false n (2 ^ k) (least_first (λ i. nat_le n (2 ^ i)) n 0 k (omega arith) less)
