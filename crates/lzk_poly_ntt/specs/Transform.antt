-- The discrete Fourier transform over a field, bit-reversed order, and cyclic convolution.
use Rattle.std.specs.Prelude.{◌≡◌, ℕ, ◌+◌, ◌-◌, ◌*◌, ◌%◌, ◌^◌, ◌<◌, ◌≤◌, List, length, cond}
use Rattle.std.proofs.Common.{zero, suc, ltb}
use Rattle.lzk_field.specs.Ring.{Ops}
use Rattle.lzk_field.specs.Sums.{sum_below, power, entry}

-- Value j of the transform by w of x 0 to x (n - 1): what the polynomial with these coefficients is at the j-th power
-- of w.
abbrev pub dft : {A : Type 0} → Ops A → ℕ → A → (ℕ → A) → ℕ → A
dft o n w x j = sum_below o n (λ i. o.times (x i) (power o (power o w j) i))

-- The inverse of the transform by w, where v is the inverse of w: the transform by v, over the number of the entries.
abbrev pub inverse_dft : {A : Type 0} → Ops A → ℕ → A → (ℕ → A) → ℕ → A
inverse_dft o n v x i = o.times (o.inverse (sum_below o n (λ j. o.one))) (dft o n v x i)

-- A principal root of one of order n: its n-th power is one, and the powers of each of its powers but the first add up
-- to zero.
pub record IsPrincipal {A : Type 0} (o : Ops A) (n : ℕ) (w : A) : Type 0 where
  pub whole : power o w n ≡ o.one
  pub sums : (j : ℕ) → 0 < j → j < n → sum_below o n (λ i. power o (power o w j) i) ≡ o.zero

-- Entry t of the cyclic convolution of x 0 to x (n - 1) and y 0 to y (n - 1): the products of entries whose places add
-- up to t, or to t and n.
abbrev pub cyclic_convolution : {A : Type 0} → Ops A → ℕ → (ℕ → A) → (ℕ → A) → ℕ → A
cyclic_convolution o n x y t = sum_below o n (λ i. o.times (x i) (y ((t + (n - i)) % n)))

-- the number whose lowest so many bits are those of j in reverse order
abbrev pub bit_reversed : ℕ → ℕ → ℕ
bit_reversed zero j = 0
bit_reversed (suc k) j = cond (ltb j (2 ^ k)) (2 * bit_reversed k j) (2 * bit_reversed k (j - 2 ^ k) + 1)

-- the transform of 2 ^ k entries in bit-reversed order
unfoldable pub spectrum : {A : Type 0} → Ops A → ℕ → A → (ℕ → A) → ℕ → A
spectrum o k w x j = dft o (2 ^ k) w x (bit_reversed k j)

-- A root of one of order 2 ^ k: its power at half of that is minus one, and for a single entry it is one.
unfoldable pub IsRoot : {A : Type 0} → Ops A → ℕ → A → Type 0
IsRoot o zero w = w ≡ o.one
IsRoot o (suc k) w = power o w (2 ^ k) ≡ o.neg o.one

-- From place 2 ^ (k - 1) on stand as many powers of w, the twiddle factors of the highest level. Before them stand
-- those of the levels below, of the square of w.
abbrev pub AreTwiddles : {A : Type 0} → Ops A → ℕ → A → List A → Type 0
AreTwiddles o zero w ts = w ≡ w
AreTwiddles o (suc k) w ts =
    ((i : ℕ) → i < 2 ^ k → entry o ts (2 ^ k + i) ≡ power o w i) × AreTwiddles o k (o.times w w) ts

-- as many values as a transform of so many levels has, and no fewer twiddle factors
abbrev pub HasLevels : {A : Type 0} → ℕ → List A → List A → Type 0
HasLevels bits values twiddles = (length values ≡ 2 ^ bits) × (length values ≤ length twiddles)

-- one doubled so many times, which is what a backward transform of so many levels multiplies by
abbrev pub doubled : {A : Type 0} → Ops A → ℕ → A
doubled o zero = o.one
doubled o (suc k) = o.plus (doubled o k) (doubled o k)

-- a root of one whose order is 2 ^ bits
pub record Order (A : Type 0) : Type 0 where
  pub bits : ℕ
  pub root : A
