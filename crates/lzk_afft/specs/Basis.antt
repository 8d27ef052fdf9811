-- The novel polynomial basis of Lin, Chung and Han: products of normalized subspace polynomials, and coefficients in
-- it.
use Rattle.std.specs.Prelude.{◌≡◌, ℕ, ◌/◌, ◌%◌, ◌^◌, ◌<◌, List, length, cond}
use Rattle.std.proofs.Common.{eqb}
use Rattle.lzk_field.specs.Ring.{Ops}
use Rattle.lzk_field.specs.Sums.{sum_below, product_below, minus, entry}

-- S_j(t), the subspace polynomial, which vanishes at the first 2 ^ j points: the product of t less each of them
unfoldable pub vanishing : {A : Type 0} → Ops A → (ℕ → A) → ℕ → A → A
vanishing o point j t = product_below o (2 ^ j) (λ u. minus o t (point u))

-- S_j(t) over its value at point 2 ^ j, where the normalized polynomial is one
unfoldable pub normalized : {A : Type 0} → Ops A → (ℕ → A) → ℕ → A → A
normalized o point j t = o.times (vanishing o point j t) (o.inverse (vanishing o point j (point (2 ^ j))))

-- X_k(t), of degree k: the product of the normalized subspace polynomials at the bits that are 1 in k
unfoldable pub basis_polynomial : {A : Type 0} → Ops A → (ℕ → A) → ℕ → A → A
basis_polynomial o point k t = product_below o k (λ j. cond (eqb (k / 2 ^ j % 2) 1) (normalized o point j t) o.one)

-- the value at t of the polynomial with n coefficients in this basis: the sum of c k times X_k(t)
unfoldable pub basis_sum : {A : Type 0} → Ops A → (ℕ → A) → (ℕ → A) → ℕ → A → A
basis_sum o point c n t = sum_below o n (λ k. o.times (c k) (basis_polynomial o point k t))

-- as many coefficients in this basis as there are values, and the i-th value at the i-th point
pub record AreCoefficients {A : Type 0} (o : Ops A) (point : ℕ → A) (values : List A) (c : List A) : Type 0 where
  pub count : length c ≡ length values
  pub meets : (i : ℕ) → i < length values → basis_sum o point (entry o c) (length c) (point i) ≡ entry o values i
