-- The polynomial through given values, and its values at further points.
use Rattle.std.specs.Prelude.{◌≡◌, ℕ, ◌+◌, ◌<◌, ◌≤◌, List, length, cond}
use Rattle.std.proofs.Common.{eqb}
use Rattle.lzk_field.specs.Ring.{Ops}
use Rattle.lzk_field.specs.Sums.{sum_below, product_below, minus, entry}
use Rattle.lzk_poly.specs.Polynomial.{eval}

-- as many coefficients as there are values, and the i-th value at the i-th point
pub record IsThrough {A : Type 0} (o : Ops A) (point : ℕ → A) (values : List A) (c : List A) : Type 0 where
  pub count : length c ≡ length values
  pub meets : (i : ℕ) → i < length values → eval o c (point i) ≡ entry o values i

-- there is exactly one polynomial through the values
pub record IsInterpolated {A : Type 0} (o : Ops A) (point : ℕ → A) (values : List A) : Type 0 where
  pub through : List A
  pub is_through : IsThrough o point values through
  pub only : (d : List A) → IsThrough o point values d → d ≡ through

-- the one polynomial through the values is y at the j-th point
pub record IsExtension {A : Type 0} (o : Ops A) (point : ℕ → A) (values : List A) (j : ℕ) (y : A) : Type 0 where
  pub one : IsInterpolated o point values
  pub value : y ≡ eval o one.through (point j)

-- the product of the differences of x and each of the first n points but the i-th
abbrev pub others : {A : Type 0} → Ops A → (ℕ → A) → ℕ → ℕ → A → A
others o point n i x = product_below o n (λ k. cond (eqb k i) o.one (minus o x (point k)))

-- Lagrange's polynomial, one at the i-th of the first n points and zero at the others, in x
abbrev pub lagrange : {A : Type 0} → Ops A → (ℕ → A) → ℕ → ℕ → A → A
lagrange o point n i x = o.times (others o point n i x) (o.inverse (others o point n i (point i)))

-- the value at the j-th point of the polynomial through the values, by Lagrange's formula
abbrev pub extension : {A : Type 0} → Ops A → (ℕ → A) → List A → ℕ → A
extension o point values j =
    sum_below o (length values) (λ i. o.times (entry o values i) (lagrange o point (length values) i (point j)))

-- how many values an extender takes, and the end of the points that it reaches
pub record Reach : Type 0 where
  pub count : ℕ
  pub upto : ℕ

-- so many points from one on are further points that are reached
abbrev pub AreFurther : Reach → ℕ → ℕ → Type 0
AreFurther reach from n = (reach.count ≤ from) × (from + n ≤ reach.upto)
