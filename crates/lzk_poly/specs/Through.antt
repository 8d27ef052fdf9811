-- The polynomial through given values, as its coefficients, and the values of a polynomial.
use Rattle.std.specs.Prelude.{ℕ, cond, List, [], ◌∷◌, length, map}
use Rattle.std.proofs.Common.{zero, suc, eqb}
use Rattle.std.specs.List.{range_with_len}
use Rattle.lzk_field.specs.Ring.{Ops}
use Rattle.lzk_field.specs.Sums.{sum_below, entry}
use Rattle.lzk_poly.specs.Polynomial.{eval, add, scale, multiply}
use Rattle.lzk_poly.specs.Extension.{others, lagrange}

-- the sum of f 0 to f (n - 1)
abbrev pub add_below : {A : Type 0} → Ops A → ℕ → (ℕ → List A) → List A
add_below o zero f = []
add_below o (suc n) f = add o (add_below o n f) (f n)

-- the product of x - point k over the k below n other than i
abbrev pub other_roots : {A : Type 0} → Ops A → (ℕ → A) → ℕ → ℕ → List A
other_roots o point i zero = o.one ∷ []
other_roots o point i (suc n) =
    cond (eqb n i) (other_roots o point i n) (multiply o (o.neg (point n) ∷ o.one ∷ []) (other_roots o point i n))

-- the polynomial through the values at the first points, by Lagrange's formula
unfoldable pub through : {A : Type 0} → Ops A → (ℕ → A) → List A → List A
through o point values =
    let n = length values in
    add_below o n
    (λ i. scale o (o.times (entry o values i) (o.inverse (others o point n i (point i)))) (other_roots o point i n))

-- its value at x, by the same formula
abbrev pub through_at : {A : Type 0} → Ops A → (ℕ → A) → List A → A → A
through_at o point values x =
    sum_below o (length values) (λ i. o.times (entry o values i) (lagrange o point (length values) i x))

-- the polynomial's values at the first n points
abbrev pub values_of : {A : Type 0} → Ops A → (ℕ → A) → ℕ → List A → List A
values_of o point n cs = map (λ k. eval o cs (point k)) (range_with_len 0 n)
