-- Polynomials as lists of coefficients, the coefficient of x^0 first.
use Rattle.std.specs.Prelude.{List, [], ◌∷◌, length}
use Rattle.lzk_field.specs.Ring.{Ops}
use Rattle.lzk_field.specs.Sums.{sum_below, power, entry}

-- the value at t: the sum of each coefficient times the power of t at its place
abbrev pub power_sum : {A : Type 0} → Ops A → List A → A → A
power_sum o cs t = sum_below o (length cs) (λ k. o.times (entry o cs k) (power o t k))

-- the same by recursion, as c0 + t * (c1 + t * (c2 + ..))
abbrev pub eval : {A : Type 0} → Ops A → List A → A → A
eval o [] t = o.zero
eval o (c ∷ cs) t = o.plus c (o.times t (eval o cs t))

-- the sum of two polynomials, as long as the longer list
abbrev pub add : {A : Type 0} → Ops A → List A → List A → List A
add o [] ys = ys
add o (x ∷ xs) [] = x ∷ xs
add o (x ∷ xs) (y ∷ ys) = o.plus x y ∷ add o xs ys

-- u times a polynomial
abbrev pub scale : {A : Type 0} → Ops A → A → List A → List A
scale o u [] = []
scale o u (x ∷ xs) = o.times u x ∷ scale o u xs

-- the product of two polynomials
abbrev pub multiply : {A : Type 0} → Ops A → List A → List A → List A
multiply o [] ys = []
multiply o (x ∷ xs) ys = add o (scale o x ys) (o.zero ∷ multiply o xs ys)
