-- What the rounds of a layer's sumcheck sum, for any coefficients, weights and values.
use Rattle.std.specs.Prelude.{◌≡◌, ℕ, ◌*◌, ◌-◌, ◌<◌, ◌≤◌, ◌^◌, Bool, true, false, List, [], ◌∷◌, ◌++◌, length}
use Rattle.std.proofs.Common.{zero, suc}
use Rattle.lzk_field.specs.Ring.{Ops}
use Rattle.lzk_field.specs.Sums.{sum_below, entry}
use Rattle.lzk_poly.specs.Polynomial.{eval}
use Rattle.lzk_circuit.specs.Sums.{sum_pairs}
use Rattle.lzk_circuit.specs.Wires.{wire}
use Rattle.lzk_mle.specs.Multilinear.{eq, tilde}

-- a layer's coefficient at each (g, a, b), a weight for each wire of it, and the values of the wires below, whose
-- numbers have so many bits
pub record Layered (A : Type 0) : Type 0 where
  pub coefficient : ℕ → ℕ → ℕ → A
  pub weights : List A
  pub values : List A
  pub bits : ℕ

-- every second entry: from the first on where it is true, else from the second on
abbrev pub every_other : {A : Type 0} → Bool → List A → List A
every_other from_first [] = []
every_other true (x ∷ xs) = x ∷ every_other false xs
every_other false (x ∷ xs) = every_other true xs

-- of the values of a layer's variables, those of the bits of a: bit 0 of a comes first, then bit 0 of b, bit 1 of a and
-- so on
abbrev pub of_a : {A : Type 0} → List A → List A
of_a x = every_other true x

-- those of the bits of b
abbrev pub of_b : {A : Type 0} → List A → List A
of_b x = every_other false x

-- the sum over all g, and all a and b below the width, of weight g times the coefficient times eq(a, xa) times eq(b,
-- xb)
abbrev pub bound_coefficient : {A : Type 0} → Ops A → (ℕ → ℕ → ℕ → A) → List A → ℕ → List A → List A → A
bound_coefficient o q weights width xa xb =
    sum_below o (length weights) (λ g. sum_pairs o width (λ a b.
    o.times (o.times (o.times (entry o weights g) (q g a b)) (eq o a xa)) (eq o b xb)))

-- what is summed, at values of all variables: the bound coefficient times the two extensions
abbrev pub at : {A : Type 0} → Ops A → Layered A → List A → A
at o s x =
    o.times (o.times (bound_coefficient o s.coefficient s.weights (length s.values) (of_a x) (of_b x))
    (tilde o s.values (of_a x))) (tilde o s.values (of_b x))

-- the sum of f over all lists of n zeros and ones
abbrev pub sum_fills : {A : Type 0} → Ops A → ℕ → (List A → A) → A
sum_fills o zero f = f []
sum_fills o (suc n) f = o.plus (sum_fills o n (λ z. f (o.zero ∷ z))) (sum_fills o n (λ z. f (o.one ∷ z)))

-- the sum over all zeros and ones for the variables that are not bound
abbrev pub claim : {A : Type 0} → Ops A → Layered A → List A → A
claim o s bound = sum_fills o (2 * s.bits - length bound) (λ z. at o s (bound ++ z))

-- the claim with the next variable bound at t
abbrev pub round : {A : Type 0} → Ops A → Layered A → List A → A → A
round o s bound t = claim o s (bound ++ t ∷ [])

-- the values fit the bits
abbrev pub IsFitting : {A : Type 0} → Layered A → Type 0
IsFitting s = length s.values ≤ 2 ^ s.bits

-- ---- what holds of the claims and the rounds of a layer

-- the claim with nothing bound is the weighted sum of the layer's wires
abbrev pub BeginsWithWires : {A : Type 0} → Ops A → Layered A → Type 0
BeginsWithWires o s =
    claim o s [] ≡ sum_below o (length s.weights) (λ g. o.times (entry o s.weights g) (wire o s.coefficient s.values g))

-- a round's values at points 0 and 1 add up to the claim before it
abbrev pub RoundsAddUp : {A : Type 0} → Ops A → (ℕ → A) → Layered A → Type 0
RoundsAddUp {A} o point s =
    (bound : List A) → length bound < 2 * s.bits
    → o.plus (round o s bound (point 0)) (round o s bound (point 1)) ≡ claim o s bound

-- a round is one polynomial with three coefficients
abbrev pub RoundsAreCurves : {A : Type 0} → Ops A → Layered A → Type 0
RoundsAreCurves {A} o s =
    (bound : List A) → length bound < 2 * s.bits
    → (c : List A) × ((length c ≡ 3) × ((t : A) → round o s bound t ≡ eval o c t))

-- with all variables bound, the claim is the bound coefficient times the two extensions
abbrev pub EndsWithFactors : {A : Type 0} → Ops A → Layered A → Type 0
EndsWithFactors {A} o s =
    (bound : List A) → length bound ≡ 2 * s.bits
    → claim o s bound
    ≡ o.times (o.times (bound_coefficient o s.coefficient s.weights (length s.values) (of_a bound) (of_b bound))
    (tilde o s.values (of_a bound))) (tilde o s.values (of_b bound))

-- all four
pub record IsSumcheck {A : Type 0} (o : Ops A) (point : ℕ → A) (s : Layered A) : Type 0 where
  pub first : BeginsWithWires o s
  pub next : RoundsAddUp o point s
  pub curve : RoundsAreCurves o s
  pub last : EndsWithFactors o s
