-- Coefficients that are kept as a list of pairs of numbers.
use Rattle.std.specs.Prelude.{ℕ, ◌<◌, ◌/◌, ◌+◌, ◌*◌, ◌==◌, cond, List, [], ◌∷◌}
use Rattle.std.specs.Coded.{Unit-prop, le_prop}
use mathlib.Core.HLevel.{×₃_prop}
use Rattle.lzk_field.specs.Ring.{Ops}
use Rattle.lzk_field.specs.Sums.{minus, entry}
use Rattle.lzk_circuit.specs.declared.layer.Term.{Term}
use Rattle.lzk_circuit.specs.Sums.{sum_list}
use Rattle.lzk_mle.specs.Multilinear.{low_bit, agree}
use Rattle.lzk_sumcheck_rounds.specs.declared.pairs.Pair.{Pair}

-- the pair of a term's two wires below, with the weight of its wire
abbrev pub first_pair : {A : Type 0} → Ops A → List A → Term A → Pair A
first_pair o weights t = record { a = t.a; b = t.b; coef = o.times (entry o weights t.g) t.coef }

-- a pair with the first bit of a bound at x, and the two numbers in each other's place
abbrev pub bind_pair : {A : Type 0} → Ops A → A → Pair A → Pair A
bind_pair o x p = record { a = p.b; b = p.a / 2; coef = o.times p.coef (agree o (low_bit o p.a) x) }

-- all numbers are below n and m
abbrev pub ArePairs : {A : Type 0} → ℕ → ℕ → List (Pair A) → Type 0
ArePairs n m [] = Unit {0}
ArePairs n m (p ∷ ps) = (p.a < n) × (p.b < m) × ArePairs n m ps

-- there is one proof of it at most
pub ArePairs-prop : {A : Type 0} (n m : ℕ) (ps : List (Pair A)) → IsProp (ArePairs n m ps)
ArePairs-prop n m [] = Unit-prop
ArePairs-prop n m (p ∷ ps) = ×₃_prop le_prop le_prop (ArePairs-prop n m ps)

-- the table with its first variable bound
abbrev pub bound_entry : {A : Type 0} → Ops A → A → List A → ℕ → A
bound_entry o x table i =
    o.plus (o.times (minus o o.one x) (entry o table (2 * i))) (o.times x (entry o table (2 * i + 1)))

-- what the pairs count for at i and j
abbrev pub spread : {A : Type 0} → Ops A → List (Pair A) → ℕ → ℕ → A
spread o ps i j = sum_list o ps (λ p. cond (i == p.a) (cond (j == p.b) p.coef o.zero) o.zero)
