-- Sums over wires and terms, over the operations of a field.
use Rattle.std.specs.Prelude.{ℕ, List, [], ◌∷◌}
use Rattle.lzk_field.specs.Ring.{Ops}
use Rattle.lzk_field.specs.Sums.{sum_below}

-- the sum over all a and b below n
abbrev pub sum_pairs : {A : Type 0} → Ops A → ℕ → (ℕ → ℕ → A) → A
sum_pairs o n f = sum_below o n (λ a. sum_below o n (f a))

-- the sum over all g below k, and all a and b below n
abbrev pub sum_triples : {A : Type 0} → Ops A → ℕ → ℕ → (ℕ → ℕ → ℕ → A) → A
sum_triples o k n f = sum_below o k (λ g. sum_pairs o n (f g))

-- the sum over a list
abbrev pub sum_list : {A X : Type 0} → Ops A → List X → (X → A) → A
sum_list o [] f = o.zero
sum_list o (x ∷ xs) f = o.plus (f x) (sum_list o xs f)
