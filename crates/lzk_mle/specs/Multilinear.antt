-- The multilinear extension of a table.
use Rattle.std.specs.Prelude.{ℕ, ◌==◌, ◌/◌, ◌%◌, List, [], ◌∷◌, length, cond}
use Rattle.std.proofs.Common.{zero, suc}
use Rattle.lzk_field.specs.Ring.{Ops}
use Rattle.lzk_field.specs.Sums.{sum_below, minus, entry}

-- bit 0 of i
abbrev pub low_bit : {A : Type 0} → Ops A → ℕ → A
low_bit o i = cond (i % 2 == 0) o.zero o.one

-- b * r + (1 - b) * (1 - r)
abbrev pub agree : {A : Type 0} → Ops A → A → A → A
agree o b r = o.plus (o.times b r) (o.times (minus o o.one b) (minus o o.one r))

-- the product over the bits of i, the lowest first, of how each agrees with its entry of the point
abbrev pub eq : {A : Type 0} → Ops A → ℕ → List A → A
eq o i [] = o.one
eq o i (r ∷ rs) = o.times (agree o (low_bit o i) r) (eq o (i / 2) rs)

-- the sum over all i below the table's length of eq times entry i
abbrev pub tilde : {A : Type 0} → Ops A → List A → List A → A
tilde o values r = sum_below o (length values) (λ i. o.times (eq o i r) (entry o values i))

-- the point of entry i of a table with k variables: the bits of i, the lowest first
abbrev pub corner : {A : Type 0} → Ops A → ℕ → ℕ → List A
corner o zero i = []
corner o (suc k) i = low_bit o i ∷ corner o k (i / 2)
