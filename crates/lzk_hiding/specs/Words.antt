-- How far the elements of random words are from uniform.
use Rattle.lzk_shares.specs.Shares.{most_random}
use Rattle.std.specs.Prelude.{ℕ, ◌-◌, ◌*◌, ◌%◌, ◌^◌, ◌≤◌}
use Rattle.lzk_field.specs.Ring.{Ops}
use Rattle.lzk_circuit.specs.Valid.{Wiring, IsValid}
use Rattle.lzk_layout.specs.Sizes.{params_of}
use Rattle.lzk_hiding.specs.Seen.{random_count}

-- Of the numbers below n each element of a field of so many has the same number, and n % size elements have one more
-- (`WordsCounted`). By so much, over size times n, they are not uniform: the sum of what these elements have too
-- much.
abbrev pub excess : ℕ → ℕ → ℕ
excess size n = n % size * (size - n % size)

-- the excess, so many times, is at most one part in 2^by
abbrev pub IsSmall : ℕ → ℕ → ℕ → ℕ → Type 0
IsSmall size n times by = times * excess size n * 2 ^ by ≤ size * n

-- no valid circuit has more random elements
abbrev pub RandomAreFew : {A : Type 0} → Ops A → Type 0
RandomAreFew {A} o = (c : Wiring A) → IsValid o c → random_count (params_of c) ≤ most_random
