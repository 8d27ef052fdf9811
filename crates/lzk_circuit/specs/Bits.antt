-- How many bits number the wires of a layer.
use Rattle.std.specs.Prelude.{ℕ, ◌+◌, ◌^◌, nat_le, Bool, if◌then◌else◌}
use Rattle.std.proofs.Common.{zero, suc}

-- the least number from k on that passes the test, looking no further than n above k
abbrev pub least_from : (ℕ → Bool) → ℕ → ℕ → ℕ
least_from test zero k = k
least_from test (suc n) k = if test k then k else least_from test n (k + 1)

-- the least k with 2 ^ k no less than n: the bits that number n wires
unfoldable pub bits : ℕ → ℕ
bits n = least_from (λ k. nat_le n (2 ^ k)) n 0
