-- What the bodies do on the way to a product, a square and an inverse. Only the contracts of private functions cite
-- this file.
use Rattle.std.specs.Prelude.{◌≡◌, ℕ, ◌*◌, ◌/◌, ◌%◌, ◌^◌, ◌<◌, List, slice_index, bit_and}
use Rattle.std.proofs.Common.{zero, suc}
use Rattle.lzk_gf128.specs.declared.arith.Wide.{Wide}
use Rattle.lzk_gf128.specs.Linear.{◌⊕◌}
use Rattle.lzk_gf128.specs.Product.{product, moved}
use Rattle.lzk_gf128.specs.Inverse.{squares}

-- the number with these two words
abbrev pub joined : ℕ → ℕ → ℕ
joined upper lower = (upper * 2 ^ 64 % 2 ^ 128) ⊕ lower

-- the multiples by the polynomials below degree 4
abbrev pub IsMultiples : ℕ → List ℕ → Type 0
IsMultiples a xs = (i : ℕ) → i < 16 → slice_index xs i ≡ product 4 a i

-- number i of those whose words are listed
abbrev pub numbered : List ℕ → List ℕ → ℕ → ℕ
numbered low high i = joined (slice_index high i) (slice_index low i)

-- the low word, and the high word times x^128
abbrev pub in_wide : Wide → ℕ
in_wide w = w.low ⊕ moved 128 w.high

-- the low k bits of n, bit i at the place 2 * i
abbrev pub at_even : ℕ → ℕ → ℕ
at_even zero n = 0
at_even (suc k) n = (n % 2) ⊕ (4 * at_even k (n / 2))

-- the same, shut, for clauses
unfoldable pub spread : ℕ → ℕ
spread n = at_even 32 n

-- n beside itself moved up, where mask is set
abbrev pub beside : ℕ → ℕ → ℕ → ℕ
beside n by mask = bit_and (n ⊕ (n * 2 ^ by % 2 ^ 64)) mask

-- n squarings, shut
unfoldable pub squared : ℕ → ℕ → ℕ
squared n a = squares n a
