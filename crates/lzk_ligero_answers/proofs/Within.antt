-- Places in tables.
use Rattle.std.specs.Prelude.{ℕ, ◌+◌, ◌*◌, ◌<◌, ◌≤◌}
use Rattle.std.proofs.Common.{arith}
use Rattle.std.proofs.lemmas.Nat.{mul-add-lt}

-- a place of a row of a table
pub row_place : (first i rows width k n : ℕ) → i < rows → k < width → (first + rows) * width ≤ n → (first + i) * width + k < n
row_place first i rows width k n h q fits = omega (arith, mul-add-lt (first + i) width k (first + rows) (omega (arith, h)) q, fits)
