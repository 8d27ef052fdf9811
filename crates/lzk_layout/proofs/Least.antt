-- How wide rows are.
use Rattle.lzk_profile.specs.Profile.{row_factor}
use Rattle.std.specs.Prelude.{◌≡◌, ℕ, ◌+◌, ◌*◌, ◌^◌, ◌<◌, ◌≤◌, nat_le}
use Rattle.std.proofs.Common.{ap, arith}
use Rattle.std.proofs.lemmas.Bool.{le-leb, lt-leb}
use Rattle.std.proofs.Math.Pow.{pow_mono}
use Rattle.std.proofs.lemmas.Nat.{mul-le}
use Rattle.lzk_circuit.proofs.BitLaws.{least_is}
use Rattle.lzk_layout.specs.Sizes.{row_width}

pub width_64 : (n : ℕ) → row_factor * n ≤ 4096 → row_width n ≡ 64
unfolding row_width
width_64 n le =
    ap (λ (k : ℕ). 2 ^ k) (least_is (λ k. nat_le (row_factor * n) (2 ^ k * 2 ^ k)) n 6 6 (omega arith) (omega arith) (le-leb (row_factor * n) 4096 le) (λ j above less. absurd (omega arith)))

square_most : (j m : ℕ) → j ≤ m → 2 ^ j * 2 ^ j ≤ 2 ^ m * 2 ^ m
square_most j m le = let power : 2 ^ j ≤ 2 ^ m = pow_mono {i = j} {j = m} le in mul-le (2 ^ j) (2 ^ j) (2 ^ m) (2 ^ m) power power

-- the next width, where that of exponent m is too little
pub width_next : (n m k : ℕ) → k ≡ m + 1 → 6 ≤ m → m ≤ 5 + n → 2 ^ m * 2 ^ m < row_factor * n → row_factor * n ≤ 2 ^ k * 2 ^ k → row_width n ≡ 2 ^ k
unfolding row_width
width_next n m k next low near small enough =
    ap (λ (i : ℕ). 2 ^ i) (least_is (λ i. nat_le (row_factor * n) (2 ^ i * 2 ^ i)) n 6 k (omega arith) (omega arith) (le-leb (row_factor * n) (2 ^ k * 2 ^ k) enough) (λ j above less. lt-leb (row_factor * n) (2 ^ j * 2 ^ j) (omega (arith, square_most j m (omega arith), small))))
