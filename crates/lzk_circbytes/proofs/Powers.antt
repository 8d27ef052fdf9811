-- Powers of 128.
use Rattle.std.proofs.Common.{◌≡◌, ℕ, zero, suc, ◌-◌, ◌*◌, ◌^◌, ◌≤◌, arith, sub-one, lit≤}
use Rattle.std.proofs.Math.Nat.{pow-succ', one-le-pow}

pub power_step : (k : ℕ) → 1 ≤ k → 128 ^ k ≡ 128 * 128 ^ (k - 1)
power_step zero h = absurd (omega arith)
power_step (suc k) h = rw sub-one (pow-succ' 128 k)

pub power_top : (k : ℕ) → k ≤ 5 → 128 ^ k ≤ 2 ^ 35
power_top zero h = lit≤ tt
power_top (suc zero) h = lit≤ tt
power_top (suc (suc zero)) h = lit≤ tt
power_top (suc (suc (suc zero))) h = lit≤ tt
power_top (suc (suc (suc (suc zero)))) h = lit≤ tt
power_top (suc (suc (suc (suc (suc zero))))) h = lit≤ tt
power_top (suc (suc (suc (suc (suc (suc k)))))) h = absurd (omega arith)

pub power_some : (k : ℕ) → 1 ≤ k → 128 ≤ 128 ^ k
power_some k h = omega (arith, power_step k h, one-le-pow (k - 1) 128 (lit≤ tt))
