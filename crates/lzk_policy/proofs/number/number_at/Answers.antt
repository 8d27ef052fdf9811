use Rattle.std.proofs.Common.{◌≤◌, ◌<◌, ◌^◌, ℕ, arith}
use Rattle.std.proofs.Math.Nat.{pow-le-pow_right}
use Rattle.lzk_policy.proofs.number.number_at.Goals as goal

small : (n i : ℕ) → n < 256 ^ i → i ≤ 6 → n < 2 ^ 48
small n i l le = let most : 256 ^ i ≤ 256 ^ 6 = pow-le-pow_right (omega arith) le in omega (arith, l, most)

pub overflow_mul-number : goal.overflow_mul-number
overflow_mul-number c =
    let below = small c.loop-i.number c.loop-i.i c.loop-i.invariant.below (omega arith) in omega (arith, below)

pub overflow_add-number : goal.overflow_add-number
overflow_add-number c =
    let below = small c.loop-i.number c.loop-i.i c.loop-i.invariant.below (omega arith) in omega (arith, below)
