-- Numbers of at most 16 digits have at most 64 bits.
use Rattle.std.proofs.Common.{◌≡◌, ℕ, zero, ◌+◌, ◌*◌, ◌^◌, ◌<◌, ◌≤◌, ◌∙◌, ap, arith, add-one}
use Rattle.std.proofs.Math.Nat.{pow-suc, pow-le-pow_right, mul-le-mul_left}

-- one more digit
pub digit_more : (base have d i : ℕ) → base ≤ 16 → d < base → have + 1 ≤ 16 ^ i → have * base + d + 1 ≤ 16 ^ (i + 1)
digit_more base have d i b lt h =
    let more : have * base ≤ have * 16 = mul-le-mul_left have b in
    let next : 16 ^ (i + 1) ≡ 16 ^ i * 16 = ap (λ n. 16 ^ n) (add-one i) ∙ pow-suc 16 i in
    omega (arith, b, lt, h, more, next)

pub digit_fits : (base have d i : ℕ) → base ≤ 16 → d < base → have + 1 ≤ 16 ^ i → i < 16 → have * base + d < 2 ^ 64
digit_fits base have d i b lt h few =
    let some : zero < 16 = omega arith in
    let last : i + 1 ≤ 16 = omega (arith, few) in
    let most : 16 ^ (i + 1) ≤ 16 ^ 16 = pow-le-pow_right some last in
    omega (arith, digit_more base have d i b lt h, most)
