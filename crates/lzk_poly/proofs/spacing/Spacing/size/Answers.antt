use Rattle.std.proofs.Common.{◌≤◌, ◌^◌, arith}
use Rattle.std.proofs.Math.Pow.{pow_mono}
use native.Mathlib.Decide.{dec_lt}
use Rattle.lzk_poly.proofs.spacing.Spacing.size.Goals as goal

pub overflow_shl-result : goal.overflow_shl-result
overflow_shl-result c =
    let bits = c.in-Binary.bits in
    let few : 2 ^ bits ≤ 65536 = rw c.in-Binary.is at c.requires in
    elim (dec_lt bits 17) [ yes l ↦ omega arith | no l ↦ let long : 17 ≤ bits = omega arith in let more : 2 ^ 17 ≤ 2 ^ bits = pow_mono {i = 17} {j = bits} long in absurd (omega arith) ]
