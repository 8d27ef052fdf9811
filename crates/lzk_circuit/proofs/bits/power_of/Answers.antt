use Rattle.std.proofs.Common.{◌≡◌, ◌*◌, ◌^◌, ◌%◌, arith}
use Rattle.std.proofs.Math.Nat.{mod-eq_of_lt}
use Rattle.std.proofs.lemmas.Nat.{pow_below}
use Rattle.lzk_circuit.proofs.bits.power_of.Goals as goal

pub returns : goal.returns
returns c =
    let k = c.args.bits in
    let whole : (1 * 2 ^ k) % 2 ^ 64 ≡ 1 * 2 ^ k = mod-eq_of_lt (omega (arith, pow_below k 64 (omega arith))) in
    omega (arith, whole)
