-- The shares of every circuit, evaluated.
use Rattle.lzk_profile.specs.Profile.{opened_count, most_bits, most_row}
use Rattle.lzk_shares.specs.Shares.{prime_size, column_share}
use Rattle.std.specs.Prelude.{ℕ, ◌+◌, ◌*◌, ◌^◌, ◌≤◌}
use Rattle.std.proofs.Common.{refl, arith, mul-le-mul_right}
use Rattle.std.proofs.lemmas.Bool.{leb-true}
use Rattle.lzk_field.specs.Coding.{Coding}
use Rattle.lzk_field.specs.Ring.{Ops}
use Rattle.lzk_circuit.specs.Valid.{Wiring, IsValid}
use Rattle.lzk_circuit.proofs.BitLaws.{bits_few}
use Rattle.lzk_layout.specs.Sizes.{params_of}
use Rattle.lzk_layout.specs.Places.{output_bits, width_at}
use Rattle.lzk_layout.proofs.SizeLaws.{narrow, params_bounded}
use Rattle.lzk_soundness.proofs.CountLaws.Numbers.{columns_miss}
use Rattle.lzk_soundness.specs.Rounds.Steps.{most_draws}
use Rattle.lzk_soundness.specs.Forger.Laws.{AreShares}

most_shares : (opened_count + most_row + 2) * column_share ≤ prime_size
most_shares = leb-true ((opened_count + most_row + 2) * column_share) prime_size refl

enough_for : (K by most N size : ℕ) → K ≤ most → most * by ≤ size → size ≤ N → K * by ≤ N
enough_for K by most N size le fits large = let up : K * by ≤ most * by = mul-le-mul_right by le in omega (arith, up, fits, large)

pub shares_small : {A : Type 0} (o : Ops A) (e : Coding A) (c : Wiring A) → IsValid o c → prime_size ≤ e.size → AreShares e c column_share
shares_small o e c valid large =
    let b = params_bounded o c valid in
    let bits : output_bits c ≤ most_bits = bits_few (width_at c 0) (narrow o c 0 valid) in
    let block : (params_of c).block + 2 ≤ opened_count + most_row + 2 = omega (arith, b.block, b.wr) in
    let draws : 3 * most_draws c ≤ opened_count + most_row + 2 = omega (arith, bits) in
    record {
      draws = enough_for (3 * most_draws c) column_share (opened_count + most_row + 2) e.size prime_size draws most_shares large;
      weights = enough_for ((params_of c).block + 2) column_share (opened_count + most_row + 2) e.size prime_size block most_shares large;
      columns = columns_miss o c valid;
    }
