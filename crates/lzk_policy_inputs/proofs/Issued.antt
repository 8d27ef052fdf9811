-- What is shown under a root is of a record that was issued there.
use Rattle.std.proofs.Common.{arith}
use Rattle.lzk_sha_path.specs.Trees.{IsRecord}
use Rattle.lzk_sha_path.proofs.Trees.{climb}
use Rattle.lzk_policy_inputs.specs.Issued.{OnlyIssuedAreShown}

pub only_issued : OnlyIssuedAreShown
only_issued p depth levels root leaf beside m values policy is s =
    let bytes = s.bytes in
    let size = bytes.size_is in
    let few = policy.block in
    let record_is : IsRecord m = record { short = omega (arith, size, few); bytes = bytes.bytes_are } in
    climb depth levels root leaf beside m is record_is s.leaf
