use Rattle.lzk_profile.specs.Profile.{most_digests}
use Rattle.std.proofs.Common.{◌≡◌, ◌≤◌, length}
use Rattle.lzk_layout.specs.Sizes.{proof_length}
use Rattle.lzk_layout.specs.Proofs.{HasLengths}
use Rattle.lzk_bench.proofs.proofs.write_often.Given as goal

abbrev pub invariant-loop-k : goal.invariant-loop-k
invariant-loop-k g l = record {
  lengths : HasLengths l.params l.proof;
  few : length l.proof.path.digests ≤ most_digests;
  room : length l.bytes ≡ proof_length g.F.Field.coding.bytes l.params (length l.proof.path.digests);
}
