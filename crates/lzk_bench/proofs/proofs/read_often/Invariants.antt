use Rattle.lzk_profile.specs.Profile.{most_digests}
use Rattle.std.proofs.Common.{◌≤◌}
use Rattle.lzk_layout.specs.Proofs.{HasLengths}
use Rattle.lzk_bench.proofs.proofs.read_often.Given as goal

abbrev pub invariant-loop-k : goal.invariant-loop-k
invariant-loop-k g l = record { lengths : HasLengths l.params l.proof; room : most_digests ≤ l.proof.path.room }
