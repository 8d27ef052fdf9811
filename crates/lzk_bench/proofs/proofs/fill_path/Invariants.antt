use Rattle.lzk_profile.specs.Profile.{most_digests}
use Rattle.std.proofs.Common.{◌≡◌, ◌≤◌, length}
use Rattle.lzk_bench.proofs.proofs.fill_path.Given as goal

abbrev pub invariant-loop-k : goal.invariant-loop-k
invariant-loop-k l = record { count : length l.path.digests ≡ l.k; room : l.path.room ≡ l.initial.path.room; wide : most_digests ≤ l.path.room }
