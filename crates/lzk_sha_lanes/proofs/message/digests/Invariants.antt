use Rattle.std.proofs.Common.{◌≡◌, ℕ, ◌<◌, ◌+◌, ◌/◌, length}
use Rattle.sha2.specs.Sha256.{hash_after, initial_hash_256, padded_message}
use Rattle.lzk_sha_lanes.specs.Lanes.{lane, of_four}
use Rattle.lzk_sha_lanes.proofs.message.digests.Given as goal

abbrev pub invariant-whole : goal.invariant-whole
invariant-whole l = (j : ℕ) → j < 4 → lane j l.state ≡ hash_after initial_hash_256 (padded_message (of_four l.a l.b l.c l.d j)) l.i

abbrev pub invariant-last : goal.invariant-last
invariant-last l = (j : ℕ) → j < 4 → lane j l.state ≡ hash_after initial_hash_256 (padded_message (of_four l.a l.b l.c l.d j)) (length l.a / 64 + l.i)
