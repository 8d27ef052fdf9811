use Rattle.std.proofs.Common.{◌≡◌, ◌*◌, length, take}
use Rattle.sha2.specs.Sha256.{digest_bytes}
use Rattle.lzk_sha_lanes.specs.Lanes.{lane}
use Rattle.lzk_sha_lanes.proofs.message.digest_of.Given as goal

abbrev pub invariant-words : goal.invariant-words
invariant-words l = (length l.out ≡ 32) × (take (4 * l.k) l.out ≡ digest_bytes (lane l.of.j l.state) l.k)
