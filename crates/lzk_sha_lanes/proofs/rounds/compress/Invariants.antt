use Rattle.std.proofs.Common.{◌≡◌, ℕ, ◌<◌, length, slice_index, ◌*◌}
use Rattle.sha2.specs.Sha256.{IsRoundsAt, word_at}
use Rattle.lzk_sha_lanes.specs.Lanes.{lane, of_four}
use Rattle.lzk_sha_lanes.proofs.rounds.compress.Given as goal

abbrev pub invariant-load : goal.invariant-load
invariant-load l = (length l.w ≡ 16)
    × ((j : ℕ) → j < 4 → (k : ℕ) → k < l.i → slice_index (lane j l.w) k ≡ word_at (of_four l.blocks.a.now l.blocks.b.now l.blocks.c.now l.blocks.d.now j) (4 * k))

abbrev pub invariant-schedule : goal.invariant-schedule
invariant-schedule l = (j : ℕ) → j < 4 → IsRoundsAt (of_four l.blocks.a.now l.blocks.b.now l.blocks.c.now l.blocks.d.now j) (lane j l.state) (lane j l.w) (lane j l.v) (16 * l.number)
