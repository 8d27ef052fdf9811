use Rattle.std.proofs.Common.{◌≡◌, ℕ, ◌+◌, ◌*◌, ◌%◌, ◌^◌, ◌<◌, slice_index}
use Rattle.lzk_prime128.specs.Prime.{p}
use Rattle.lzk_prime128.proofs.words.join_pairs.Given as goal

abbrev pub invariant-loop-k : goal.invariant-loop-k
invariant-loop-k l =
    (j : ℕ) → j < l.k → slice_index l.out j ≡ (slice_index l.pairs (2 * j) + slice_index l.pairs (2 * j + 1) * 2 ^ 128) % p
