use Rattle.std.proofs.Common.{◌≡◌, ℕ, ◌+◌, ◌-◌, ◌<◌, ◌≤◌, length, slice_index}
use Rattle.lzk_prime128.specs.Drawn.{drawn}
use Rattle.lzk_prime128.proofs.words.DoubledWords.fill.Given as goal

abbrev pub invariant-loop-done : goal.invariant-loop-done
invariant-loop-done g l = record {
  inside : l.done ≤ length l.out;
  words : (j : ℕ) → j < l.done → slice_index l.out j ≡ drawn (g.W.Words.at l.self.words) (l.first + j);
}

abbrev pub decreases-loop-done : goal.decreases-loop-done
decreases-loop-done g l = length l.out - l.done
