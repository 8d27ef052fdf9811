use Rattle.std.proofs.Common.{arith}
use Rattle.std.proofs.lemmas.List.Kept.{AllPairs-from_increasing}
use Rattle.lzk_tests_ground.proofs.ground.trees.are_opened.Goals as goal

pub returns : goal.returns
returns c = λ _. record {
  ascending = λ i j less lt. AllPairs-from_increasing c.args.opened.now (λ k h. c.opened.invariant.rising k (omega arith)) i j 0 less lt;
  below = λ k lt. c.opened.invariant.below k (omega arith);
  some = omega arith;
}
