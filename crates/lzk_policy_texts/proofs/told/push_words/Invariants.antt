use Rattle.std.proofs.Common.{◌≡◌, ◌++◌, drop, map}
use Rattle.lzk_goldilocks.specs.Elements.{of_number}
use Rattle.lzk_policy_texts.proofs.told.push_words.Given as goal

abbrev pub invariant-loop-word : goal.invariant-loop-word
invariant-loop-word l = l.numbers.items ++ map of_number (drop l.word-index l.words) ≡ l.fn.numbers.items ++ map of_number l.words
