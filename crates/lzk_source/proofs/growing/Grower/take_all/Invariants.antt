use Rattle.std.proofs.Common.{◌≡◌, Some, drop}
use Rattle.lzk_expr.specs.Codes.{CodeReads, code_words, words_read}
use Rattle.lzk_source.specs.Growing.{IsGrown}
use Rattle.lzk_source.proofs.GrowthLaws.{GrownUpTo}
use Rattle.lzk_source.proofs.growing.Grower.take_all.Given as goal

abbrev pub invariant-loop-word : goal.invariant-loop-word
invariant-loop-word l = (old new : CodeReads) → IsGrown l.fn.self old → words_read old (code_words l.numbers l.words) ≡ Some new → GrownUpTo l.numbers (drop l.word-index l.words) l.self new
