use Rattle.std.proofs.Common.{◌≡◌, map, length}
use Rattle.lzk_expr.specs.Texts.{runs, is_plain}
use Rattle.lzk_expr.specs.Numbers.{words_to}
use Rattle.lzk_expr.proofs.numbers.take_words.Given as goal

abbrev pub invariant-loop-word : goal.invariant-loop-word
invariant-loop-word g l = words_to g.F.Field.coding.size l.count l.line (runs is_plain l.bytes) (map g.F.Field.coding.number l.fn.found.items) ≡ words_to g.F.Field.coding.size l.count l.line (runs is_plain l.rest) (map g.F.Field.coding.number l.found.items)

abbrev pub decreases-loop-word : goal.decreases-loop-word
decreases-loop-word g l = length l.rest
