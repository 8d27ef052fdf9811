use Rattle.std.proofs.Common.{◌≡◌, [], length}
use Rattle.lzk_expr.specs.Texts.{runs, is_plain}
use Rattle.lzk_policy.specs.Lines.{texts_behind}
use Rattle.lzk_policy.proofs.reading.texts_behind.Given as goal

abbrev pub invariant-loop-word : goal.invariant-loop-word
invariant-loop-word l =
    texts_behind l.size [] (runs is_plain l.words) ≡ texts_behind l.size l.texts.items (runs is_plain l.left)

abbrev pub decreases-loop-word : goal.decreases-loop-word
decreases-loop-word l = length l.left
