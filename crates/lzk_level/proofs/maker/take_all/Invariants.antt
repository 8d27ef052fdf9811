use Rattle.std.proofs.Common.{drop}
use Rattle.lzk_expr.specs.Trees.{SourceTree}
use Rattle.lzk_expr.specs.Codes.{IsCodeOf, code_words, code_done, nameless}
use Rattle.lzk_level.specs.Steps.{held_in}
use Rattle.lzk_level.specs.Makings.{IsOnTheWay}
use Rattle.lzk_level.proofs.maker.take_all.Given as goal

abbrev pub invariant-loop-i : goal.invariant-loop-i
invariant-loop-i g l =
    (source : SourceTree) → IsCodeOf l.code source
    → IsOnTheWay g.F.Field.ops g.F.Field.coding.element l.code.publics l.code.privates (code_words l.code.numbers (drop l.i l.code.words)) (code_done (nameless source.statements)) (held_in l.maker)
