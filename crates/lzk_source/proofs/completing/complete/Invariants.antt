use Rattle.std.proofs.Common.{◌≡◌, List, vec_len}
use Rattle.lzk_expr.specs.Trees.{Statement}
use Rattle.lzk_source.specs.Heads.{heads_of, headings}
use Rattle.lzk_source.specs.Growing.{all_exprs, exprs_in}
use Rattle.lzk_source.proofs.Completion.{StatementsLeft}
use Rattle.lzk_source.proofs.completing.complete.Given as goal

abbrev pub invariant-loop-head : goal.invariant-loop-head
invariant-loop-head l = (ss : List Statement) → heads_of l.fn.heads.items ≡ headings ss → all_exprs l.fn.ended.items ≡ exprs_in ss → StatementsLeft ss l.heads.items l.ended.items l.statements.items

abbrev pub decreases-loop-head : goal.decreases-loop-head
decreases-loop-head l = vec_len l.heads
