use Rattle.std.proofs.Common.{sym, ◌∙◌}
use Rattle.lzk_expr.proofs.Hashless.{no_hash}
use Rattle.lzk_expr.proofs.Runs.{content_at, content_none}
use Rattle.lzk_expr.proofs.words.content.Goals as goal

pub returns-then-not-contains : goal.returns-then-not-contains
returns-then-not-contains c = content_none c.args.line.now (no_hash c.args.line.now (sym c.contains.ensures.value ∙ c.if-not-contains.true))

pub returns-in-Some : goal.returns-in-Some
returns-in-Some c = content_at c.args.line.now c.in-Some.i (sym c.byte_at.ensures ∙ c.in-Some.is)

pub returns-in-None : goal.returns-in-None
returns-in-None c = content_none c.args.line.now (sym c.byte_at.ensures ∙ c.in-None.is)
