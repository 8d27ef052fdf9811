use Rattle.std.proofs.Common.{◌∙◌, sym}
use Rattle.lzk_expr.proofs.Runs.{line_at, no_line}
use Rattle.lzk_expr.proofs.words.next_line.Goals as goal

pub returns-in-Some : goal.returns-in-Some
returns-in-Some c = rw (c.split_at.ensures.front, c.split_at-in-Some.ensures.back) (line_at c.args.text.now c.in-Some.i (sym c.byte_at.ensures ∙ c.in-Some.is))

pub returns-in-None : goal.returns-in-None
returns-in-None c = no_line c.args.text.now (sym c.byte_at.ensures ∙ c.in-None.is)
