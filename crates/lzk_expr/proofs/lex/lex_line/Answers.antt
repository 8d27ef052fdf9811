use Rattle.lzk_expr.proofs.FirstLine.{rest_of}
use Rattle.lzk_expr.proofs.lex.lex_line.Goals as goal

pub returns-clause-rest : goal.returns-clause-rest
returns-clause-rest c = rest_of c.args.text.now c.split_at.result.1.now c.next_line.result.0.now c.in-Ok.at c.next_line.result.1 c.in-Ok.ensures.within c.split_at.ensures.back c.next_line.ensures
