use Rattle.std.proofs.lemmas.Bool.{leb-false}
use Rattle.lzk_expr.proofs.Keywords.{too_short, too_long, before_keys, behind_keys}
use Rattle.lzk_expr.proofs.tokens.may_be_key.Goals as goal

pub returns-then-word-lt3 : goal.returns-then-word-lt3
returns-then-word-lt3 c = λ _. too_short c.args.word.now c.if-word-lt3.true

pub returns-then-word-gt7 : goal.returns-then-word-gt7
returns-then-word-gt7 c = λ _. too_long c.args.word.now c.if-word-gt7.true

pub returns-then-word-ge97 : goal.returns-then-word-ge97
returns-then-word-ge97 c = λ e. behind_keys c.args.word.now (leb-false _ _ e)

pub returns-else-word-ge97 : goal.returns-else-word-ge97
returns-else-word-ge97 c = λ _. before_keys c.args.word.now c.if-word-ge97.false
