use Rattle.lzk_soundness.proofs.ChanceLaws.Counting.{bad_draws_few}
use Rattle.lzk_soundness.proofs.ChanceLaws.Splitting.{two_parts}
use Rattle.lzk_soundness.proofs.chance.counting_laws.Goals as goal

pub returns-clause-draws : goal.returns-clause-draws
returns-clause-draws g c = λ bad d ds n few. bad_draws_few _ bad d ds n few

pub returns-clause-parts : goal.returns-clause-parts
returns-clause-parts g c = λ ds wins first m n most rest. two_parts ds wins first n most m rest
