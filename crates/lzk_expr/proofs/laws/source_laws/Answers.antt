use Rattle.lzk_expr.proofs.EveryText.{some_reading}
use Rattle.lzk_expr.proofs.laws.source_laws.Goals as goal

pub returns : goal.returns
returns c = record { some = some_reading }
