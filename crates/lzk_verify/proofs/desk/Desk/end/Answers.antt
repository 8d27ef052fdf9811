use Rattle.lzk_verify.proofs.Beginning.{fed_is}
use Rattle.lzk_verify.proofs.desk.Desk.end.Goals as goal

pub returns-clause-idle : goal.returns-clause-idle
returns-clause-idle g c =
    let f = g.F.Field in
    fed_is f.ops f.coding _ _ _ _ _
