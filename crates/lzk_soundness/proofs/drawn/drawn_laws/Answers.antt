use Rattle.lzk_soundness.proofs.DrawnLaws.Tape.{draws_counted, passing_counted}
use Rattle.lzk_soundness.proofs.drawn.drawn_laws.Goals as goal

pub returns-clause-draws : goal.returns-clause-draws
returns-clause-draws g c = let m = g.F.Field in λ k session id public proof. draws_counted m.ops m.coding k session id public proof

pub returns-clause-passing : goal.returns-clause-passing
returns-clause-passing g c = let m = g.F.Field in λ k session id public proof table opened passes. passing_counted m.ops m.coding k session id public proof table opened passes
