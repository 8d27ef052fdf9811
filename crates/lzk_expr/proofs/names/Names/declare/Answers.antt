use Rattle.std.proofs.Common.{◌∙◌, ap, List, ℕ, Some, bytes_eq}
use Rattle.std.specs.Map.{update}
use Rattle.lzk_expr.specs.Table.{found}
use Rattle.lzk_expr.proofs.names.Names.declare.Goals as goal

pub returns-clause-declares : goal.returns-clause-declares
returns-clause-declares c = λ w. c.in_ok-before.ensures.updates.0 w ∙ ap (λ (v : List ℕ). update bytes_eq (found c.args.self.now.table) v (Some c.args.binding) w) c.new.ensures
