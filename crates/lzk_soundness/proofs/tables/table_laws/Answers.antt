use Rattle.lzk_soundness.proofs.TablesLaws.Far.{far_tables_are_caught, far_tables_pass_rarely}
use Rattle.lzk_soundness.proofs.tables.table_laws.Goals as goal

pub returns-clause-far : goal.returns-clause-far
returns-clause-far g c = far_tables_are_caught g.F.Field.laws

pub returns-clause-weights : goal.returns-clause-weights
returns-clause-weights g c = far_tables_pass_rarely g.F.Field.laws
