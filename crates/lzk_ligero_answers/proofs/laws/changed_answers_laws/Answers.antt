use Rattle.lzk_ligero_answers.proofs.PassLaws.{low_degree_fails, linear_fails, quadratic_fails, sums_change}
use Rattle.lzk_ligero_answers.proofs.laws.changed_answers_laws.Goals as goal

pub returns-clause-low_degree : goal.returns-clause-low_degree
returns-clause-low_degree g c = low_degree_fails g.F.Field.laws

pub returns-clause-linear : goal.returns-clause-linear
returns-clause-linear g c = linear_fails g.F.Field.laws

pub returns-clause-quadratic : goal.returns-clause-quadratic
returns-clause-quadratic g c = quadratic_fails g.F.Field.laws

pub returns-clause-sums : goal.returns-clause-sums
returns-clause-sums g c = sums_change g.F.Field.laws
