use Rattle.lzk_ligero_answers.proofs.PassLaws.{low_degree_passes, linear_passes, quadratic_passes}
use Rattle.lzk_ligero_answers.proofs.RowLaws.{columns_open}
use Rattle.lzk_ligero_answers.proofs.StandLaws.{combined_rows, linear_sum_stands, zeros_stand}
use Rattle.lzk_ligero_answers.proofs.laws.answers_laws.Goals as goal

pub returns-clause-columns : goal.returns-clause-columns
returns-clause-columns g c = columns_open g.F.Field.ops g.F.Field.coding.element

pub returns-clause-low_degree : goal.returns-clause-low_degree
returns-clause-low_degree g c = low_degree_passes g.F.Field.laws

pub returns-clause-linear : goal.returns-clause-linear
returns-clause-linear g c = linear_passes g.F.Field.laws

pub returns-clause-quadratic : goal.returns-clause-quadratic
returns-clause-quadratic g c = quadratic_passes g.F.Field.laws

pub returns-clause-zeros : goal.returns-clause-zeros
returns-clause-zeros g c = zeros_stand g.F.Field.laws

pub returns-clause-linear_sum : goal.returns-clause-linear_sum
returns-clause-linear_sum g c = linear_sum_stands g.F.Field.laws

pub returns-clause-combined : goal.returns-clause-combined
returns-clause-combined g c = combined_rows g.F.Field.ops g.F.Field.coding.element
