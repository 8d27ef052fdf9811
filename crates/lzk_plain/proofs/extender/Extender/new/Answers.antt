use Rattle.lzk_poly.proofs.Interpolate.{points_interpolated}
use Rattle.lzk_plain.proofs.extender.Extender.new.Goals as goal

pub returns-in_err-weights-clause-one : goal.returns-in_err-weights-clause-one
returns-in_err-weights-clause-one g c = points_interpolated g.F.Field.laws

pub returns-clause-one : goal.returns-clause-one
returns-clause-one g c = points_interpolated g.F.Field.laws
