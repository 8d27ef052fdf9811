use Rattle.lzk_field.proofs.Numbering.{points_apart}
use Rattle.lzk_poly.proofs.Through.{eval-through, is_through, through-only, through-values_of}
use Rattle.std.proofs.Common.{length, refl}
use Rattle.lzk_poly.proofs.laws.through_laws.Goals as goal

pub returns-clause-meets : goal.returns-clause-meets
returns-clause-meets g c = let m = g.F.Field in λ values short. is_through m.ops m.laws.ring m.laws.field m.coding.element values (points_apart m.laws (length values) short)

pub returns-clause-only : goal.returns-clause-only
returns-clause-only g c = let m = g.F.Field in λ values cs short. through-only m.ops m.laws.ring m.laws.field m.coding.element values cs (points_apart m.laws (length values) short)

pub returns-clause-back : goal.returns-clause-back
returns-clause-back g c = let m = g.F.Field in λ cs short. through-values_of m.ops m.laws.ring m.laws.field m.coding.element (length cs) cs refl (points_apart m.laws (length cs) short)

pub returns-clause-values : goal.returns-clause-values
returns-clause-values g c = let m = g.F.Field in eval-through m.ops m.laws.ring m.coding.element
