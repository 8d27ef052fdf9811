use Rattle.lzk_field.proofs.Numbering.{points_apart}
use Rattle.lzk_poly.proofs.Extensions.{extension-given}
use Rattle.lzk_poly.proofs.Through.{extension-values_of}
use Rattle.lzk_poly.proofs.ExtensionLaws.{extension-sum, extension-longer, extension-multiply}
use Rattle.std.proofs.Common.{length}
use Rattle.lzk_poly.proofs.laws.extension_laws.Goals as goal

pub returns-clause-given : goal.returns-clause-given
returns-clause-given g c = let m = g.F.Field in λ values short. extension-given m.ops m.laws.ring m.laws.field m.coding.element values (points_apart m.laws (length values) short)

pub returns-clause-polynomials : goal.returns-clause-polynomials
returns-clause-polynomials g c = let m = g.F.Field in λ n cs enough short. extension-values_of m.ops m.laws.ring m.laws.field m.coding.element n cs enough (points_apart m.laws n short)

pub returns-clause-longer : goal.returns-clause-longer
returns-clause-longer g c = let m = g.F.Field in λ values longer enough short. extension-longer m.ops m.laws.ring m.laws.field m.coding.element values longer enough (points_apart m.laws (length longer) short)

pub returns-clause-products : goal.returns-clause-products
returns-clause-products g c =
    let m = g.F.Field in
    λ xs ys products first second enough short. extension-multiply m.ops m.laws.ring m.laws.field m.coding.element xs ys products first second enough (points_apart m.laws (length products) short)

pub returns-clause-sums : goal.returns-clause-sums
returns-clause-sums g c = let m = g.F.Field in extension-sum m.ops m.laws.ring m.coding.element
